-- Proof that `ward_file` meets its contract.
use Rattle.std.proofs.Common.{◌≡◌, ◌∙◌, ◌++◌, [], ◌∷◌, ap, sym, append_assoc, append-nil}
use Rattle.std.specs.Prelude.{codes, decimal, string_bytes}
use Rattle.sheet.specs.Lines.{joined}
use Rattle.checker.specs.Tokens.{Text}
use Rattle.checker.proofs.folder_election.ward_file.Goals as goal

by_parts : (first second whole number ending : Text) → first ≡ codes "ward-" → second ≡ first ++ number → whole ≡ second ++ ending → whole ≡ joined (codes "ward-" ∷ number ∷ ending ∷ [])
unfolding joined
by_parts first second whole number ending is then last =
    last ∙ (ap (λ t. t ++ ending) (then ∙ ap (λ t. t ++ number) is) ∙ (append_assoc (codes "ward-") number ending ∙ ap (λ t. codes "ward-" ++ (number ++ t)) (sym (append-nil ending))))

pub returns : goal.returns
returns c =
    by_parts (string_bytes c.in_ok-name.name) (string_bytes c.push_str.new.self) (string_bytes c.push_str-2.new.self) (decimal c.args.ward) c.args.ending.now
    c.in_ok-name.ensures.ok (c.in_ok-push_str.ensures.bytes ∙ ap (λ t. string_bytes c.in_ok-name.name ++ t) c.format.ensures.text) c.in_ok-push_str-2.ensures.bytes
