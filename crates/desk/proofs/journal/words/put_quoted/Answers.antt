-- Proof that `put_quoted` meets its contract.
use Rattle.std.proofs.Common.{◌≡◌, ◌∙◌, ◌++◌, List, ℕ, Result, Ok, Err, ap, ap₂, append_assoc, flat_map, map-id, sym}
use Rattle.std.proofs.lemmas.Iterator.{YieldsList-from_chars}
use Rattle.std.proofs.lemmas.Iterator.Consumers.{YieldsList-end}
use Rattle.std.specs.Prelude.{OnOk, codes, if◌then◌else◌, is_ok}
use Rattle.std.specs.Str.{chars}
use Rattle.clap.specs.Words.{Text}
use Rattle.desk.specs.RequestLines.{quoted, quoted_character}
use Rattle.desk.proofs.journal.words.put_quoted.Goals as goal

-- a quote, the characters and another quote are appended
whole : {X E : Type 0} (r : Result X E) (old front mid new : Text) (characters : List ℕ) (word : Text) → characters ≡ chars word → front ≡ old ++ codes "\""
    → mid ≡ front ++ flat_map quoted_character characters → new ≡ (if is_ok r then mid ++ codes "\"" else mid) → OnOk r (new ≡ old ++ quoted word)
unfolding quoted
whole (Ok x) old front mid new characters word all begun more last =
    let q = codes "\"" in
    let inner = flat_map quoted_character (chars word) in
    last ∙ (ap (λ (t : Text). t ++ q) (more ∙ ap₂ (λ (t : Text) (cs : List ℕ). t ++ flat_map quoted_character cs) begun all)
    ∙ (append_assoc (old ++ q) inner q ∙ append_assoc old q (inner ++ q)))
whole (Err e) old front mid new characters word all begun more last = tt

pub returns : goal.returns
returns c =
    let end = YieldsList-end (YieldsList-from_chars c.args.word.now c.utf8.word cc) c.loop-character.yielded _ c.loop-character.yielded_by _ _ c.in-None.is c.next.ensures.steps in
    whole c.push_str-2.result _ _ _ _ c.loop-character.yielded c.args.word.now (sym (map-id c.loop-character.yielded) ∙ end.0) c.in_ok-push_str.ensures.bytes c.loop-character.invariant
    c.push_str-2.ensures.bytes
