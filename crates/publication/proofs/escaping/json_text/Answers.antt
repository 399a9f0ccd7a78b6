-- Proof that `json_text` meets its contract.
use Rattle.std.proofs.Common.{◌≡◌, ℕ, List, [], ◌∷◌, ◌++◌, ◌∙◌, ap, ap₂, append-nil}
use Rattle.json.specs.Print.{print, print_from, quoted}
use Rattle.json.specs.Token.{Token, string}
use Rattle.publication.proofs.escaping.json_text.Goals as goal

pub returns : goal.returns
unfolding print_from
returns c =
    let before : c.string.new.self.before ≡ [] = c.string.ensures.room.0 ∙ c.new-out.ensures.before ∙ c.new.ensures.items in
    let tokens : c.string.new.self.tokens ≡ string c.args.text.now ∷ [] = c.in_ok-string.ensures.ok ∙ ap (λ l. l ++ string c.args.text.now ∷ []) c.new-out.ensures.tokens in
    c.text_of.ensures ∙ c.into_inner.ensures.items ∙ ap₂ (λ (a : List ℕ) (b : List Token). a ++ print b) before tokens
    ∙ append-nil (quoted c.args.text.now)
