-- The words of an order.
use Rattle.std.proofs.Common.{◌≡◌, ◌<◌, ◌∙◌, Bool, false, true, ℕ, List, ap, arith, get_or, length, map, refl}
use Rattle.std.specs.List.{list_all}
use Rattle.std.specs.Str.{is_utf8}
use Rattle.std.proofs.lemmas.List.{get_or-map, length-map}
use Rattle.std.proofs.lemmas.List.Folds.{list_all_at}
use Rattle.order_protocol.specs.declared.order_message.MessagePart.{MessagePart}

-- a word that isn't valid UTF-8
pub word_bad : (words : List MessagePart) (place : ℕ) (d : MessagePart) → place < length words → (is_utf8 (get_or words place d).name.now ≡ true → ⊥)
    → list_all is_utf8 (map (λ (p : MessagePart). p.name.now) words) ≡ true → ⊥
word_bad words place d within bad all = by (is_utf8 (get_or words place d).name.now) refl
  where
    by : (b : Bool) → is_utf8 (get_or words place d).name.now ≡ b → ⊥
    by true e = bad e
    by false e =
        let at : is_utf8 (get_or (map (λ (p : MessagePart). p.name.now) words) place d.name.now) ≡ false =
        ap is_utf8 (get_or-map (λ (p : MessagePart). p.name.now) words place d d.name.now within) ∙ e in
        let none = list_all_at is_utf8 (map (λ (p : MessagePart). p.name.now) words) place d.name.now (omega (arith, within, length-map words (λ (p : MessagePart). p.name.now)))
        at in absurd (cc (none, all))
