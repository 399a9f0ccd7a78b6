-- The lines of bundles, in order.
use Rattle.std.proofs.Common.{◌≡◌, ℕ, List, [], ◌∷◌, ◌++◌, Option, Result, Ok, Err, IsErr, sym, ap, ◌∙◌, subst, append_assoc, append-nil}
use Rattle.std.specs.List.{flat_map}
use Rattle.std.proofs.lemmas.Grind.{flat_map-append}
use Rattle.count.specs.Bundles.{Bundle}
use Rattle.sheet.specs.Ballots.{bundle_line}
use Rattle.sheet.specs.Writing.{Writes}
use Rattle.sheet.proofs.Writing.{Writes-then, Writes-failed, Writes-front}

-- the lines of the first bundles have been written, and those of the rest remain
pub record AreWritten {W X E : Type 0} (taken : W → Option (List ℕ)) (failed : W → ℕ) (old mid : W) (bundles rest : List Bundle) (written : Result X E) : Type 0 where
  pub done : List Bundle
  pub parted : bundles ≡ done ++ rest
  pub text : Writes taken failed old mid (flat_map bundle_line done) written

one_more : (done : List Bundle) (b : Bundle) → flat_map bundle_line (done ++ b ∷ []) ≡ flat_map bundle_line done ++ bundle_line b
one_more done b = flat_map-append bundle_line done (b ∷ []) ∙ ap (λ text. flat_map bundle_line done ++ text) (append-nil (bundle_line b))

module _ {W : Type 0} {taken : W → Option (List ℕ)} {failed : W → ℕ} {X E : Type 0} where
  -- another line has been written
  pub Writes-bundle : {old mid new : W} {x y : X} (bundles rest others : List Bundle) (b : Bundle) → rest ≡ b ∷ others →
      AreWritten {E = E} taken failed old mid bundles rest (Ok x) → Writes {E = E} taken failed mid new (bundle_line b) (Ok y) → AreWritten {E = E} taken failed old new bundles others (Ok y)
  Writes-bundle {old = old} {new = new} {y = y} bundles rest others b steps front next = record {
    done = front.done ++ b ∷ [];
    parted = front.parted ∙ ap (λ bs. front.done ++ bs) steps ∙ sym (append_assoc front.done (b ∷ []) others);
    text = subst (λ text. Writes {E = E} taken failed old new text (Ok y)) (sym (one_more front.done b)) (Writes-then (Ok y) front.text next);
  }

  -- writing another line failed, and the failure is passed on: the remaining lines aren't written
  pub Writes-bundle_cut : {old mid new : W} {x : X} {e : E} (bundles rest others : List Bundle) (b : Bundle) (r : Result X E) → rest ≡ b ∷ others →
      AreWritten {E = E} taken failed old mid bundles rest (Ok x) → Writes {X = X} taken failed mid new (bundle_line b) (Err e) → IsErr r → Writes taken failed old new (flat_map bundle_line bundles) r
  Writes-bundle_cut {old = old} {new = new} {e = e} bundles rest others b r steps front next failure =
      let cut = Writes-failed r failure (Writes-then {F = E} (Err e) front.text next) in
      let whole : flat_map bundle_line bundles ≡ (flat_map bundle_line front.done ++ bundle_line b) ++ flat_map bundle_line others =
      ap (flat_map bundle_line) (front.parted ∙ ap (λ bs. front.done ++ bs) steps) ∙ flat_map-append bundle_line front.done (b ∷ others)
      ∙ sym (append_assoc (flat_map bundle_line front.done) (bundle_line b) (flat_map bundle_line others)) in
      subst (λ text. Writes taken failed old new text r) (sym whole) (Writes-front (flat_map bundle_line others) r failure cut)
