-- The texts of stages in order, each depending on the stages before it.
use Rattle.std.proofs.Common.{◌≡◌, ℕ, ◌+◌, ◌<◌, ◌≤◌, List, [], ◌∷◌, ◌++◌, length, take, drop, get_or, Option, Result, Ok, Err, IsErr, sym, ◌∙◌, ap, ap₂, subst, append_assoc, append-nil, arith}
use Rattle.std.proofs.Math.ListN.{drop_of_length-le}
use Rattle.std.proofs.lemmas.List.{take_more, take-append-drop, take-append-le, drop-append-le, length-take}
use Rattle.count.specs.declared.stages.Stage.{Stage}
use Rattle.sheet.specs.Cells.{each_after, from_place}
use Rattle.sheet.specs.Writing.{Writes}
use Rattle.sheet.proofs.Writing.{Writes-none, Writes-then, Writes-failed, Writes-front}

-- the texts of a list are those of its front, followed by those of the rest
each_after-append : (text : List Stage → Stage → List ℕ) (earlier xs ys : List Stage) →
    each_after text earlier (xs ++ ys) ≡ each_after text earlier xs ++ each_after text (earlier ++ xs) ys
each_after-append text earlier [] ys = ap (λ stages. each_after text stages ys) (sym (append-nil earlier))
each_after-append text earlier (x ∷ xs) ys =
    let after = each_after-append text (earlier ++ x ∷ []) xs ys in
    ap (λ told. text earlier x ++ told) (after ∙ ap (λ stages. each_after text (earlier ++ x ∷ []) xs ++ each_after text stages ys) (append_assoc earlier (x ∷ []) xs))
    ∙ sym (append_assoc (text earlier x) (each_after text (earlier ++ x ∷ []) xs) (each_after text (earlier ++ x ∷ xs) ys))

-- the same equation, starting at a position within the front
from_place-append : (text : List Stage → Stage → List ℕ) (place : ℕ) (xs ys : List Stage) → place ≤ length xs →
    from_place text place (xs ++ ys) ≡ from_place text place xs ++ each_after text xs ys
from_place-append text place xs ys within =
    ap₂ (λ (a b : List Stage). each_after text a b) (take-append-le place xs ys within) (drop-append-le place xs ys within)
    ∙ each_after-append text (take place xs) (drop place xs) ys
    ∙ ap (λ stages. from_place text place xs ++ each_after text stages ys) (take-append-drop place xs)

-- the texts with another stage
from_place-more : (text : List Stage → Stage → List ℕ) (place k : ℕ) (stages : List Stage) (d : Stage) → place ≤ k → k < length stages →
    from_place text place (take (k + 1) stages) ≡ from_place text place (take k stages) ++ text (take k stages) (get_or stages k d)
from_place-more text place k stages d from within =
    ap (from_place text place) (take_more stages k d within)
    ∙ from_place-append text place (take k stages) (get_or stages k d ∷ []) (omega (arith, length-take k stages))
    ∙ ap (λ told. from_place text place (take k stages) ++ told) (append-nil (text (take k stages) (get_or stages k d)))

-- the texts of the earlier stages and those of the later ones make up all texts
from_place-parted : (text : List Stage → Stage → List ℕ) (place k : ℕ) (stages : List Stage) → place ≤ k → k ≤ length stages →
    from_place text place (take k stages) ++ each_after text (take k stages) (drop k stages) ≡ from_place text place stages
from_place-parted text place k stages from within =
    sym (from_place-append text place (take k stages) (drop k stages) (omega (arith, length-take k stages))) ∙ ap (from_place text place) (take-append-drop k stages)

-- starting at a position, the stages up to that position have no text
from_place-none : (text : List Stage → Stage → List ℕ) (place : ℕ) (stages : List Stage) → [] ≡ from_place text place (take place stages)
from_place-none text place stages =
    ap (each_after text (take place (take place stages))) (sym (drop_of_length-le (take place stages) (omega (arith, length-take place stages))))

module _ {W : Type 0} {taken : W → Option (List ℕ)} {failed : W → ℕ} {X E : Type 0} (text : List Stage → Stage → List ℕ) (place : ℕ) (stages : List Stage) where
  -- nothing has been written yet
  pub Writes-no_stage : (s : W) (x : X) → Writes {E = E} taken failed s s (from_place text place (take place stages)) (Ok x)
  Writes-no_stage s x = subst (λ told. Writes {E = E} taken failed s s told (Ok x)) (from_place-none text place stages) (Writes-none s x)

  -- the stages so far and the next one have been written
  pub Writes-next : {Y F : Type 0} {old mid new : W} {x : X} (k : ℕ) (stage : Stage) (r : Result Y F) → place ≤ k → k < length stages → stage ≡ get_or stages k stage →
      Writes {E = E} taken failed old mid (from_place text place (take k stages)) (Ok x) → Writes taken failed mid new (text (take k stages) stage) r →
      Writes taken failed old new (from_place text place (take (k + 1) stages)) r
  Writes-next {old = old} {mid = mid} {new = new} k stage r from within is front next =
      let there = subst (λ s. Writes taken failed mid new (text (take k stages) s) r) is next in
      subst (λ told. Writes taken failed old new told r) (sym (from_place-more text place k stages stage from within)) (Writes-then r front there)

  -- writing the next stage failed, and the failure is passed on: the later stages aren't written
  pub Writes-next_cut : {old mid new : W} {x : X} {e : E} (k : ℕ) (stage : Stage) (r : Result X E) → place ≤ k → k < length stages → stage ≡ get_or stages k stage →
      Writes {E = E} taken failed old mid (from_place text place (take k stages)) (Ok x) → Writes {X = X} taken failed mid new (text (take k stages) stage) (Err e) → IsErr r →
      Writes taken failed old new (from_place text place stages) r
  Writes-next_cut {old = old} {new = new} {e = e} k stage r from within is front next failure =
      let cut = Writes-failed r failure (Writes-next {F = E} k stage (Err e) from within is front next) in
      subst (λ told. Writes taken failed old new told r) (from_place-parted text place (k + 1) stages (omega arith) (omega arith))
      (Writes-front (each_after text (take (k + 1) stages) (drop (k + 1) stages)) r failure cut)
