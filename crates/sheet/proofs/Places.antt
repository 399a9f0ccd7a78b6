-- A text for each position, in order.
use Rattle.std.proofs.Common.{◌≡◌, ℕ, ◌+◌, ◌<◌, ◌≤◌, List, length, take, get_or, Option, Result, Ok, Err, IsErr, arith}
use Rattle.std.specs.List.{flat_map, range_with_len}
use Rattle.std.proofs.lemmas.List.{take_all}
use Rattle.std.proofs.lemmas.List.FromFn.{length-range_with_len, get_or-range_with_len}
use Rattle.sheet.specs.Writing.{Writes}
use Rattle.sheet.proofs.Writing.{Writes-item, Writes-item_cut}

place_within : (n k : ℕ) → k < n → k < length (range_with_len 0 n)
place_within n k within = omega (arith, length-range_with_len 0 n)

place_at : (n k : ℕ) → k < n → k ≡ get_or (range_with_len 0 n) k k
place_at n k within = omega (arith, get_or-range_with_len 0 n k k within)

-- all positions
pub all_places : (n k : ℕ) → n ≤ k → take k (range_with_len 0 n) ≡ range_with_len 0 n
all_places n k above = take_all k (range_with_len 0 n) (omega (arith, length-range_with_len 0 n))

module _ {W : Type 0} {taken : W → Option (List ℕ)} {failed : W → ℕ} {X E : Type 0} (text : ℕ → List ℕ) (n : ℕ) where
  -- the texts for the positions so far and for the next one have been written
  pub Writes-place : {Y F : Type 0} {old mid new : W} {x : X} (k : ℕ) (r : Result Y F) → k < n →
      Writes {E = E} taken failed old mid (flat_map text (take k (range_with_len 0 n))) (Ok x) → Writes taken failed mid new (text k) r →
      Writes taken failed old new (flat_map text (take (k + 1) (range_with_len 0 n))) r
  Writes-place k r within front next = Writes-item text (range_with_len 0 n) k k r (place_within n k within) (place_at n k within) front next

  -- writing the text for the next position failed, and the failure is passed on
  pub Writes-place_cut : {old mid new : W} {x : X} {e : E} (k : ℕ) (r : Result X E) → k < n →
      Writes {E = E} taken failed old mid (flat_map text (take k (range_with_len 0 n))) (Ok x) → Writes {X = X} taken failed mid new (text k) (Err e) → IsErr r →
      Writes taken failed old new (flat_map text (range_with_len 0 n)) r
  Writes-place_cut k r within front next failure = Writes-item_cut text (range_with_len 0 n) k k r (place_within n k within) (place_at n k within) front next failure
