-- The batches of a ward: those visited so far, and the condition that all of them must meet.
use Rattle.std.proofs.Common.{◌≡◌, ℕ, ◌+◌, ◌<◌, ◌==◌, Bool, true, false, not, ◌&&◌, ◌||◌, cond, List, [], ◌∷◌, ◌++◌, map, length, get_or, take, filter, zero, suc, refl, ap, arith}
use Rattle.std.specs.List.{list_all}
use Rattle.register.specs.declared.batches.Batch.{Batch}
use Rattle.register.specs.Offices.{BatchEntry, OfficeState, batch_entry}
use Rattle.register.specs.Polls.{pile_of, is_settled}
use Rattle.register.specs.Elections.{ElectionEntry, is_in_count, is_agreed}
use Rattle.rowcheck.specs.Walks.Polls.{is_settled_for, piles_in}

-- once a count has begun, every batch must be settled
pub agreed_in_count : (e : ElectionEntry) → is_in_count e ≡ true → is_agreed e ≡ e.ballots.settled
agreed_in_count e begun = rw begun refl

module _ (s : OfficeState) (ward : ℕ) where
  -- the condition that every batch of the ward must meet
  pub settled_by_ward : (bs : List BatchEntry) → list_all (is_settled_for s ward) bs ≡ list_all is_settled (piles_in s ward bs)
  settled_by_ward [] = refl
  settled_by_ward (b ∷ bs) = go (b.ward == ward) (settled_by_ward bs)
    where
      go : (c : Bool) → list_all (is_settled_for s ward) bs ≡ list_all is_settled (piles_in s ward bs)
          → ((not c || is_settled (pile_of s b)) && list_all (is_settled_for s ward) bs)
          ≡ list_all is_settled (map (pile_of s) (cond c (b ∷ filter (λ (x : BatchEntry). x.ward == ward) bs) (filter (λ (x : BatchEntry). x.ward == ward) bs)))
      go true later = ap (λ p. is_settled (pile_of s b) && p) later
      go false later = later

  -- visiting another batch, which belongs either to this ward or to a different one
  pub piles_with : (bs : List Batch) (i : ℕ) (b : Batch) → i < length bs → get_or bs i b ≡ b → (b.ward == ward) ≡ true
      → piles_in s ward (map batch_entry (take (i + 1) bs)) ≡ piles_in s ward (map batch_entry (take i bs)) ++ (pile_of s (batch_entry b) ∷ [])
  piles_with [] i b within is of_it = absurd (omega arith)
  piles_with (x ∷ xs) zero b within is of_it = let first : x ≡ b = is in rw (first, of_it) refl
  piles_with (x ∷ xs) (suc i) b within is of_it =
      let e : suc i + 1 ≡ suc (i + 1) = omega arith in
      rw e (go (x.ward == ward) (piles_with xs i b (omega (arith, within)) is of_it))
    where
      go : (c : Bool) → piles_in s ward (map batch_entry (take (i + 1) xs)) ≡ piles_in s ward (map batch_entry (take i xs)) ++ (pile_of s (batch_entry b) ∷ [])
          → map (pile_of s) (cond c (batch_entry x ∷ filter (λ (e : BatchEntry). e.ward == ward) (map batch_entry (take (i + 1) xs)))
          (filter (λ (e : BatchEntry). e.ward == ward) (map batch_entry (take (i + 1) xs))))
          ≡ map (pile_of s) (cond c (batch_entry x ∷ filter (λ (e : BatchEntry). e.ward == ward) (map batch_entry (take i xs)))
          (filter (λ (e : BatchEntry). e.ward == ward) (map batch_entry (take i xs)))) ++ (pile_of s (batch_entry b) ∷ [])
      go true later = ap (λ ps. pile_of s (batch_entry x) ∷ ps) later
      go false later = later

  pub piles_without : (bs : List Batch) (i : ℕ) (b : Batch) → i < length bs → get_or bs i b ≡ b → (b.ward == ward) ≡ false
      → piles_in s ward (map batch_entry (take (i + 1) bs)) ≡ piles_in s ward (map batch_entry (take i bs))
  piles_without [] i b within is other = absurd (omega arith)
  piles_without (x ∷ xs) zero b within is other = let first : x ≡ b = is in rw (first, other) refl
  piles_without (x ∷ xs) (suc i) b within is other =
      let e : suc i + 1 ≡ suc (i + 1) = omega arith in
      rw e (go (x.ward == ward) (piles_without xs i b (omega (arith, within)) is other))
    where
      go : (c : Bool) → piles_in s ward (map batch_entry (take (i + 1) xs)) ≡ piles_in s ward (map batch_entry (take i xs))
          → map (pile_of s) (cond c (batch_entry x ∷ filter (λ (e : BatchEntry). e.ward == ward) (map batch_entry (take (i + 1) xs)))
          (filter (λ (e : BatchEntry). e.ward == ward) (map batch_entry (take (i + 1) xs))))
          ≡ map (pile_of s) (cond c (batch_entry x ∷ filter (λ (e : BatchEntry). e.ward == ward) (map batch_entry (take i xs)))
          (filter (λ (e : BatchEntry). e.ward == ward) (map batch_entry (take i xs))))
      go true later = ap (λ ps. pile_of s (batch_entry x) ∷ ps) later
      go false later = later
