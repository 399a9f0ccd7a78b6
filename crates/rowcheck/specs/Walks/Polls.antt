-- The batches of a ward, among all batches of an office.
use Rattle.std.specs.Prelude.{ℕ, Bool, not, ◌||◌, ◌==◌, List, map}
use Rattle.std.specs.List.{filter}
use Rattle.register.specs.Offices.{BatchEntry, OfficeState}
use Rattle.register.specs.Polls.{Pile, pile_of, is_settled}

-- a batch is settled or doesn't belong to the given ward
abbrev pub is_settled_for : OfficeState → ℕ → BatchEntry → Bool
is_settled_for s ward b = not (b.ward == ward) || is_settled (pile_of s b)

-- the keyings and verdicts of those batches in a list that belong to the given ward
abbrev pub piles_in : OfficeState → ℕ → List BatchEntry → List Pile
piles_in s ward batches = map (pile_of s) (filter (λ (b : BatchEntry). b.ward == ward) batches)
