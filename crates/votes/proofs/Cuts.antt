-- Rounding down creates no votes.
use Rattle.std.proofs.Common.{ℕ, ◌*◌, ◌<◌, ◌≤◌, List, [], ◌∷◌, arith, sum, sum_by}
use Rattle.std.proofs.lemmas.List.Sums.{sum_by-cons}
use Rattle.std.proofs.Math.Nat.{div-mul-le_self, le_of_mul-le-mul_right, mul-le-mul_left}
use Rattle.votes.specs.Units.{cut, GivesWithin}

-- the sum of the transferred values, multiplied by the votes credited, is at most the surplus multiplied by the
-- sum of the received values
cuts_times : (surplus credited : ℕ) (values : List ℕ) → sum_by (λ v. cut surplus v credited) values * credited ≤ surplus * sum values
cuts_times surplus credited [] = omega arith
cuts_times surplus credited (v ∷ values) =
    let one = div-mul-le_self (surplus * v) credited in
    let others = cuts_times surplus credited values in
    rw (sum_by-cons (λ x. cut surplus x credited) v values, sum_by-cons (λ x. x) v values) (omega (arith, one, others))

pub cuts_within : (surplus credited : ℕ) → 0 < credited → GivesWithin surplus credited
cuts_within surplus credited some values all =
    let times = cuts_times surplus credited values in
    let most = mul-le-mul_left surplus all in
    le_of_mul-le-mul_right {k = credited} (omega (arith, times, most)) some
