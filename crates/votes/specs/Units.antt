-- Votes in units, the limits of a count, the quota and the transfer value.
use Rattle.std.specs.Prelude.{◌≡◌, ℕ, ◌+◌, ◌*◌, ◌/◌, ◌<◌, ◌≤◌, List, sum, sum_by}

-- one vote, in units
abbrev pub one_vote : ℕ
one_vote = 100000

-- the maximum number of valid ballot papers in a ward: 9999 batches of 500 papers
abbrev pub max_papers : ℕ
max_papers = 4999500

-- the maximum number of units that can be credited: one vote for each paper, for the maximum number of papers
abbrev pub max_units : ℕ
max_units = 499950000000

-- the maximum number of seats in a ward
abbrev pub max_seats : ℕ
max_seats = 15

-- n is the least number with the given property
pub record IsLeast (P : ℕ → Type 0) (n : ℕ) : Type 0 where
  pub holds : P n
  pub least : (m : ℕ) → P m → n ≤ m

-- n is the greatest number with the given property
pub record IsGreatest (P : ℕ → Type 0) (n : ℕ) : Type 0 where
  pub holds : P n
  pub greatest : (m : ℕ) → P m → m ≤ n

-- Quota, in units: the smallest whole number of votes that more candidates than there are seats can't all reach, because
-- together they would need more votes than there are valid papers
pub record IsQuota (papers seats units : ℕ) : Type 0 where
  pub votes : ℕ
  pub whole : units ≡ one_vote * votes
  pub least : IsLeast (λ q. papers < q * (seats + 1)) votes

-- Transfer values: the largest number of units for a paper received at a given value such that its share of the surplus is no
-- more than its value's share of the votes credited to the transferring candidate
abbrev pub IsCut : ℕ → ℕ → ℕ → ℕ → Type 0
IsCut surplus value credited = IsGreatest (λ w. w * credited ≤ surplus * value)

-- the quota as a formula, for use in terms that compute
abbrev pub quota_of : ℕ → ℕ → ℕ
quota_of papers seats = one_vote * (papers / (seats + 1) + 1)

-- the transfer value as a formula, for use in terms that compute
abbrev pub cut : ℕ → ℕ → ℕ → ℕ
cut surplus value credited = surplus * value / credited

-- rounding down never creates votes: if the combined value of the given papers doesn't exceed the votes credited, the papers
-- receive no more than the surplus
abbrev pub GivesWithin : ℕ → ℕ → Type 0
GivesWithin surplus credited = (values : List ℕ) → sum values ≤ credited → sum_by (λ v. cut surplus v credited) values ≤ surplus
