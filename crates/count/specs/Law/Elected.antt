-- The candidates who have reached the quota, are elected, are excluded or continue.
use Rattle.std.specs.Prelude.{ℕ, ◌+◌, ◌-◌, Bool, false, not, ◌&&◌, ◌||◌, ◌==◌, nat_le, nat_eq, List, length}
use Rattle.std.specs.List.{filter, list_any}
use Rattle.count.specs.Law.Contest.{Contest, History, votes_at}
use Rattle.count.specs.declared.stages.Action.{Action}
use Rattle.count.specs.declared.stages.Action.TheVariants.{First, Surplus, Exclude, ExcludeLast}

-- Transfer of ballot papers: whether an action transfers the surplus of c
abbrev pub transfers : Action → ℕ → Bool
transfers First c = false
transfers (Surplus d) c = d == c
transfers (Exclude d) c = false
transfers (ExcludeLast d) c = false

-- Exclusion of candidates: whether an action excludes c
abbrev pub excludes : Action → ℕ → Bool
excludes First c = false
excludes (Surplus d) c = false
excludes (Exclude d) c = d == c
excludes (ExcludeLast d) c = d == c

-- whether the surplus of c has been transferred at some stage
abbrev pub is_transferred : History → ℕ → Bool
is_transferred stages c = list_any (λ s. transfers s.action c) stages

-- whether c has been excluded at some stage
abbrev pub is_excluded : History → ℕ → Bool
is_excluded stages c = list_any (λ s. excludes s.action c) stages

-- Quota: whether the votes of c reached the quota at some stage
abbrev pub has_reached : Contest → History → ℕ → Bool
has_reached contest stages c = list_any (λ s. nat_le contest.quota (votes_at s c)) stages

-- the candidates who have reached the quota
abbrev pub with_quota : Contest → History → List ℕ
with_quota contest stages = filter (has_reached contest stages) contest.candidates

-- the candidates who have neither reached the quota nor been excluded
abbrev pub undecided : Contest → History → List ℕ
undecided contest stages = filter (λ c. not (has_reached contest stages c) && not (is_excluded stages c)) contest.candidates

-- Filling of last vacancies: whether there are as many undecided candidates as remaining seats
abbrev pub undecided_fill : Contest → History → Bool
undecided_fill contest stages = length (with_quota contest stages) + length (undecided contest stages) == contest.seats

-- Quota; Filling of last vacancies: whether c is deemed elected
abbrev pub is_elected : Contest → History → ℕ → Bool
is_elected contest stages c = has_reached contest stages c || (undecided_fill contest stages && not (is_excluded stages c))

-- the candidates elected after the given stages
abbrev pub elected_after : Contest → History → List ℕ
elected_after contest stages = filter (is_elected contest stages) contest.candidates

-- the candidates who continue after the given stages: neither elected nor excluded
abbrev pub continuing_after : Contest → History → List ℕ
continuing_after contest stages = filter (λ c. not (is_elected contest stages c) && not (is_excluded stages c)) contest.candidates

-- whether c is one of the candidates who continue after the given stages
abbrev pub is_continuing : Contest → History → ℕ → Bool
is_continuing contest stages c = list_any (nat_eq c) (continuing_after contest stages)

-- the number of seats that remain after the given stages
abbrev pub vacancies_after : Contest → History → ℕ
vacancies_after contest stages = contest.seats - length (elected_after contest stages)
