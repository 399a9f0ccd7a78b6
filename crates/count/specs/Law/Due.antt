-- What is due after given stages: surpluses, exclusions, ties and lots.
use Rattle.std.specs.Prelude.{ℕ, ◌+◌, ◌-◌, Bool, not, ◌==◌, nat_lt, if◌then◌else◌, List, [], ◌∷◌, map, length, Option, Some, None, nat_eq}
use Rattle.std.specs.List.{filter, find, list_any}
use Rattle.std.specs.Option.{option_map}
use Rattle.std.specs.Ordering.{nat_cmp, is_lt}
use Rattle.std.specs.Cmp.Lexicographic.{slice_cmp}
use Rattle.count.specs.Law.Contest.{Contest, History, votes_at, newest_votes}
use Rattle.count.specs.Law.Elected.{elected_after, continuing_after, vacancies_after}
use Rattle.count.specs.declared.stages.Action.{Action}
use Rattle.count.specs.declared.stages.Action.TheVariants.{First, Surplus, Exclude, ExcludeLast}
use Rattle.count.specs.declared.stages.TiedFor.{TiedFor}
use Rattle.count.specs.declared.stages.TiedFor.TheVariants.{Surplus as of_surplus, Exclusion as of_exclusion}
use Rattle.count.specs.declared.stages.Due.{Due}
use Rattle.count.specs.declared.stages.Due.TheVariants.{Act, Lot, Finished}

-- a candidate's votes at each stage, newest first
abbrev pub trace : History → ℕ → List ℕ
trace stages c = map (λ s. votes_at s c) stages

-- Transfer of ballot papers; Exclusion of candidates: between candidates with equal votes, the most recent stage at which they differed decides; whether c had more votes than
-- d at that stage
abbrev pub is_above : History → ℕ → ℕ → Bool
is_above stages c d = is_lt (slice_cmp nat_cmp (trace stages d) (trace stages c))

-- Transfer of ballot papers: the members of a group with no other member above them
abbrev pub highest : History → List ℕ → List ℕ
highest stages group = filter (λ c. not (list_any (λ d. is_above stages d c) group)) group

-- Exclusion of candidates: the members of a group that are above no other member
abbrev pub lowest : History → List ℕ → List ℕ
lowest stages group = filter (λ c. not (list_any (λ d. is_above stages c d) group)) group

-- Transfer of ballot papers: the elected candidates whose votes exceed the quota
abbrev pub with_surplus : Contest → History → List ℕ
with_surplus contest stages = filter (λ c. nat_lt contest.quota (newest_votes stages c)) (elected_after contest stages)

-- Filling of last vacancies: the exclusion of c, which is the last one if there are as many other continuing candidates as vacancies
abbrev pub exclusion : Contest → History → ℕ → Action
exclusion contest stages c =
    if length (continuing_after contest stages) - 1 == vacancies_after contest stages then ExcludeLast c else Exclude c

-- the action on the given candidate, transfer of the surplus or exclusion, depending on why the group was chosen
abbrev pub action_on : Contest → History → TiedFor → ℕ → Action
action_on contest stages of_surplus c = Surplus c
action_on contest stages of_exclusion c = exclusion contest stages c

-- the action on the only candidate of a group, otherwise a lot among its members; it is proved that a lot is due only among two or more
abbrev pub among : Contest → History → TiedFor → List ℕ → Due
among contest stages kind [] = Lot (length stages + 1) kind []
among contest stages kind (c ∷ []) = Act (action_on contest stages kind c)
among contest stages kind (c ∷ d ∷ tied) = Lot (length stages + 1) kind (c ∷ d ∷ tied)

-- Transfer of ballot papers: the highest surplus is transferred first; Exclusion of candidates: if there is none, the candidate with the fewest votes is excluded
abbrev pub due_for : Contest → History → List ℕ → Due
due_for contest stages [] = among contest stages of_exclusion (lowest stages (continuing_after contest stages))
due_for contest stages (c ∷ cs) = among contest stages of_surplus (highest stages (c ∷ cs))

-- what is due after the given stages
abbrev pub due_after : Contest → History → Due
due_after contest [] = Act First
due_after contest (s ∷ before) =
    if vacancies_after contest (s ∷ before) == 0
    then Finished
    else due_for contest (s ∷ before) (with_surplus contest (s ∷ before))

-- the candidate that the lot for the given stage names
abbrev pub lot_for : List (ℕ × ℕ) → ℕ → Option ℕ
lot_for lots stage = option_map (λ lot. lot.1) (find (λ lot. lot.0 == stage) lots)

-- what is due, resolved by a lot: the action, unless the count is finished or is waiting for a lot
abbrev pub drawn : Contest → History → Option ℕ → Due → Option Action
drawn contest stages lot (Act action) = Some action
drawn contest stages None (Lot stage kind tied) = None
drawn contest stages (Some c) (Lot stage kind tied) = if list_any (nat_eq c) tied then Some (action_on contest stages kind c) else None
drawn contest stages lot Finished = None

-- the next action after the given stages, if there is one
abbrev pub next_action : Contest → List (ℕ × ℕ) → History → Option Action
next_action contest lots stages = drawn contest stages (lot_for lots (length stages + 1)) (due_after contest stages)
