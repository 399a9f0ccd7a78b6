-- The sums over all papers: votes, non-transferable votes and loss.
use Rattle.std.specs.Prelude.{ℕ, ◌+◌, ◌-◌, ◌==◌, if◌then◌else◌, [], ◌∷◌}
use Rattle.std.specs.List.{sum_by}
use Rattle.count.specs.Law.Contest.{Contest, History}
use Rattle.count.specs.Law.Elected.{is_transferred}
use Rattle.count.specs.Law.Places.{Place, place, surplus_of}
use Rattle.count.specs.declared.stages.Stage.{Stage}
use Rattle.count.specs.declared.stages.Action.{Action}
use Rattle.count.specs.declared.stages.Action.TheVariants.{First, Surplus, Exclude, ExcludeLast}

-- the worth of a paper to c, or to no one if c is 0
abbrev pub value_with : ℕ → Place → ℕ
value_with c at = if at.holder == c then at.value else 0

-- Transfer of ballot papers: a candidate's votes are exactly the quota once the surplus is transferred, and before that the total value of the papers that the candidate holds
abbrev pub votes_after : Contest → History → ℕ → ℕ
votes_after contest stages c =
    if is_transferred stages c
    then contest.quota
    else sum_by (λ paper. value_with c (place contest stages paper)) contest.papers

-- the non-transferable votes: the total value of the papers that no one holds
abbrev pub non_transferable_after : Contest → History → ℕ
non_transferable_after contest stages = sum_by (λ paper. value_with 0 (place contest stages paper)) contest.papers

-- the total new value of the papers that a stage transfers from c
abbrev pub value_passed_on : Contest → Stage → History → ℕ → ℕ
value_passed_on contest s before c =
    sum_by (λ paper. if (place contest before paper).holder == c then (place contest (s ∷ before) paper).value else 0) contest.papers

-- Transfer values: the part of a surplus that exceeds the values transferred is lost by fractions
abbrev pub lost_by : Contest → Stage → History → Action → ℕ
lost_by contest s before First = 0
lost_by contest s before (Surplus c) = surplus_of contest before c - value_passed_on contest s before c
lost_by contest s before (Exclude c) = 0
lost_by contest s before (ExcludeLast c) = 0

-- the loss by fractions over all stages
abbrev pub lost_after : Contest → History → ℕ
lost_after contest [] = 0
lost_after contest (s ∷ before) = lost_after contest before + lost_by contest s before s.action
