-- The papers that a page names as passing on with a surplus, compared with the papers and figures of the count.
use Rattle.std.specs.Prelude.{◌≡◌, ◌≢◌, ℕ, ◌+◌, ◌-◌, ◌*◌, ◌<◌, ◌≤◌, ◌==◌, ◌&&◌, if◌then◌else◌, not, List, [], ◌∷◌, ◌++◌, length, filter, sum_by, AllPairs, Option}
use Rattle.std.specs.List.{AllByRecursion}
use Rattle.votes.specs.Units.{cut}
use Rattle.count.specs.Bundles.{AreBundles, Bundle, papers_of}
use Rattle.count.specs.Law.Contest.{Contest, History, In, IsContest, contest_for, newest_votes, votes_at}
use Rattle.count.specs.Law.Places.{place, surplus_of}
use Rattle.count.specs.Law.Right.{IsRight, IsRightBy}
use Rattle.count.specs.declared.stages.Action.TheVariants.{Surplus}
use Rattle.count.specs.declared.stages.Stage.{Stage}
use Rattle.sheet.specs.Surpluses.{all_held, held_by, papers_in, surplus_by, surpluses_of}
use Rattle.sheet.specs.declared.surpluses.PassedOn.{PassedOn}

-- the bundles of the papers of a contest
pub record AreBundlesOf (contest : Contest) (bundles : List Bundle) : Type 0 where
  pub bundles_are : AreBundles bundles
  pub papers_are : contest.papers ≡ papers_of bundles

-- ---- at which stages

-- the papers that pass on with the surpluses that the given stages transfer, stage by stage
abbrev pub passed_at : Contest → List Bundle → History → List PassedOn
passed_at contest bundles [] = []
passed_at contest bundles (s ∷ before) = passed_at contest bundles before ++ held_by contest before bundles (surplus_by s.action)

-- the groups that a page names for correct stages are those of each stage that transfers a surplus, and no others
abbrev pub AreOfEachSurplus : Type 0
AreOfEachSurplus =
    (candidates : List ℕ) (seats : ℕ) (bundles : List Bundle) (lots : List (ℕ × ℕ)) (stages : History) → let contest = contest_for candidates seats (papers_of bundles) in
    IsRight contest lots stages → surpluses_of candidates seats bundles lots (length stages) ≡ passed_at contest bundles stages

-- ---- how many papers

-- the papers that c holds after the given stages
abbrev pub papers_held : Contest → History → ℕ → List (List ℕ)
papers_held contest stages c = filter (λ paper. (place contest stages paper).holder == c) contest.papers

-- those among them that c received at the given value
abbrev pub papers_held_at : Contest → History → ℕ → ℕ → List (List ℕ)
papers_held_at contest stages c value = filter (λ paper. (place contest stages paper).holder == c && (place contest stages paper).value == value) contest.papers

-- the number of papers of the groups that were received at the given value
abbrev pub papers_received_at : ℕ → List PassedOn → ℕ
papers_received_at value groups = sum_by (λ g. if g.received == value then g.papers else 0) groups

-- no paper is left out or named twice: the groups have as many papers as the candidate holds, in all and at each value
abbrev pub HaveAllPapers : Type 0
HaveAllPapers =
    (contest : Contest) (before : History) (bundles : List Bundle) (c : ℕ) → AreBundlesOf contest bundles →
    (papers_in (all_held contest before bundles c) ≡ length (papers_held contest before c))
    × ((value : ℕ) → papers_received_at value (all_held contest before bundles c) ≡ length (papers_held_at contest before c value))

-- ---- at which values

-- Transfer values: at least one paper, which passes on at its value when received times the share of the surplus, rounded down
pub record IsOfSurplus (contest : Contest) (before : History) (c : ℕ) (group : PassedOn) : Type 0 where
  pub stage_is : group.stage ≡ length before + 1
  pub candidate_is : group.candidate ≡ c
  pub surplus_is : group.surplus ≡ surplus_of contest before c
  pub votes_are : group.votes ≡ newest_votes before c
  pub some_papers : 1 ≤ group.papers
  pub passed_is : group.passed ≡ cut (surplus_of contest before c) group.received (newest_votes before c)

-- one group was received at a higher value than another
abbrev pub IsHigher : PassedOn → PassedOn → Type 0
IsHigher one other = other.received < one.received

-- each group is of the surplus, and the values when received are in descending order without duplicates
abbrev pub HaveTransferValues : Type 0
HaveTransferValues =
    (contest : Contest) (before : History) (bundles : List Bundle) (c : ℕ) → AreBundlesOf contest bundles →
    AllByRecursion (IsOfSurplus contest before c) (all_held contest before bundles c) × AllPairs IsHigher (all_held contest before bundles c)

-- the count determines the groups: no other list has these values, in this order, with as many papers at each
abbrev pub AreTheOnlyGroups : Type 0
AreTheOnlyGroups =
    (contest : Contest) (before : History) (bundles : List Bundle) (c : ℕ) (groups : List PassedOn) → AreBundlesOf contest bundles →
    AllByRecursion (IsOfSurplus contest before c) groups → AllPairs IsHigher groups →
    ((value : ℕ) → papers_received_at value groups ≡ length (papers_held_at contest before c value)) → groups ≡ all_held contest before bundles c

-- ---- to what they add up

-- the total value of the groups when received
abbrev pub value_received : List PassedOn → ℕ
value_received groups = sum_by (λ g. g.papers * g.received) groups

-- the total value at which the groups pass on
abbrev pub value_transferred : List PassedOn → ℕ
value_transferred groups = sum_by (λ g. g.papers * g.passed) groups

-- the candidates other than c
abbrev pub others : Contest → ℕ → List ℕ
others contest c = filter (λ d. not (c == d)) contest.candidates

-- the votes that d gains at a stage after another
abbrev pub gained : Stage → Stage → ℕ → ℕ
gained s old d = votes_at s d - votes_at old d

-- Transfer of ballot papers: The groups account for the figures of stage s, which transfers the surplus of c after stage old. Their values when received are the votes of c, who
-- keeps the quota. What they pass on is what the others and the non-transferable votes gain; none of these loses. The rest of the surplus is lost by fractions.
pub record AreOfFigures (contest : Contest) (s old : Stage) (c : ℕ) (groups : List PassedOn) : Type 0 where
  pub votes_are : value_received groups ≡ votes_at old c
  pub quota_stays : votes_at s c ≡ contest.quota
  pub above_quota : contest.quota < votes_at old c
  pub none_loses : (d : ℕ) → In d contest.candidates → d ≢ c → votes_at old d ≤ votes_at s d
  pub non_transferable_kept : old.non_transferable ≤ s.non_transferable
  pub gains_are : sum_by (gained s old) (others contest c) + (s.non_transferable - old.non_transferable) ≡ value_transferred groups
  pub rest_is_lost : s.lost ≡ old.lost + (votes_at old c - contest.quota - value_transferred groups)
  pub within_surplus : value_transferred groups ≤ votes_at old c - contest.quota

-- at each stage of a correct count that transfers a surplus, the groups account for the figures; the first stage transfers none
abbrev pub AccountForFigures : Type 0
AccountForFigures =
    (contest : Contest) (handed : History → Stage → Option ℕ) (s old : Stage) (older : History) (bundles : List Bundle) (c : ℕ) → IsContest contest →
    AreBundlesOf contest bundles → IsRightBy contest handed (s ∷ old ∷ older) → s.action ≡ Surplus c →
    AreOfFigures contest s old c (all_held contest (old ∷ older) bundles c)
