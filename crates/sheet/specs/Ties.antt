-- The ties that earlier stages settled, on a page: for each, the stage, the candidates with equal votes, and the figures that settled it.
use Rattle.std.specs.Prelude.{ℕ, ◌+◌, ◌-◌, ◌<◌, Bool, not, ◌&&◌, ◌==◌, if◌then◌else◌, List, [], ◌∷◌, ◌++◌, length, reverse, slice_get, codes, decimal, position, Option, Some, None, option_map}
use Rattle.std.specs.List.{flat_map}
use Rattle.votes.specs.Text.{votes_text}
use Rattle.count.specs.Law.Contest.{votes_at}
use Rattle.count.specs.Law.Right.{candidate_of}
use Rattle.count.specs.declared.stages.Stage.{Stage}
use Rattle.count.specs.declared.stages.Action.{Action}
use Rattle.count.specs.declared.stages.Action.TheVariants.{First, Surplus, Exclude, ExcludeLast}
use Rattle.sheet.specs.Cells.{from_place, name_in, votes_or}
use Rattle.sheet.specs.Entries.{SheetEntry}
use Rattle.sheet.specs.Lines.{action_named, line, named}
use Rattle.sheet.specs.Stages.{is_excluded_at}
use Rattle.sheet.specs.declared.settled_ties.Tie.{Tie}

-- a candidate's votes at the stage with the given number
abbrev pub votes_then : List Stage → ℕ → ℕ → ℕ
votes_then stages k c = votes_or 0 (slice_get stages (k - 1)) c

-- whether `d`, who is not excluded, has as many votes after the given stages as `c`
abbrev pub is_level : List Stage → ℕ → ℕ → Bool
is_level stages c d = not (is_excluded_at stages d) && (votes_then stages (length stages) c == votes_then stages (length stages) d)

-- how many stages are later than the most recent one at which two candidates had different votes, if there is one
abbrev pub since_parted : List Stage → ℕ → ℕ → Option ℕ
since_parted stages c d = position (λ s. not (votes_at s c == votes_at s d)) (reverse stages)

-- the number of that stage
abbrev pub parted_at : List Stage → ℕ → ℕ → Option ℕ
parted_at stages c d = option_map (λ later. length stages - later) (since_parted stages c d)

-- the figures of a tie: the equal votes, and the votes of each candidate at the stage that settled it
abbrev pub tie_at : List Stage → ℕ → ℕ → ℕ → Tie
tie_at stages c d k = record { votes = votes_then stages (length stages) c; stage = k; of_chosen = votes_then stages k c; of_other = votes_then stages k d }

-- the tie between two candidates after the given stages, if they have equal votes, and an earlier stage settles it: the most recent at which they differed
abbrev pub tie_between : List Stage → ℕ → ℕ → Option Tie
tie_between stages c d = if is_level stages c d then option_map (tie_at stages c d) (parted_at stages c d) else None

-- the named figures settled a tie: at that stage, the candidate whose surplus is transferred had more votes than the other, and the one who is excluded had fewer
abbrev pub IsSettled : Action → Tie → Type 0
IsSettled First tie = ⊥
IsSettled (Surplus c) tie = tie.of_other < tie.of_chosen
IsSettled (Exclude c) tie = tie.of_chosen < tie.of_other
IsSettled (ExcludeLast c) tie = tie.of_chosen < tie.of_other

-- `Stage 5, exclusion of 2 Bob: 5 Ed also had 4.00000 votes. At stage 2, the most recent at which they differed, 2 Bob had 2.00000 and 5 Ed 3.00000.`
abbrev pub tie_item : ℕ → Action → ℕ → List ℕ → Option Tie → ℕ → List ℕ → List ℕ
tie_item k action c name None d other = []
tie_item k action c name (Some tie) d other = line (
    codes "<li>Stage " ∷ decimal k ∷ codes ", " ∷ action_named action name ∷ codes ": " ∷ named d other ∷ codes " also had " ∷ votes_text tie.votes ∷
    codes " votes. At stage " ∷ decimal tie.stage ∷ codes ", the most recent at which they differed, " ∷ named c name ∷ codes " had " ∷ votes_text tie.of_chosen ∷
    codes " and " ∷ named d other ∷ codes " " ∷ votes_text tie.of_other ∷ codes ".</li>" ∷ [])

-- the ties at a stage, of the candidate that its action concerns with each other candidate, given the stages before it
abbrev pub ties_of : SheetEntry → List Stage → Action → Option ℕ → List ℕ
ties_of ward earlier action None = []
ties_of ward earlier action (Some c) =
    flat_map (λ candidate. tie_item (length earlier + 1) action c (name_in ward.candidates action) (tie_between earlier c candidate.0) candidate.0 candidate.1) ward.candidates

abbrev pub ties_at : SheetEntry → List Stage → Stage → List ℕ
ties_at ward earlier stage = ties_of ward earlier stage.action (candidate_of stage.action)

-- the heading of the ties and lots, and the ties that earlier stages settled
abbrev pub ties_text : SheetEntry → List Stage → List ℕ
ties_text ward stages = line (codes "<h2>Ties and lots</h2>\n<ul>" ∷ []) ++ from_place (ties_at ward) 0 stages ++ line (codes "</ul>" ∷ [])
