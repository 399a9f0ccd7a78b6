-- What comes next in a ward's election, in words, with its candidates' names.
use Rattle.std.specs.Prelude.{ℕ, ◌==◌, ◌&&◌, ◌++◌, if◌then◌else◌, List, [], ◌∷◌, codes, Option, Some, None}
use Rattle.std.specs.Fmt.{decimal}
use Rattle.std.specs.List.{flat_map}
use Rattle.clap.specs.Words.{Text}
use Rattle.count.specs.declared.stages.Action.{Action}
use Rattle.count.specs.declared.stages.Action.TheVariants.{First, Surplus, Exclude, ExcludeLast}
use Rattle.count.specs.declared.stages.TiedFor.{TiedFor}
use Rattle.count.specs.declared.stages.TiedFor.TheVariants.{Surplus as for_surplus, Exclusion as for_exclusion}
use Rattle.count.specs.declared.stages.Due.{Due}
use Rattle.count.specs.declared.stages.Due.TheVariants.{Act, Lot, Finished}
use Rattle.register.specs.Offices.{CandidateEntry}
use Rattle.register.specs.Status.{StatusEntry}
use Rattle.desk.specs.CandidateNames.{candidate_in}
use Rattle.register.specs.NextSteps.{NextStepEntry, nominations_end, papers_stand, count_goes, nothing_comes}

-- ---- candidates

-- a number and the name of the candidate with that number: `3 Cy`
abbrev pub with_name : ℕ → Option CandidateEntry → Text
with_name number None = decimal number
with_name number (Some c) = decimal number ++ (codes " " ++ c.name)

unfoldable pub named : List CandidateEntry → ℕ → Text
named candidates number = with_name number (candidate_in candidates number)

-- another candidate in a list: `, 3 Cy`
abbrev pub named_behind : List CandidateEntry → ℕ → Text
named_behind candidates number = codes ", " ++ named candidates number

-- a list of candidates: `2 Bob, 3 Cy`
unfoldable pub all_named : List CandidateEntry → List ℕ → Text
all_named candidates [] = []
all_named candidates (n ∷ ns) = named candidates n ++ flat_map (named_behind candidates) ns

-- ---- what is due in a count

-- what a stage does, and which candidate it concerns
unfoldable pub action_words : List CandidateEntry → Action → Text
action_words candidates First = codes "first preferences"
action_words candidates (Surplus c) = codes "surplus of " ++ named candidates c
action_words candidates (Exclude c) = codes "exclusion of " ++ named candidates c
action_words candidates (ExcludeLast c) = codes "exclusion of " ++ (named candidates c ++ codes ", last vacancies")

-- what a lot decides
abbrev pub lot_words : TiedFor → Text
lot_words for_surplus = codes "whose surplus comes first"
lot_words for_exclusion = codes "who is excluded"

-- the stage that is due, the lot that it needs, or that no stage is due
unfoldable pub due_words : ℕ → List CandidateEntry → Due → Text
due_words stage candidates (Act action) = codes "stage " ++ (decimal stage ++ (codes " comes next, " ++ action_words candidates action))
due_words stage candidates (Lot at kind tied) = codes "stage " ++ (decimal at ++ (codes " waits for a lot that decides " ++ (lot_words kind ++ (codes ": " ++ all_named candidates tied))))
due_words stage candidates Finished = codes "the count is finished, the declaration comes next"

-- ---- what comes next

-- how many candidates there are for how many seats, before nominations close
unfoldable pub nominations_words : ℕ → ℕ → Text
nominations_words candidates seats = decimal candidates ++ (codes " candidates for " ++ (decimal seats ++ codes " seats so far, the close of nominations comes next"))

-- what the seal is waiting for: it is due once all batches are taken and all their doubtful papers have a verdict
unfoldable pub seal_words : StatusEntry → Text
seal_words s =
    if s.batches == 0 then codes "no batch is given out yet" else (if s.taken == s.batches && s.doubtful_open == 0 then codes "the seal comes next"
    else codes "the seal comes once all are taken and judged")

-- how many batches of a ward are taken, and how many differ
unfoldable pub taken_words : StatusEntry → Text
taken_words s = decimal s.taken ++ (codes " of " ++ (decimal s.batches ++ (codes " batches taken, " ++ (decimal s.differing ++ codes " differing"))))

-- the state of a ward's papers before its seal
unfoldable pub papers_words : StatusEntry → Text
papers_words s = taken_words s ++ (codes ", " ++ (decimal s.doubtful_open ++ (codes " doubtful open, " ++ seal_words s)))

-- what comes next, depending on the phase of the ward
unfoldable pub step_words : NextStepEntry → Text
step_words (nominations_end candidates seats) = nominations_words candidates seats
step_words (papers_stand s) = papers_words s
step_words (count_goes stage due candidates) = due_words stage candidates due
step_words nothing_comes = codes "declared, nothing is left to do"

-- the line that says what comes next in a ward's election
unfoldable pub step_text : ℕ → NextStepEntry → Text
step_text ward step = codes "ward " ++ (decimal ward ++ (codes ": " ++ step_words step))
