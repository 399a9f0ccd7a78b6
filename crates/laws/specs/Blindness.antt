-- What a clerk observes of the requests to an office, what the clerk sees as a result, and the decisions on the clerk's own requests.
use Rattle.std.specs.Prelude.{◌≡◌, ℕ, ◌==◌, ◌&&◌, ◌||◌, not, Bool, true, false, if◌then◌else◌, List, [], ◌∷◌, ◌++◌, map, string_bytes}
use Rattle.std.specs.List.{filter, list_all}
use Rattle.register.specs.declared.command.Command.{Command}
use Rattle.register.specs.declared.command.Command.TheVariants as command
use Rattle.register.specs.declared.counts.CountCommand.TheVariants as count
use Rattle.register.specs.declared.command.Request.{Request}
use Rattle.register.specs.Ranges.{is_office}
use Rattle.register.specs.Offices.{OfficeState}
use Rattle.register.specs.StateConditions.{IsState}
use Rattle.register.specs.Effects.{EffectEntry, papers_keyed, paper_judged, stage_counted, lot_drawn, with_effect}
use Rattle.register.specs.Machine.{Ruling, accepts, keeps, refuses, ruling_at, after_one, after}
use Rattle.register.specs.Seen.{seen_by}
use Rattle.register.specs.Status.{paper_at, work_of}

-- the ruling on a request in a given state: its change and reply, the reply recorded in its receipt, or the reason for refusing it
abbrev pub ruling_on : OfficeState → Request → Ruling
ruling_on s r = ruling_at s r.actor (string_bytes r.id) r.command

-- ---- what a clerk observes

-- an observation: a request by the clerk, or a change by the office that clerks see
pub data Observation : Type 0 where
  asked : Request → Observation
  made : EffectEntry → Observation

-- Clerks see that a ward is new or has entered another phase, that a candidate was added or withdrawn, and that a batch is new, has entered another round
-- or has been assigned to a third clerk. They don't see that papers are keyed, that a paper is judged, that a stage is counted, or that a lot is drawn.
abbrev pub is_shown : EffectEntry → Bool
is_shown (papers_keyed papers) = false
is_shown (paper_judged verdict) = false
is_shown (stage_counted ward done) = false
is_shown (lot_drawn lot) = false
is_shown effect = true

-- what every clerk observes of an office request, given the ruling on it: its change, if clerks see it
abbrev pub observed_of : Ruling → List Observation
observed_of (accepts change reply) = if is_shown change.effect then made change.effect ∷ [] else []
observed_of (keeps reply) = []
observed_of (refuses why) = []

-- what a clerk observes of a request in a given state: the request itself if it is the clerk's own, the change if it is from the office, and nothing if it
-- is from another clerk
abbrev pub observed_at : ℕ → OfficeState → Request → List Observation
observed_at clerk s r = if r.actor == clerk then asked r ∷ [] else (if is_office r.actor then observed_of (ruling_on s r) else [])

-- what a clerk observes of a list of requests
abbrev pub observed_by : ℕ → OfficeState → List Request → List Observation
observed_by clerk s [] = []
observed_by clerk s (r ∷ rs) = observed_at clerk s r ++ observed_by clerk (after_one s r) rs

-- the office's commands whose changes clerks may see: all but verdicts, stages and lots; keyings aren't office commands
abbrev pub is_shown_command : Command → Bool
is_shown_command (command.Keying keyed) = false
is_shown_command (command.Verdict verdict) = false
is_shown_command (command.Count (count.Advance ward)) = false
is_shown_command (command.Count (count.Lot ward stage candidate)) = false
is_shown_command other = true

-- whether a clerk may observe a request: it is the clerk's own, or it is from the office and contains one of these commands
abbrev pub may_observe : ℕ → Request → Bool
may_observe clerk r = (r.actor == clerk) || (is_office r.actor && is_shown_command r.command)

-- the clerk observes nothing of the request, in any state
abbrev pub IsUnobserved : ℕ → Request → Type 0
IsUnobserved clerk r = (s : OfficeState) → observed_at clerk s r ≡ []

-- ---- consequences

-- the rulings on a clerk's own requests in a list, each in the state reached at that point
abbrev pub own_rulings : ℕ → OfficeState → List Request → List Ruling
own_rulings clerk s [] = []
own_rulings clerk s (r ∷ rs) = if r.actor == clerk then ruling_on s r ∷ own_rulings clerk (after_one s r) rs else own_rulings clerk (after_one s r) rs

-- what a clerk sees after the given observations, starting from what the clerk saw at first; the clerk's requests and the office's changes modify it just
-- as they modify a state
abbrev pub seen_after : ℕ → OfficeState → List Observation → OfficeState
seen_after clerk seen [] = seen
seen_after clerk seen (asked r ∷ observed) = seen_after clerk (after_one seen r) observed
seen_after clerk seen (made effect ∷ observed) = seen_after clerk (seen_by clerk (with_effect effect seen)) observed

-- the rulings on a clerk's own requests, computed only from what the clerk sees, observation by observation
abbrev pub decided_alone : ℕ → OfficeState → List Observation → List Ruling
decided_alone clerk seen [] = []
decided_alone clerk seen (asked r ∷ observed) = ruling_on seen r ∷ decided_alone clerk (after_one seen r) observed
decided_alone clerk seen (made effect ∷ observed) = decided_alone clerk (seen_by clerk (with_effect effect seen)) observed

-- ---- the laws

-- two offices look identical to a clerk
abbrev pub AreAlikeTo : ℕ → OfficeState → OfficeState → Type 0
AreAlikeTo clerk s t = seen_by clerk s ≡ seen_by clerk t

-- two offices give a clerk the same answers: the same ruling on every request from the clerk, the same work, and the same ballot paper text for every
-- batch
pub record AnswerAlike (clerk : ℕ) (s t : OfficeState) : Type 0 where
  pub decided : (id : List ℕ) (command : Command) → ruling_at s clerk id command ≡ ruling_at t clerk id command
  pub work : work_of s clerk ≡ work_of t clerk
  pub paper : (batch : ℕ) → paper_at s clerk batch ≡ paper_at t clerk batch

-- An office looks the same to a clerk as the part of it that the clerk sees.
abbrev pub SeenIsAlike : Type 0
SeenIsAlike = (clerk : ℕ) (s : OfficeState) → AreAlikeTo clerk s (seen_by clerk s)

-- Two offices that look identical to a clerk give the clerk the same answers.
abbrev pub AlikeOfficesAnswerAlike : Type 0
AlikeOfficesAnswerAlike = (clerk : ℕ) (s t : OfficeState) → is_office clerk ≡ false → AreAlikeTo clerk s t → AnswerAlike clerk s t

-- What a clerk sees after any list of requests is determined by what they saw before and what they have observed.
abbrev pub SeenIsObserved : Type 0
SeenIsObserved =
    (clerk : ℕ) (s : OfficeState) (rs : List Request) → is_office clerk ≡ false → IsState s → seen_by clerk (after s rs) ≡ seen_after clerk (seen_by clerk s) (observed_by clerk s rs)

-- The rulings on a clerk's own requests are also determined by what they saw before and what they have observed.
abbrev pub DecidedByObserved : Type 0
DecidedByObserved =
    (clerk : ℕ) (s : OfficeState) (rs : List Request) → is_office clerk ≡ false → IsState s → own_rulings clerk s rs ≡ decided_alone clerk (seen_by clerk s) (observed_by clerk s rs)

-- If none of the requests is from the office, a clerk observes their own requests and nothing else.
abbrev pub OwnAreObserved : Type 0
OwnAreObserved =
    (clerk : ℕ) (s : OfficeState) (rs : List Request) → list_all (λ (r : Request). not (is_office r.actor)) rs ≡ true
    → observed_by clerk s rs ≡ map asked (filter (λ (r : Request). r.actor == clerk) rs)

-- A clerk can't tell two courses of events apart: the rulings on the clerk's own requests are the same in both, and the two offices look identical to the
-- clerk.
pub record CannotTell (clerk : ℕ) (s t : OfficeState) (rs qs : List Request) : Type 0 where
  pub decided : own_rulings clerk s rs ≡ own_rulings clerk t qs
  pub alike : AreAlikeTo clerk (after s rs) (after t qs)

-- If two offices look identical to a clerk, and the clerk makes the same observations in both, the clerk can't tell the two apart, no matter what other
-- clerks keyed in either.
abbrev pub ClerksAreBlind : Type 0
ClerksAreBlind =
    (clerk : ℕ) (s t : OfficeState) (rs qs : List Request) → is_office clerk ≡ false → IsState s → IsState t → AreAlikeTo clerk s t → observed_by clerk s rs ≡ observed_by clerk t qs
    → CannotTell clerk s t rs qs
