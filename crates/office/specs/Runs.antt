-- A list of requests, answered one after another.
use Rattle.std.specs.Prelude.{◌≡◌, ◌⊎◌, ◌≤◌, ◌+◌, ℕ, Bool, true, List, [], ◌∷◌, ◌++◌, length, map, take, Err}
use Rattle.std.specs.List.{list_all}
use Rattle.sqlite.specs.State.{State}
use Rattle.register.specs.declared.command.Request.{Request}
use Rattle.register.specs.Offices.{OfficeState, empty_office}
use Rattle.register.specs.Machine.{Outcome, step_of, after_one, after, accepted_of, is_accepted}
use Rattle.tables.specs.declared.fault.Fault.{Fault}
use Rattle.tables.specs.declared.fault.Fault.TheVariants.{Memory}
use Rattle.store.specs.StateTables.{LeavesState}
use Rattle.office.specs.declared.answers.Answer.{Answer}
use Rattle.office.specs.Answers.{told, told_of, IsOpenAt, Handled}

-- the machine's outcomes for the given requests, each in the state that the requests before it lead to
abbrev pub outcomes : OfficeState → List Request → List Outcome
outcomes s [] = []
outcomes s (r ∷ rs) = step_of s r ∷ outcomes (after_one s r) rs

-- each of the given requests is accepted in the state that the requests before it lead to
abbrev pub are_accepted : OfficeState → List Request → Bool
are_accepted s requests = list_all is_accepted (outcomes s requests)

-- Requests lead to a state: when they are replayed in an empty office, each of them is accepted, and they result in that state.
pub record LeadTo (requests : List Request) (s : OfficeState) : Type 0 where
  pub accepted : are_accepted empty_office requests ≡ true
  pub leads : after empty_office requests ≡ s

-- the answers are the machine's answers to the first requests, one request for each answer
pub record AnswersFirst (s : OfficeState) (requests : List Request) (answers : List Answer) : Type 0 where
  pub within : length answers ≤ length requests
  pub same : map told answers ≡ map told_of (outcomes s (take (length answers) requests))

-- The state after the accepted requests in a prefix of the list, which contains all answered requests and at most one more.
pub record IsAfterBeginning (earlier requests : List Request) (answered : ℕ) (s : OfficeState) : Type 0 where
  pub count : ℕ
  pub all_answered : answered ≤ count
  pub one_more : count ≤ answered + 1
  pub within : count ≤ length requests
  pub is : s ≡ after empty_office (accepted_of empty_office (earlier ++ take count requests))

-- The guarantee of the office. After a stop, the state is the one after the accepted requests in a prefix, which contains every earlier request, every answered
-- request of the list, and at most one more.
abbrev pub Keeps : List Request → List Request → ℕ → State → Type 0
Keeps earlier requests answered st = LeavesState st (IsAfterBeginning earlier requests answered)

-- the answers couldn't be allocated: no request was handled, and the office stays open in its previous state
pub record FailedToAllocate (s : OfficeState) (answered : ℕ) (f : Fault) (closed : Bool) (st : State) : Type 0 where
  pub none : answered ≡ 0
  pub memory : f ≡ Memory
  pub open_at : IsOpenAt s closed st

-- the request after the answered ones hit the fault, which had the effect specified for it
pub record MetFault (s : OfficeState) (requests : List Request) (answered : ℕ) (f : Fault) (closed : Bool) (st : State) : Type 0 where
  pub request : Request
  pub next : take (answered + 1) requests ≡ take answered requests ++ request ∷ []
  pub handled : Handled (after s (take answered requests)) (step_of (after s (take answered requests)) request) (Err f) closed st

-- why a fault ended the list after the given number of answers, and its effect
abbrev pub StopsAfter : OfficeState → List Request → ℕ → Bool → State → Fault → Type 0
StopsAfter s requests answered closed st f = FailedToAllocate s answered f closed st ⊎ MetFault s requests answered f closed st
