-- Extending a list of requests one at a time.
use Rattle.std.proofs.Common.{◌≡◌, ◌≤◌, ◌<◌, ◌+◌, inl, inr, ℕ, Bool, List, [], ◌∷◌, ◌++◌, length, map, take, get_or, Err, refl, sym, ap, ◌∙◌, arith}
use Rattle.std.proofs.lemmas.List.{take_more, map-append}
use Rattle.std.proofs.lemmas.List.Sums.{fold-append}
use Rattle.sqlite.specs.State.{State}
use Rattle.register.specs.declared.command.Request.{Request}
use Rattle.register.specs.Offices.{OfficeState, empty_office}
use Rattle.register.specs.Machine.{step_of, after_one, after}
use Rattle.register.proofs.ListLaws.{after-more, after-accepted_of}
use Rattle.tables.specs.declared.fault.Fault.{Fault}
use Rattle.store.specs.StateTables.{IsAt, LeavesState}
use Rattle.office.specs.declared.answers.Answer.{Answer}
use Rattle.office.specs.Answers.{told, told_of, Handled}
use Rattle.office.specs.Runs.{outcomes, IsAfterBeginning, StopsAfter}

outcomes_push : (s : OfficeState) (rs : List Request) (r : Request) → outcomes s (rs ++ r ∷ []) ≡ outcomes s rs ++ step_of (after s rs) r ∷ []
outcomes_push s [] r = refl
outcomes_push s (x ∷ rs) r = ap (λ l. step_of s x ∷ l) (outcomes_push (after_one s x) rs r)

-- another answer is added
pub answers_more : (s : OfficeState) (rs : List Request) (i : ℕ) (d : Request) (given : List Answer) (a : Answer) → i < length rs → map told given ≡ map told_of (outcomes s (take i rs))
    → told a ≡ told_of (step_of (after s (take i rs)) (get_or rs i d)) → map told (given ++ a ∷ []) ≡ map told_of (outcomes s (take (i + 1) rs))
answers_more s rs i d given a within so_far last =
    map-append told given (a ∷ []) ∙ ap (λ l. l ++ told a ∷ []) so_far ∙ ap (λ t. map told_of (outcomes s (take i rs)) ++ t ∷ []) last
    ∙ sym (map-append told_of (outcomes s (take i rs)) (step_of (after s (take i rs)) (get_or rs i d) ∷ []))
    ∙ sym (ap (map told_of) (ap (outcomes s) (take_more rs i d within) ∙ outcomes_push s (take i rs) (get_or rs i d)))

-- the state after some of the requests is the state after the accepted ones among all requests up to that point
pub beginning : (earlier rs : List Request) (answered count : ℕ) → answered ≤ count → count ≤ answered + 1 → count ≤ length rs → (s : OfficeState)
    → s ≡ after (after empty_office earlier) (take count rs) → IsAfterBeginning earlier rs answered s
beginning earlier rs answered count low high within s is = record {
  count = count;
  all_answered = low;
  one_more = high;
  within = within;
  is = is ∙ sym (fold-append after_one empty_office earlier (take count rs)) ∙ sym (after-accepted_of empty_office (earlier ++ take count rs));
}

-- if the office is in the state after some of the requests, the guarantee holds after any stop
pub keeps_beginning : (earlier rs : List Request) (i : ℕ) (st : State) → i ≤ length rs → IsAt (after (after empty_office earlier) (take i rs)) st → LeavesState st (IsAfterBeginning earlier rs i)
keeps_beginning earlier rs i st within at trees may =
    let it = at.leaves trees may in
    (it.0, beginning earlier rs i i (omega arith) (omega arith) within it.0 it.1, it.2)

-- the state after another request
pub after_next : (s : OfficeState) (rs : List Request) (i : ℕ) (r : Request) → i < length rs → r ≡ get_or rs i r → after_one (after s (take i rs)) r ≡ after s (take (i + 1) rs)
after_next s rs i r within is = ap (after_one (after s (take i rs))) is ∙ sym (after-more s rs i r within)

-- a fault while handling a request ends the list there
pub stops_after : (s : OfficeState) (rs : List Request) (i : ℕ) (r : Request) (f : Fault) (closed : Bool) (st : State) → i < length rs → r ≡ get_or rs i r
    → Handled (after s (take i rs)) (step_of (after s (take i rs)) r) (Err f) closed st → StopsAfter s rs i closed st f
stops_after s rs i r f closed st within is handled = inr (record { request = r; next = take_more rs i r within ∙ ap (λ x. take i rs ++ x ∷ []) (sym is); handled = handled })

-- the state after a stop if the list ended this way
pub stops_at_beginning : (earlier rs : List Request) (i : ℕ) (r : Request) (f : Fault) (closed : Bool) (st : State) → i < length rs → r ≡ get_or rs i r
    → Handled (after (after empty_office earlier) (take i rs)) (step_of (after (after empty_office earlier) (take i rs)) r) (Err f) closed st → LeavesState st (IsAfterBeginning earlier rs i)
stops_at_beginning earlier rs i r f closed st within is handled = elim handled [
  | inl kept ↦ keeps_beginning earlier rs i st (omega arith) kept.open_at.at
  | inr shut ↦ λ trees may. let it = shut.leaves trees may in elim it.1 [
    | inl before ↦ (it.0, beginning earlier rs i i (omega arith) (omega arith) (omega arith) it.0 before, it.2)
    | inr next ↦ (it.0, beginning earlier rs i (i + 1) (omega arith) (omega arith) (omega arith) it.0 (next ∙ after_next (after empty_office earlier) rs i r within is), it.2)
  ]
]
