-- A request that was accepted earlier, and the read that compares its content.
use Rattle.std.proofs.Common.{◌≡◌, ◌∙◌, ◌⊎◌, inl, inr, ℕ, Bool, true, false, List, Result, Ok, refl, sym, ap, subst, string_bytes}
use Rattle.sqlite.specs.State.{State}
use Rattle.register.specs.Offices.{OfficeState}
use Rattle.register.specs.Repeats.{is_kept_otherwise}
use Rattle.register.specs.Machine.{Outcome, accepted, kept, refused, state_after, step_of}
use Rattle.register.specs.declared.command.Request.{Request}
use Rattle.register.specs.declared.refusal.Reason.{Reason}
use Rattle.tables.specs.declared.fault.Fault.TheVariants.{Memory, Store}
use Rattle.store.specs.StateTables.{IsAt}
use Rattle.office.specs.Answers.{IsClosedIn, IsKeptOpen, IsOpenAt, again, done, told_of}
use Rattle.office.specs.Reads.{IsClosedReading}
use Rattle.desk.specs.Headline.{IsAnswered}
use Rattle.desk.specs.Pages.{Page, noted, page_for, page_found, page_kept}
use Rattle.desk.specs.Parts.{IsFound}
use Rattle.desk.proofs.CauseLemmas.{TellsSince}

-- if the stored content differs, the note says so
pub note_told : (id own reply : List ℕ) (differs : Result Bool Reason) → id ≡ own → differs ≡ Ok true → noted id reply ≡ page_found (page_kept own reply) differs
note_told id own reply differs same told = ap (λ x. noted x reply) same ∙ ap (page_found (page_kept own reply)) (sym told)

-- a request that was accepted earlier doesn't change the state
kept_stays : (s : OfficeState) (o : Outcome) (reply : List ℕ) → again reply ≡ told_of o → state_after s o ≡ s
kept_stays s (accepted next words) reply told = let bad : again reply ≡ done words = told in absurd (cc bad)
kept_stays s (kept words) reply told = refl
kept_stays s (refused why) reply told = refl

-- a fault during a read closed the office in the state that it was in before the request
closed_in : (s : OfficeState) (o : Outcome) (closed : Bool) (st : State) {f : _} → IsClosedReading s f closed st → IsClosedIn s o f closed st
closed_in s o closed st shut = record {
  is_closed = shut.is_closed;
  fault = inr shut.fault;
  inside = λ memory. let bad : Memory ≡ Store = sym memory ∙ shut.fault in absurd (cc bad);
  leaves = λ trees may. let it = shut.leaves trees may in (it.0, inl it.1, it.2);
}

-- a request that was accepted earlier is answered with its reply, and with the note if the stored content differs; or with the fault from the read
pub answered_before : (first mid next : State) (was closed : Bool) (s : OfficeState) (r : Request) (reply : List ℕ) (page : Page) → TellsSince first mid next → again reply ≡ told_of (step_of s r)
    → IsOpenAt (state_after s (step_of s r)) was mid
    → (was ≡ false → (t : OfficeState) → IsAt t mid → IsFound t (page_kept (string_bytes r.id) reply) (Ok (is_kept_otherwise t r)) page closed mid next)
    → (answered : ℕ) × IsAnswered first closed next page_for s r answered page
answered_before first mid next was closed s r reply page since told here found =
    let stays = kept_stays s (step_of s r) reply told in
    elim (found here.is_open s (subst (λ x. IsAt x mid) stays here.at)) [
      | inl shown ↦ (1, inl (refl, shown.0 ∙ ap (page_for s r) told, subst (λ x. IsOpenAt x closed next) (sym stays) shown.1))
      | inr stopped ↦ (0, inr (refl, (stopped.0, stopped.1, (inl (since stopped.0 stopped.2.0), left stopped.2.1))))
    ]
  where
    left : {f : _} → IsKeptOpen s f closed next ⊎ IsClosedReading s f closed next → IsKeptOpen s f closed next ⊎ IsClosedIn s (step_of s r) f closed next
    left (inl stays) = inl stays
    left (inr shut) = inr (closed_in s (step_of s r) closed next shut)
