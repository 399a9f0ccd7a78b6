-- Making a new office from the journal of another.
use Rattle.std.proofs.Common.{◌≡◌, ◌≢◌, ◌⊎◌, ◌∙◌, ◌++◌, inl, inr, ℕ, Bool, List, [], ◌∷◌, length, map, Result, Ok, Err, codes, string_bytes, refl, sym, subst, ap, arith}
use Rattle.clap.specs.Words.{Text}
use Rattle.sqlite.specs.State.{HasCleanDisk, State}
use Rattle.register.specs.Machine.{Outcome, accepted, kept, refused}
use Rattle.register.specs.Offices.{OfficeState}
use Rattle.register.specs.declared.command.Request.{Request}
use Rattle.register.specs.declared.refusal.Reason.{Reason}
use Rattle.tables.specs.declared.fault.Fault.TheVariants.{Memory}
use Rattle.store.specs.Openings.{IsBlank}
use Rattle.store.specs.Overviews.{WardView}
use Rattle.store.specs.StateTables.{IsAt}
use Rattle.store.specs.declared.copying.CopyFault.{CopyFault}
use Rattle.store.specs.declared.copying.CopyFault.TheVariants as copy_fault
use Rattle.office.specs.Answers.{IsReadAt, Told, again, done, no, told_of}
use Rattle.office.specs.Overviews.{wards_answer}
use Rattle.office.specs.Reads.{Read}
use Rattle.office.specs.declared.answers.ReadError.{ReadError}
use Rattle.office.specs.declared.answers.ReadError.TheVariants.{Refused, Fault}
use Rattle.mending.specs.Mending.{IsPoint, MendPoint, sent_of}
use Rattle.mending.specs.Reports.{end_line}
use Rattle.mending.specs.declared.changes.Changes.{Changes}
use Rattle.mending.specs.declared.mended.Mended.{Mended}
use Rattle.mending.specs.declared.recipients.Sent.TheVariants.{Accepted, Known, Denied}
use Rattle.desk.specs.Copying.{state_behind}
use Rattle.desk.specs.Journals.{IsScriptOf, IsScriptOfNone}
use Rattle.desk.specs.Mends.{AreUnsendable, HoldsMended, IsTried, IsUnbegun, IsUnmade, differing, mended_text, out_of_memory, script_of, unsent_text, ward_lines}
use Rattle.desk.specs.Overviews.{ward_line}
use Rattle.desk.specs.Pages.{Page, failed, failure_of, unmended}
use Rattle.desk.specs.declared.copying.CopyState.{CopyState}
use Rattle.desk.specs.declared.copying.CopyState.TheVariants.{Unknown, Untouched, Whole}
use Rattle.desk.specs.declared.lines.Failure.TheVariants.{Office}
use Rattle.desk.specs.declared.orders.MendOrder.{MendOrder}
use Rattle.desk.proofs.NoScriptLemmas.{same_number}

-- ---- sending an order: its outcome is that of the machine

pub sent_done : (o : Outcome) (reply : List ℕ) → done reply ≡ told_of o → Accepted ≡ sent_of o
sent_done (accepted next words) reply told = refl
sent_done (kept words) reply told = let bad : done reply ≡ again words = told in absurd (cc bad)
sent_done (refused why) reply told = let bad : done reply ≡ no why = told in absurd (cc bad)

pub sent_again : (o : Outcome) (reply : List ℕ) → again reply ≡ told_of o → Known ≡ sent_of o
sent_again (accepted next words) reply told = let bad : again reply ≡ done words = told in absurd (cc bad)
sent_again (kept words) reply told = refl
sent_again (refused why) reply told = let bad : again reply ≡ no why = told in absurd (cc bad)

-- the reason in an answer that refuses
abbrev reason_in : Reason → Told → Reason
reason_in other (done reply) = other
reason_in other (again reply) = other
reason_in other (no why) = why

pub sent_no : (o : Outcome) (why : Reason) → no why ≡ told_of o → Denied why ≡ sent_of o
sent_no (accepted next words) why told = let bad : no why ≡ done words = told in absurd (cc bad)
sent_no (kept words) why told = let bad : no why ≡ again words = told in absurd (cc bad)
sent_no (refused other) why told = let same : no why ≡ no other = told in ap (λ w. Denied (reason_in why w)) same

-- ---- the wards of an office

-- whatever the result of a read, the office is open in its state, or it's closed and a stop leaves its state
pub read_at : {X Y : Type 0} (view : Y → X) (s : OfficeState) (told : Result X Reason) (found : Result Y ReadError) (closed : Bool) (st : State) → Read view s told found closed st
    → IsReadAt s closed st
read_at view s told (Ok y) closed st read = inl read.1
read_at view s told (Err (Refused why)) closed st read = inl read.1
read_at view s told (Err (Fault fault)) closed st (inl stays) = inl stays.open_at
read_at view s told (Err (Fault fault)) closed st (inr shut) = inr (shut.is_closed, shut.leaves)

-- the value of a result
abbrev value_in : {X E : Type 0} → X → Result X E → X
value_in other (Ok x) = x
value_in other (Err e) = other

lines_of_views : {X V : Type 0} (text : V → Text) (view : X → V) (xs : List X) → map (λ x. text (view x)) xs ≡ map text (map view xs)
lines_of_views text view [] = refl
lines_of_views text view (x ∷ xs) = ap (λ rest. text (view x) ∷ rest) (lines_of_views text view xs)

-- the lines on the wards that were read are those of the state
pub lines_read : {X : Type 0} (view : X → WardView) (s : OfficeState) (wards : List X) (lines : List Text) → lines ≡ map (λ w. ward_line (view w)) wards
    → wards_answer s ≡ Ok (map view wards) → lines ≡ ward_lines s
lines_read view s wards lines is read =
    is ∙ lines_of_views ward_line view wards ∙ ap (map ward_line) (sym (ap (value_in (map view wards)) read))

-- ---- what is printed

-- what is printed, given the text so far, the lines on wards of both offices, and the numbers of orders
abbrev shown : List Text → Text → List Text → ℕ → ℕ → ℕ → Text
shown before told after kept_orders replaced_orders left_orders =
    told ++ (differing (codes "- ") before after ++ (differing (codes "+ ") after before ++ end_line kept_orders replaced_orders left_orders))

-- the text is that of the point at which all orders have had their turn
pub text_told : (before after : List Text) (p : MendPoint) (m : Mended) (text : Text) → IsPoint p m → after ≡ ward_lines p.state
    → text ≡ shown before (string_bytes m.text) after m.kept m.replaced m.left_out → text ≡ mended_text before p
unfolding mended_text
text_told before after p m text point lines is =
    is ∙ ap (λ t. shown before t after m.kept m.replaced m.left_out) point.told
    ∙ ap (λ l. shown before p.told l m.kept m.replaced m.left_out) lines
    ∙ ap (λ n. shown before p.told (ward_lines p.state) n m.replaced m.left_out) point.kept_orders
    ∙ ap (λ n. shown before p.told (ward_lines p.state) p.kept_orders n m.left_out) point.replaced_orders
    ∙ ap (λ n. shown before p.told (ward_lines p.state) p.kept_orders p.replaced_orders n) point.left_orders

-- ---- the outcome

-- no new office was made, and nothing was written
pub unmade : (before : List Text) (changes : Changes) (page : Page) (left : CopyState) (st : State) → IsUnmade changes page → IsTried before changes page left st st
unmade before changes page left st why = record { told = inr why; stops = λ honest blank trees may. inl may }

-- the texts after `--with` aren't orders that can be sent: their script isn't one of requests
pub unsendable_script : (texts : List Text) (script : Text) → script ≡ script_of texts → IsScriptOfNone script → AreUnsendable texts
unsendable_script texts script is none requests it same = subst IsScriptOfNone is none requests it

-- or it has another number of requests
pub unsendable_number : (texts : List Text) (script : Text) (orders : List Request) → script ≡ script_of texts → IsScriptOf script orders → (length orders ≡ length texts → ⊥) → AreUnsendable texts
unsendable_number texts script orders is these other requests it same =
    other (same_number (script_of texts) orders requests (subst (λ (t : Text). IsScriptOf t orders) is these) it ∙ same)

-- the page says so, or an allocation for it failed
pub told_unsendable : (texts : List Text) (page : Page) → AreUnsendable texts → (page ≡ unmended unsent_text) ⊎ (page ≡ out_of_memory)
    → ((page ≡ unmended unsent_text) × AreUnsendable texts) ⊎ (page ≡ out_of_memory)
told_unsendable texts page are (inl is) = inl (is, are)
told_unsendable texts page are (inr memory) = inr memory

pub unbegun : (m : MendOrder) (page : Page) → ((page ≡ unmended unsent_text) × AreUnsendable (map string_bytes m.instead.items)) ⊎ (page ≡ out_of_memory) → IsUnbegun m page
unbegun m page (inl unsent) = inl unsent
unbegun m page (inr memory) = inr (inr (Office Memory, memory))

-- if nothing was begun, the status isn't 0
pub ends_unbegun : (m : MendOrder) (page : Page) → IsUnbegun m page → page.status ≢ 0
ends_unbegun m page (inl (is, unsendable)) zero = let one : page.status ≡ 1 = ap (λ (p : Page). p.status) is in absurd (omega (arith, one, zero))
ends_unbegun m page (inr (inl is)) zero = let one : page.status ≡ 1 = ap (λ (p : Page). p.status) is in absurd (omega (arith, one, zero))
ends_unbegun m page (inr (inr (failure, is))) zero = let three : page.status ≡ 3 = ap (λ (p : Page). p.status) is in absurd (omega (arith, three, zero))

-- what is reported after a copy that failed is true
pub mended_behind : (why : CopyFault) (new_old new_new : State) → HoldsMended (state_behind why) (failed (failure_of why)) new_old new_new
mended_behind (copy_fault.Office fault) new_old new_new = omega arith
mended_behind copy_fault.Taken new_old new_new = omega arith
mended_behind (copy_fault.Copy fault) new_old new_new = (failure_of (copy_fault.Copy fault), refl)

-- if the status is 0, the new office is complete
pub whole_mended : (left : CopyState) (page : Page) (new_old new_new : State) → page.status ≡ 0 → HoldsMended left page new_old new_new
    → (left ≡ Whole) × (HasCleanDisk new_new → IsBlank new_old → (s : OfficeState) × IsAt s new_new)
whole_mended Whole page new_old new_new zero it = (refl, it.1)
whole_mended Untouched page new_old new_new zero it = absurd (it zero)
whole_mended Unknown page new_old new_new zero it = let three : page.status ≡ 3 = ap (λ (p : Page). p.status) it.1 in absurd (omega (arith, three, zero))
