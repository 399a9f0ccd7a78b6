-- What is shown in public: the list of wards contains no floats, and the page of a ward is the one that an order prints.
use Rattle.std.proofs.Common.{◌≡◌, ◌∙◌, Bool, true, false, ℕ, List, Option, Some, None, Result, Ok, Err, ap, inl, inr, map, refl, sym}
use Rattle.std.specs.Borrow.{Bor}
use Rattle.serde_json.specs.Written.{has_float}
use Rattle.sqlite.specs.State.{State}
use Rattle.register.specs.Offices.{OfficeState, WardEntry, ward_at}
use Rattle.register.specs.Ranges.{is_ward_number}
use Rattle.register.specs.declared.refusal.Reason.{Reason}
use Rattle.store.specs.Overviews.{WardView}
use Rattle.tables.specs.Faults.{fault_number}
use Rattle.office.specs.Reads.{Read}
use Rattle.office.specs.Sheets.{text_found, text_answer}
use Rattle.office.specs.declared.answers.ReadError.{ReadError}
use Rattle.office.specs.declared.answers.ReadError.TheVariants.{Refused, Fault as Failed}
use Rattle.office.specs.declared.sheets.WardText.TheVariants as text
use Rattle.wire.specs.Gates.{PublicEntry}
use Rattle.wire.specs.PublicReplies.{page_found, page_told, screen_of, screen_ward_data}
use Rattle.wire.specs.Requests.{public}
use Rattle.wire.specs.Responses.{ResponseEntry, fault_response}
use Rattle.wire.specs.Serving.{IsReadTold, Readies, public_response, read_response}
use Rattle.wire.specs.declared.public_target.PublicTarget.{PublicTarget}
use Rattle.wire.specs.declared.response.Response.{Response}
use Rattle.wire.proofs.ReplyLemmas.{list-float}

-- ---- the wards

pub screen-float : (title : List ℕ) (views : List WardView) → has_float (screen_of title views) ≡ false
screen-float title views = rw (list-float screen_ward_data (λ _. refl) (map (λ v. v.ward) views)) refl

-- ---- the page of a ward

page-found : (title : Bor (List ℕ)) (s : OfficeState) (found : Option WardEntry) → text_found (text.Page title) s found ≡ page_found title.now s found
page-found title s None = refl
page-found title s (Some w) = refl

pub page-told : (title : Bor (List ℕ)) (s : OfficeState) (ward : ℕ) → text_answer (text.Page title) s ward ≡ page_told title.now s ward
page-told title s ward = by (is_ward_number ward) refl
  where
    by : (b : Bool) → is_ward_number ward ≡ b → text_answer (text.Page title) s ward ≡ page_told title.now s ward
    by true is = rw is (page-found title s (ward_at s ward))
    by false is = rw is refl

-- ---- what was read for the page

pub Readies-public : {X Y : Type 0} (s : OfficeState) (its : PublicEntry) (what : PublicTarget) (entry : X → ResponseEntry) (view : Y → X) (reads : Result X Reason) (r : Result Y ReadError)
    (response : Response) (closed : Bool) (st : State)
    → public_response s its what ≡ read_response entry reads → Read view s reads r closed st → IsReadTold entry view r response → Readies s (public its what) response closed st
Readies-public s its what entry view reads (Ok y) response closed st same read tells = (
  entry (view y),
  tells,
  inl (record { next = s; is = (refl, sym (ap (read_response entry) read.0) ∙ sym same); open_at = read.1 }),
)
Readies-public s its what entry view reads (Err (Refused why)) response closed st same read tells = (
  read_response entry (Err why),
  tells,
  inl (record { next = s; is = (refl, sym (ap (read_response entry) read.0) ∙ sym same); open_at = read.1 }),
)
Readies-public s its what entry view reads (Err (Failed f)) response closed st same read tells = (fault_response (fault_number f), tells, inr (f, refl, read))
