-- The answer to a request for the page listing all wards, given the overviews found.
use Rattle.std.proofs.Common.{◌≡◌, inl, ℕ, Bool, false, List, map, Result, Ok, Err, IfOk, IfErr, OnOk, String, Vec, string_bytes, refl, sym, ap, ◌∙◌}
use Rattle.std.specs.declared.alloc.Global.{Global}
use Rattle.sqlite.specs.State.{State}
use Rattle.register.specs.declared.refusal.Reason.{Reason}
use Rattle.register.specs.Offices.{OfficeState}
use Rattle.sheet.specs.Index.{index}
use Rattle.store.specs.declared.overviews.wards.WardOverview.{WardOverview}
use Rattle.store.specs.StateTables.{IsAt}
use Rattle.store.specs.Overviews.{WardView, ward_view, ward_views}
use Rattle.tables.specs.declared.fault.Fault.{Fault}
use Rattle.tables.specs.declared.fault.Fault.TheVariants.{Memory}
use Rattle.office.specs.declared.answers.ReadError.{ReadError}
use Rattle.office.specs.declared.answers.ReadError.TheVariants.{Refused, Fault as Failed}
use Rattle.office.specs.Index.{index_answer, listed_shown}
use Rattle.office.specs.Overviews.{wards_answer}
use Rattle.office.specs.Reads.{Read}

abbrev views : Vec WardOverview Global → List WardView
views wards = map ward_view wards.items

-- the reason why there are no overviews is the reason why there is no page; it isn't a refusal, since a request for the overviews of all wards is never refused
pub index_stopped : (title : List ℕ) (s : OfficeState) (stop : ReadError) (closed : Bool) (st : State) → Read views s (wards_answer s) (Err stop) closed st
    → Read (string_bytes {Z = Global}) s (index_answer title s) (Err stop) closed st
index_stopped title s (Refused why) closed st read = absurd (never read.0)
  where
    never : {x : List WardView} {why : Reason} → ◌≡◌ {A = Result (List WardView) Reason} (Ok x) (Err why) → ⊥
    never e = cc
index_stopped title s (Failed f) closed st read = read

-- the page for the overviews found is the page for the state
pub index_read : (title : List ℕ) (s : OfficeState) (wards : Vec WardOverview Global) (r : Result (String Global) ReadError) (before closed : Bool) (old st : State)
    → Read views s (wards_answer s) (Ok wards) before old → (IsAt s old → IsAt s st) → IfOk r (λ text. string_bytes text ≡ index title (map listed_shown (views wards)))
    → IfErr r (λ stop. (stop ≡ Failed Memory) × (closed ≡ false)) → OnOk r (closed ≡ before) → Read string_bytes s (index_answer title s) r closed st
index_read title s wards (Ok text) before closed old st read at told stopped still = (
  ap (λ (found : List WardView). Ok (index title (map listed_shown found))) (found_is read.0) ∙ ap Ok (sym told),
  record { is_open = still ∙ read.1.is_open; at = at read.1.at },
)
  where
    found_is : {x y : List WardView} → ◌≡◌ {A = Result (List WardView) Reason} (Ok x) (Ok y) → x ≡ y
    found_is e = cc
index_read title s wards (Err (Refused why)) before closed old st read at told stopped still = absurd (never stopped.0)
  where
    never : {why : Reason} → ◌≡◌ {A = ReadError} (Refused why) (Failed Memory) → ⊥
    never e = cc
index_read title s wards (Err (Failed f)) before closed old st read at told stopped still = inl (record { memory = same stopped.0; open_at = record { is_open = stopped.1; at = at read.1.at } })
  where
    same : {f : Fault} → ◌≡◌ {A = ReadError} (Failed f) (Failed Memory) → f ≡ Memory
    same e = cc
