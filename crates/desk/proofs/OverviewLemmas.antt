-- What is printed for a question is the page that the specification defines.
use Rattle.std.proofs.Common.{◌≡◌, ◌⊎◌, ◌∙◌, ◌++◌, inl, inr, Bool, List, [], ◌∷◌, map, Result, Ok, Err, IfOk, IfErr, refl, sym, ap}
use Rattle.std.specs.Prelude.{OnErr}
use Rattle.std.specs.List.{flat_map}
use Rattle.clap.specs.Words.{Text}
use Rattle.sqlite.specs.State.{State}
use Rattle.register.specs.Offices.{OfficeState}
use Rattle.register.specs.declared.refusal.Reason.{Reason}
use Rattle.tables.specs.declared.fault.Fault.TheVariants.{Memory}
use Rattle.office.specs.Reads.{Read, ReadFailsBy}
use Rattle.office.specs.declared.answers.ReadError.{ReadError}
use Rattle.office.specs.declared.answers.ReadError.TheVariants.{Refused, Fault}
use Rattle.desk.specs.Parts.{IsFound}
use Rattle.desk.specs.Overviews.{lines_of}
use Rattle.desk.specs.Pages.{Page, failed, line, page_found, page_stopped, printed}
use Rattle.desk.specs.declared.lines.Failure.TheVariants.{Office}

-- the lines for values are the lines for their views
lines_viewed : {X V : Type 0} (text : V → Text) (view : X → V) (xs : List X) → flat_map (λ x. line (text (view x))) xs ≡ lines_of text (map view xs)
lines_viewed text view [] = refl
lines_viewed text view (x ∷ xs) = ap (λ rest. line (text (view x)) ++ rest) (lines_viewed text view xs)

-- what is printed is the lines for what was read, or the reason why there are none
pub lines_found : {W X V : Type 0} (items : W → List X) (text : V → Text) (view : X → V) (s : OfficeState) (told : Result (List V) Reason)
    (found : Result W ReadError) (page : Page) (closed : Bool) (old st : State)
    → Read (λ w. map view (items w)) s told found closed st
    → IfOk found (λ w. (page ≡ printed (flat_map (λ x. line (text (view x))) (items w))) ⊎ (page ≡ failed (Office Memory)))
    → IfErr found (λ stop. page ≡ page_stopped stop)
    → IfErr found (ReadFailsBy old st)
    → IsFound s (λ views. printed (lines_of text views)) told page closed old st
lines_found items text view s told (Ok w) page closed old st read (inl is) stops cause =
    inl (is ∙ ap printed (lines_viewed text view (items w)) ∙ sym (ap (page_found (λ views. printed (lines_of text views))) read.0), read.1)
lines_found items text view s told (Ok w) page closed old st read (inr is) stops cause = inr (Memory, is, (inl refl, inl (record { memory = refl; open_at = read.1 })))
lines_found items text view s told (Err (Refused why)) page closed old st read lines is cause = inl (is ∙ sym (ap (page_found (λ views. printed (lines_of text views))) read.0), read.1)
lines_found items text view s told (Err (Fault fault)) page closed old st read lines is cause = inr (fault, is, (cause, read))

-- the reason why nothing was found is printed
pub stop_found : {X Y : Type 0} (view : Y → X) (shown : X → Page) (s : OfficeState) (told : Result X Reason) (stop : ReadError) (page : Page) (closed : Bool) (old st : State)
    → Read view s told (Err stop) closed st → ReadFailsBy old st stop
    → page ≡ page_stopped stop → IsFound s shown told page closed old st
stop_found view shown s told (Refused why) page closed old st read cause is = inl (is ∙ sym (ap (page_found shown) read.0), read.1)
stop_found view shown s told (Fault fault) page closed old st read cause is = inr (fault, is, (cause, read))

-- the same for the result of a call, whose type also says what it would have found
pub stop_found_of : {X Y : Type 0} (found : Result Y ReadError) (view : Y → X) (shown : X → Page) (s : OfficeState) (told : Result X Reason) (stop : ReadError) (page : Page)
    (closed : Bool) (old st : State) → Read view s told (Err stop) closed st → ReadFailsBy old st stop
    → page ≡ page_stopped stop → IsFound s shown told page closed old st
stop_found_of found view shown s told stop page closed old st = stop_found view shown s told stop page closed old st

-- the form made from what was found is printed, or that an allocation for it failed
pub made_found : {X Y O E : Type 0} (view : Y → X) (shown : X → Page) (printed_of : O → Page) (s : OfficeState) (told : Result X Reason) (y : Y) (r : Result O E) (page : Page)
    (closed : Bool) (old st : State) → Read view s told (Ok y) closed st → IfOk r (λ o. printed_of o ≡ shown (view y)) → IfOk r (λ o. page ≡ printed_of o)
    → OnErr r (page ≡ failed (Office Memory)) → IsFound s shown told page closed old st
made_found view shown printed_of s told y (Ok o) page closed old st read form is failed = inl (is ∙ form ∙ sym (ap (page_found shown) read.0), read.1)
made_found view shown printed_of s told y (Err e) page closed old st read form is failed = inr (Memory, failed, (inl refl, inl (record { memory = refl; open_at = read.1 })))
