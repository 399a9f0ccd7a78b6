-- Reads that are refused or stopped by a failed allocation, and the effect of orders that only read.
use Rattle.std.proofs.Common.{inl, inr, Bool, true, false, Result, Ok, Err, IfErr, refl}
use Rattle.sqlite.specs.State.{State, HasCleanDisk}
use Rattle.register.specs.Offices.{OfficeState}
use Rattle.tables.specs.Reading.{OnlyReads}
use Rattle.store.specs.StateTables.{IsAt}
use Rattle.store.proofs.KeepLemmas.{is_at_read}
use Rattle.office.specs.Answers.{IsReadAt}
use Rattle.office.specs.declared.answers.ReadError.{ReadError}
use Rattle.office.specs.declared.answers.ReadError.TheVariants.{Refused, Fault as Failed}
use Rattle.office.specs.Reads.{ReadFailsBy}
use Rattle.office.specs.Sheets.{IsOfMemory}

pub stops_of_memory : (old new : State) (stop : ReadError) → IsOfMemory stop → ReadFailsBy old new stop
stops_of_memory old new (Refused why) h = tt
stops_of_memory old new (Failed f) h = inl h

pub if_of_memory : {X : Type 0} (old new : State) (r : Result X ReadError) → IfErr r IsOfMemory → IfErr r (ReadFailsBy old new)
if_of_memory old new (Ok x) h = tt
if_of_memory old new (Err stop) h = stops_of_memory old new stop h

-- an order that only reads leaves the office in its state, open or closed
pub left_reading : (s : OfficeState) (closed : Bool) (old new : State) → OnlyReads old new → HasCleanDisk new → IsAt s old → IsReadAt s closed new
left_reading s false old new reads clean at = inl (record { is_open = refl; at = is_at_read s old new reads clean at })
left_reading s true old new reads clean at = let it = is_at_read s old new reads clean at in inr (refl, it.leaves)
