-- A second record in a file.
use Rattle.std.specs.Prelude.{◌≡◌, ◌++◌, Bool, List, ℕ, [], Option, Some, IfSome, is_some}
use Rattle.clap.specs.Words.{Text}
use Rattle.register.specs.Offices.{OfficeState}
use Rattle.desk.specs.Journals.{IsJournalOf}
use Rattle.desk.specs.Records.{Appended}
use Rattle.desk.specs.Scripts.{whole_lines}
use Rattle.desk.specs.declared.script_record.RecordFault.{RecordFault}
use Rattle.desk.specs.declared.script_record.RecordFault.TheVariants as fault
use Rattle.desk.specs.declared.script_record.ScriptRecord.{ScriptRecord}

-- the record's file
abbrev pub file_of : {W : Type 0} → ScriptRecord W → W
file_of r = r.file

-- the fault with which the record failed, if it did
abbrev pub fault_of : {W : Type 0} → ScriptRecord W → Option RecordFault
fault_of r = r.fault

-- whether the record failed
abbrev pub has_failed : {W : Type 0} → ScriptRecord W → Bool
has_failed r = is_some r.fault

-- The file is known to hold a journal of an office in the given state. It consists of whole lines, and all of it was flushed.
pub record HoldsJournal (kept : Option Appended) (s : OfficeState) : Type 0 where
  pub text : Text
  pub is : kept ≡ Some (record { flushed = text; pending = [] })
  pub whole : whole_lines text ≡ text
  pub journal : IsJournalOf s text

-- the bytes were appended and flushed
abbrev pub PutsAll : Option Appended → Option Appended → List ℕ → Type 0
PutsAll old new bytes = IfSome old (λ file. new ≡ Some (record { flushed = file.flushed ++ (file.pending ++ bytes); pending = [] }))

-- A fault in recording: a call of the file failed; or the file wasn't touched, because an allocation failed or there is no line.
abbrev pub IsCauseOf : {W : Type 0} → (W → Type 0) → RecordFault → W → W → Type 0
IsCauseOf broken fault.File old new = broken new
IsCauseOf broken fault.Memory old new = new ≡ old
IsCauseOf broken fault.NoLine old new = new ≡ old
