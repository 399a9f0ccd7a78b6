-- How much of their texts the two outputs accept.
use Rattle.std.specs.Prelude.{ℕ, ◌≡◌, ◌⊎◌, ◌+◌, List, Option, codes}
use Rattle.std.specs.Io.KnownBytes.{Appends}
use Rattle.streams.specs.Streams.{AppendsBeginning}
use Rattle.checker.specs.Reports.{ReportEntry}
use Rattle.checker.specs.Tokens.{Text}

-- an output: the bytes that it has accepted, as far as they are known, and how many of the calls on it failed
pub record Output : Type 0 where
  pub taken : Option (List ℕ)
  pub failed : ℕ

abbrev pub output_of : {W : Type 0} → (W → Option (List ℕ)) → (W → ℕ) → W → Output
output_of taken failed sink = record { taken = taken sink; failed = failed sink }

-- the output accepted the whole text
pub record Took (old new : Output) (text : Text) : Type 0 where
  pub whole : Appends old.taken new.taken text
  pub unbroken : new.failed ≡ old.failed

-- the output accepted a prefix of a text, then failed
pub record BrokeOff (old new : Output) (text : Text) : Type 0 where
  pub beginning : AppendsBeginning old.taken new.taken text
  pub broken : new.failed ≡ old.failed + 1

-- the output and the error output
pub record Outputs : Type 0 where
  pub out : Output
  pub err : Output

abbrev pub outputs_of : {O E : Type 0} → (O → Option (List ℕ)) → (O → ℕ) → (E → Option (List ℕ)) → (E → ℕ) → O → E → Outputs
outputs_of taken failed taken_err failed_err out err = record { out = output_of taken failed out; err = output_of taken_err failed_err err }

-- the line on the error output after an output failed
abbrev pub broken_line : Text
broken_line = codes "error: the output failed\n"

-- the whole page was printed, and the program ends with the page's status
pub record IsWhole (old new : Outputs) (page : ReportEntry) (status : ℕ) : Type 0 where
  pub out : Took old.out new.out page.out
  pub err : Took old.err new.err page.err
  pub ends : status ≡ page.status

-- the output failed after a prefix; the error output reports that, unless it fails too; the program ends with status 3
pub record IsOutputBroken (old new : Outputs) (page : ReportEntry) (status : ℕ) : Type 0 where
  pub out : BrokeOff old.out new.out page.out
  pub told : Took old.err new.err broken_line ⊎ BrokeOff old.err new.err broken_line
  pub ends : status ≡ 3

-- the error output failed after a prefix; the program ends with status 3
pub record IsErrorOutputBroken (old new : Outputs) (page : ReportEntry) (status : ℕ) : Type 0 where
  pub out : Took old.out new.out page.out
  pub err : BrokeOff old.err new.err page.err
  pub ends : status ≡ 3

-- a page was printed, or a prefix of it if an output failed
abbrev pub Tells : Outputs → Outputs → ReportEntry → ℕ → Type 0
Tells old new page status = IsWhole old new page status ⊎ (IsOutputBroken old new page status ⊎ IsErrorOutputBroken old new page status)

-- some page with the given property was printed
pub record PrintsSomeReport (old new : Outputs) (status : ℕ) (IsPage : ReportEntry → Type 0) : Type 0 where
  pub page : ReportEntry
  pub told : Tells old new page status
  pub is : IsPage page
