-- What a host reads from a file of codes.
use Rattle.std.specs.Prelude.{◌≡◌, ⊤, List, None, Option, Some, Result, Ok, Err, ℕ}
use Rattle.codes.specs.Codes.{Holder, holders_of, office_of}
use Rattle.codes.specs.declared.fault.CodesFault.{CodesFault}
use Rattle.codes.specs.declared.fault.CodesError.{CodesError}
use Rattle.codes.specs.declared.fault.CodesError.TheVariants.{Fault, Memory}
use Rattle.codes.specs.declared.holders.Codes.{Codes}

-- the clerks with codes, and the office's credentials, if it has a code
pub record CodesEntry : Type 0 where
  pub holders : List Holder
  pub office : Option (List ℕ)

abbrev pub codes_entry : Codes → CodesEntry
codes_entry held = record { holders = holders_of held; office = office_of held }

-- the codes in the file at each path, or why it contains none, if known
abbrev pub CodeFiles : Type 0
CodeFiles = List ℕ → Option (Result CodesEntry CodesFault)

-- What was read from a file is what it contains, if that is known; or an allocation failed.
abbrev pub IsReadAs : Option (Result CodesEntry CodesFault) → Result Codes CodesError → Type 0
IsReadAs None result = ⊤
IsReadAs (Some known) (Ok own) = known ≡ Ok (codes_entry own)
IsReadAs (Some known) (Err Memory) = ⊤
IsReadAs (Some known) (Err (Fault why)) = known ≡ Err why
