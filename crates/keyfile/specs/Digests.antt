-- The SHA-256 digest that a file can be required to have.
use Rattle.std.specs.Prelude.{◌≡◌, ◌≢◌, ◌⊎◌, ℕ, true, List, Option, Some, None, option_map}
use Rattle.std.specs.Result.{result_ok}
use Rattle.sha2.specs.Sha256.{sha256}
use Rattle.hex.specs.Hex.{decode_sized}
use Rattle.keyfile.specs.Faults.{is_stop}
use Rattle.keyfile.specs.Files.{Format, IsFaultOf, fault_at}
use Rattle.keyfile.specs.Reading.{Known}
use Rattle.keyfile.specs.Records.{file_records}
use Rattle.keyfile.specs.declared.digest.FileDigest.{FileDigest}
use Rattle.keyfile.specs.declared.fault.FileFault.{FileFault}
use Rattle.keyfile.specs.declared.fault.Flaw.TheVariants.{OtherFile}

-- the 32 bytes of a digest
abbrev pub digest_bytes : FileDigest → List ℕ
digest_bytes digest = digest.bytes

-- the given digest, if any
abbrev pub asked_digest : Option FileDigest → Option (List ℕ)
asked_digest digest = option_map digest_bytes digest

-- the digest that a text denotes in 64 hexadecimal digits
abbrev pub digest_in : List ℕ → Option (List ℕ)
digest_in text = result_ok (decode_sized text 32)

-- P holds for the bytes that a file is read as. If the file's own bytes are known, they are the same. If a digest is given, the bytes have that digest, even if the
-- file's own bytes aren't known.
abbrev pub IsReadAs : Option (List ℕ) → Option (List ℕ) → (List ℕ → Type 0) → Type 0
IsReadAs None told P = Known told P
IsReadAs (Some digest) told P = (bytes : List ℕ) × (sha256 bytes ≡ digest) × Known told (λ own. own ≡ bytes) × P bytes

-- What may be reported for a file with the given bytes. If a digest is given and the bytes have a different one, that is reported; otherwise, whatever is reported
-- for any file. Either way, the report may instead be that reading stopped.
abbrev pub IsFaultBy : {Row : Type 0} → Option (List ℕ) → Format Row → List ℕ → FileFault → Type 0
IsFaultBy None format bytes fault = IsFaultOf format (file_records bytes) fault
IsFaultBy (Some digest) format bytes fault =
    ((sha256 bytes ≢ digest) × (fault ≡ fault_at 0 OtherFile))
    ⊎ (((sha256 bytes ≡ digest) ⊎ (is_stop fault.flaw ≡ true)) × IsFaultOf format (file_records bytes) fault)
