-- The batch file.
use Rattle.std.specs.Prelude.{ℕ, Bool, false, ◌&&◌, if◌then◌else◌, List, [], ◌∷◌, Option, Some, None, Result, Ok, Err, codes, bytes_eq}
use Rattle.keyfile.specs.Records.{Record}
use Rattle.paper.specs.Digits.{plain_number_in}
use Rattle.keyfile.specs.Files.{Format}
use Rattle.keyfile.specs.declared.batches.BatchRow.{BatchRow}
use Rattle.keyfile.specs.declared.fault.Flaw.{Flaw}
use Rattle.keyfile.specs.declared.fault.Flaw.TheVariants.{Header, RecordLength, Number}

-- a batch to give out: its number, its ward, the number of its papers, and the two clerks who key it
pub record BatchRowEntry : Type 0 where
  pub batch : ℕ
  pub ward : ℕ
  pub size : ℕ
  pub first_clerk : ℕ
  pub second_clerk : ℕ

-- the entry that a row represents
abbrev pub batch_row_entry : BatchRow → BatchRowEntry
batch_row_entry row = record { batch = row.batch; ward = row.ward; size = row.size; first_clerk = row.first_clerk; second_clerk = row.second_clerk }

-- the header is `batch,ward,size,first clerk,second clerk`: whether the given fields are its first three; the other two name the clerks
abbrev pub names_pile : List ℕ → List ℕ → List ℕ → Bool
names_pile batch ward size = bytes_eq batch (codes "batch") && (bytes_eq ward (codes "ward") && bytes_eq size (codes "size"))

abbrev pub names_clerks : List ℕ → List ℕ → Bool
names_clerks first second = bytes_eq first (codes "first clerk") && bytes_eq second (codes "second clerk")

abbrev pub is_batch_header : Record → Bool
is_batch_header (batch ∷ ward ∷ size ∷ first ∷ second ∷ []) = names_pile batch ward size && names_clerks first second
is_batch_header other = false

-- a first record that isn't the header has the flaw `Header`
abbrev pub batch_header_flaw : Record → Option Flaw
batch_header_flaw fields = if is_batch_header fields then None else Some Header

-- the result of continuing with a number, if there is one; otherwise the flaw `Number`
abbrev pub numbered_by : {Row : Type 0} → Option ℕ → (ℕ → Result Row Flaw) → Result Row Flaw
numbered_by None read = Err Number
numbered_by (Some number) read = read number

-- a record is a batch if all five of its fields are numbers
abbrev pub batch_in : Record → Result BatchRowEntry Flaw
batch_in (batch ∷ ward ∷ size ∷ first ∷ second ∷ []) =
    numbered_by (plain_number_in batch) (λ b. numbered_by (plain_number_in ward) (λ w. numbered_by (plain_number_in size) (λ n.
    numbered_by (plain_number_in first) (λ f. numbered_by (plain_number_in second) (λ s.
    Ok (record { batch = b; ward = w; size = n; first_clerk = f; second_clerk = s }))))))
batch_in other = Err RecordLength

-- the maximum number of batches in a file, which is the number of possible batch numbers
abbrev pub most_batches : ℕ
most_batches = 9999

-- the format of the batch file, which contains at most that many batches
abbrev pub batches : Format BatchRowEntry
batches = record { header_flaw = batch_header_flaw; most = most_batches; read = λ k fields. batch_in fields }
