-- The numbers and texts of the flaws of import files.
use Rattle.std.specs.Prelude.{ℕ, List, [], ◌++◌, codes, Bool, true, false, Result, Ok, Err}
use Rattle.std.specs.Fmt.{decimal}
use Rattle.csv.specs.declared.error.ErrorKind.{ErrorKind}
use Rattle.csv.specs.declared.error.ErrorKind.TheVariants as kind
use Rattle.keyfile.specs.declared.fault.FileFault.{FileFault}
use Rattle.keyfile.specs.declared.fault.Flaw.{Flaw}
use Rattle.keyfile.specs.declared.fault.Flaw.TheVariants.{Header, RecordLength, Number, PaperOrder, Marks, NotUtf8, TooManyRecords, ReadFailed, Memory, OtherKeying, OtherFile}

-- the number of a flaw
abbrev pub flaw_number : Flaw → ℕ
flaw_number Header = 1
flaw_number RecordLength = 2
flaw_number Number = 3
flaw_number PaperOrder = 4
flaw_number Marks = 5
flaw_number NotUtf8 = 6
flaw_number TooManyRecords = 7
flaw_number ReadFailed = 8
flaw_number Memory = 9
flaw_number (OtherKeying batch clerk) = 10
flaw_number OtherFile = 11

-- the text of a flaw, without the batch and the clerk if it names them
abbrev pub flaw_words : Flaw → List ℕ
flaw_words Header = codes "header"
flaw_words RecordLength = codes "record length"
flaw_words Number = codes "number"
flaw_words PaperOrder = codes "paper order"
flaw_words Marks = codes "marks"
flaw_words NotUtf8 = codes "not UTF-8"
flaw_words TooManyRecords = codes "too many records"
flaw_words ReadFailed = codes "read failed"
flaw_words Memory = codes "memory"
flaw_words (OtherKeying batch clerk) = codes "the file is of batch "
flaw_words OtherFile = codes "not the file of this digest"

-- the text of a flaw, including the batch and the clerk if it names them
abbrev pub flaw_text : Flaw → List ℕ
flaw_text (OtherKeying batch clerk) = codes "the file is of batch " ++ (decimal batch ++ (codes ", clerk " ++ decimal clerk))
flaw_text flaw = flaw_words flaw

-- the text of a fault: its number, the record and the flaw
abbrev pub file_fault_text : FileFault → List ℕ
file_fault_text fault = codes "file fault " ++ (decimal (flaw_number fault.flaw) ++ (codes " at record " ++ (decimal fault.record_number ++ (codes ": " ++ flaw_text fault.flaw))))

-- the rest of a flaw's text, in three parts: the batch, the text in between, and the clerk; all are empty if the flaw names neither
abbrev pub flaw_batch : Flaw → List ℕ
flaw_batch (OtherKeying batch clerk) = decimal batch
flaw_batch _ = []

abbrev pub flaw_between : Flaw → List ℕ
flaw_between (OtherKeying batch clerk) = codes ", clerk "
flaw_between _ = []

abbrev pub flaw_clerk : Flaw → List ℕ
flaw_clerk (OtherKeying batch clerk) = decimal clerk
flaw_clerk _ = []

-- whether a flaw is the reason why reading stopped, rather than something wrong with the file
abbrev pub is_stop : Flaw → Bool
is_stop Header = false
is_stop RecordLength = false
is_stop Number = false
is_stop PaperOrder = false
is_stop Marks = false
is_stop NotUtf8 = false
is_stop TooManyRecords = false
is_stop ReadFailed = true
is_stop Memory = true
is_stop (OtherKeying batch clerk) = false
is_stop OtherFile = false

-- whether a flaw is a failed read
abbrev pub is_failed_read : Flaw → Bool
is_failed_read Header = false
is_failed_read RecordLength = false
is_failed_read Number = false
is_failed_read PaperOrder = false
is_failed_read Marks = false
is_failed_read NotUtf8 = false
is_failed_read TooManyRecords = false
is_failed_read ReadFailed = true
is_failed_read Memory = false
is_failed_read (OtherKeying batch clerk) = false
is_failed_read OtherFile = false

-- whether a result reports a failed read
abbrev pub tells_failed_read : {T : Type 0} → Result T FileFault → Bool
tells_failed_read (Ok value) = false
tells_failed_read (Err fault) = is_failed_read fault.flaw

-- the flaw for a `csv` error, given that no read failed: a record with a different length than the first one, or a failed allocation
abbrev pub flaw_of : ErrorKind → Flaw
flaw_of (kind.UnequalLengths pos expected len) = RecordLength
flaw_of kind.OutOfMemory = Memory
flaw_of (kind.Io e) = Memory
flaw_of (kind.Utf8 pos err) = Memory
flaw_of (kind.Serialize text) = Memory
flaw_of (kind.Deserialize pos err) = Memory
