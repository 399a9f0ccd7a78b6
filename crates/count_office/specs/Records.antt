-- A second record in a file: what is known of its bytes on this machine, and the comment above the line of each request.
use Rattle.std.specs.Prelude.{◌≡◌, ◌==◌, ◌++◌, ◌⊎◌, ℕ, Bool, List, None, Option, codes, if◌then◌else◌}
use Rattle.std.specs.Fmt.{decimal}
use Rattle.desk.specs.Records.{Appended, Leaves}
use Rattle.desk.specs.ScriptRecords.{file_of as script_file, has_failed as script_failed}
use Rattle.count_office.specs.declared.second_file.SecondFile.{SecondFile}
use Rattle.count_office.specs.declared.timed_record.TimedRecord.{TimedRecord}

-- the record's file
abbrev pub file_of : {W : Type 0} → TimedRecord W → W
file_of timed = script_file timed.script

-- whether the record failed
abbrev pub has_failed : {W : Type 0} → TimedRecord W → Bool
has_failed timed = script_failed timed.script

-- the bytes of a file on this machine, of which nothing is known
abbrev pub kept_here : SecondFile → Option Appended
kept_here file = None

-- the texts that a stop may leave of a record in a file on this machine
abbrev pub left_here : TimedRecord SecondFile → List ℕ → Type 0
left_here timed = Leaves (kept_here (file_of timed))

-- the sender of a request: the office, or a clerk
unfoldable pub sender_text : ℕ → List ℕ
sender_text actor = if actor == 0 then codes "the office" else codes "clerk " ++ decimal actor

-- the comment for a request: its sender, after the time of day and a comma if the clock is read
abbrev pub IsComment : ℕ → List ℕ → Type 0
IsComment actor text = (text ≡ sender_text actor) ⊎ ((time : List ℕ) × (text ≡ time ++ (codes ", " ++ sender_text actor)))
