-- What is printed when nothing is sent: the answer to a question, or why a file is refused.
use Rattle.std.specs.Prelude.{◌≡◌, ◌⊎◌, ℕ, Bool, List, Option, Some, None, Result, Ok, Err}
use Rattle.register.specs.Offices.{OfficeState}
use Rattle.register.specs.declared.command.Request.{Request}
use Rattle.register.specs.declared.refusal.Reason.{Reason}
use Rattle.office.specs.Answers.{Told}
use Rattle.office.specs.Reads.{columns_answer, next_answer, status_answer}
use Rattle.office.specs.Index.{index_answer}
use Rattle.office.specs.Overviews.{batches_answer}
use Rattle.office.specs.Sheets.{text_answer}
use Rattle.keyfile.specs.Batches.{batches}
use Rattle.keyfile.specs.Candidates.{candidates}
use Rattle.keyfile.specs.Digests.{IsFaultBy, asked_digest}
use Rattle.keyfile.specs.Files.{Format}
use Rattle.keyfile.specs.Keying.{keying}
use Rattle.keyfile.specs.Reading.{Known}
use Rattle.keyfile.specs.declared.fault.FileFault.{FileFault}
use Rattle.keyfile.specs.declared.fault.Flaw.TheVariants.{ReadFailed}
use Rattle.desk.specs.Folders.{File, Folder, IsFileAt}
use Rattle.desk.specs.Overviews.{page_asked}
use Rattle.desk.specs.Pages.{Page, page_counted, page_for, page_found, printed, refused, replied, script_page, unread}
use Rattle.desk.specs.Requests.{is_first}
use Rattle.desk.specs.Scripts.{IsFirstFlaw, part_read, script_lines}
use Rattle.desk.specs.Seals.{IsUnsealed}
use Rattle.desk.specs.WardStatus.{status_text}
use Rattle.desk.specs.Steps.{step_text}
use Rattle.desk.specs.declared.orders.Errand.{Errand}
use Rattle.desk.specs.declared.orders.Errand.TheVariants as errand
use Rattle.desk.specs.declared.orders.Job.{Job}
use Rattle.desk.specs.declared.orders.Job.TheVariants as job
use Rattle.desk.specs.declared.orders.KeyingFile.{KeyingFile}
use Rattle.desk.specs.declared.scripts.LineFlaw.{LineFlaw}
use Rattle.desk.specs.declared.scripts.ScriptFault.TheVariants as script

-- What an errand prints for the answer to a request that it sends. An errand that counts also prints why the count stopped. None of its replies comes with a note,
-- since the subject of such a request determines its content.
abbrev pub page_answered : Errand → OfficeState → Request → Told → Page
page_answered (errand.Count ward id) = λ s r. page_counted (is_first id.now r)
page_answered other = page_for

-- the page that says that a file can't be opened or read
abbrev pub unopened : Page
unopened = unread (record { flaw = ReadFailed; record_number = 0 })

-- why the file is refused, whether or not a digest is requested
abbrev pub IsRefusedFile : {Row : Type 0} → Format Row → Option (List ℕ) → File → Page → Type 0
IsRefusedFile format digest None page = page ≡ unopened
IsRefusedFile format digest (Some told) page = (fault : FileFault) × (page ≡ unread fault) × Known told (λ bytes. IsFaultBy digest format bytes fault)

-- why the file with a clerk's keying of a batch is refused; the batch may not exist
abbrev pub IsRefusedKeying : Result (List ℕ) Reason → KeyingFile → File → Page → Type 0
IsRefusedKeying (Ok columns) k file page = IsRefusedFile (keying columns k.batch k.clerk) (asked_digest k.digest) file page
IsRefusedKeying (Err why) k file page = page ≡ refused why

-- what is printed in the given state when nothing is sent, or the reason why nothing is sent
abbrev pub IsTold : OfficeState → Errand → File → Page → Type 0
IsTold s (errand.Send request) file page = ⊥
IsTold s (errand.ImportCandidates path id digest) file page = IsRefusedFile candidates (asked_digest digest) file page
IsTold s (errand.ImportBatches path id digest) file page = IsRefusedFile batches (asked_digest digest) file page
IsTold s (errand.SealExpected seal) file page = IsUnsealed (batches_answer s seal.ward) seal.papers page
IsTold s (errand.ImportKeying k) file page = IsRefusedKeying (columns_answer s k.batch) k file page
IsTold s (errand.Count ward id) file page = ⊥
IsTold s (errand.PrintNext ward) file page = page ≡ page_found (λ step. replied (step_text ward step)) (next_answer s ward)
IsTold s (errand.PrintStatus ward) file page = page ≡ page_found (λ status. replied (status_text status)) (status_answer s ward)
IsTold s (errand.Print ward text) file page = page ≡ page_found printed (text_answer text s ward)
IsTold s (errand.PrintIndex title) file page = page ≡ page_found printed (index_answer title.now s)
IsTold s (errand.Ask question) file page = page ≡ page_asked s question

-- Why a file is refused as a script: it can't be opened or read, or the page says what is wrong with the first line that isn't understood. If the last line was cut,
-- only the whole lines are read.
abbrev pub IsRefusedScript : Bool → File → Page → Type 0
IsRefusedScript cut None page = page ≡ unopened
IsRefusedScript cut (Some told) page =
    (page ≡ unopened)
    ⊎ ((number : ℕ) × (flaw : LineFlaw) × (page ≡ script_page (script.ScriptLine number flaw)) × Known told (λ text. IsFirstFlaw (script_lines (part_read cut text)) number flaw))

-- why the file of a job is refused as a script
abbrev pub IsNoScript : Folder → Job → Page → Type 0
IsNoScript folder (job.Run errand) page = ⊥
IsNoScript folder (job.Replay asked) page = (file : File) × IsFileAt folder (Some asked.file.now) file × IsRefusedScript asked.cut file page
