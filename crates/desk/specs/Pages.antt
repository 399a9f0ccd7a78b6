-- What the program prints, and its exit status.
use Rattle.std.specs.Prelude.{◌≡◌, ◌⊎◌, ◌+◌, ◌++◌, ◌==◌, ◌&&◌, ◌||◌, ℕ, Bool, List, [], ◌∷◌, Option, Some, None, Result, Ok, Err, codes, string_bytes, if◌then◌else◌, OnOk, OnErr}
use Rattle.std.specs.Fmt.{decimal}
use Rattle.std.specs.Io.KnownBytes.{Appends}
use Rattle.std.specs.List.{flat_map}
use Rattle.clap.specs.Words.{Text}
use Rattle.streams.specs.Streams.{AppendsBeginning}
use Rattle.register.specs.Offices.{OfficeState}
use Rattle.register.specs.Repeats.{is_kept_otherwise}
use Rattle.register.specs.Reasons.{reason_number, reason_text}
use Rattle.register.specs.declared.refusal.Reason.{Reason}
use Rattle.register.specs.declared.refusal.Reason.TheVariants.{CountFinished, LotNeeded, WrongPhase}
use Rattle.register.specs.declared.command.Request.{Request}
use Rattle.tables.specs.Faults.{fault_number, fault_text}
use Rattle.tables.specs.declared.fault.Fault.TheVariants as fault
use Rattle.codes.specs.Faults.{fault_line, fault_number as codes_number, fault_text as codes_text}
use Rattle.codes.specs.declared.fault.CodesFault.{CodesFault}
use Rattle.keyfile.specs.Faults.{flaw_number, flaw_text, is_stop}
use Rattle.keyfile.specs.declared.fault.FileFault.{FileFault}
use Rattle.office.specs.Answers.{Told, again, done, no}
use Rattle.office.specs.declared.answers.ReadError.{ReadError}
use Rattle.office.specs.declared.answers.ReadError.TheVariants.{Refused, Fault}
use Rattle.store.specs.declared.copying.CopyFault.{CopyFault}
use Rattle.store.specs.declared.copying.CopyFault.TheVariants as uncopied
use Rattle.store.specs.declared.migration.Migrated.{Migrated}
use Rattle.store.specs.declared.migration.Migrated.TheVariants.{Done, Already}
use Rattle.desk.specs.Scripts.{line_flaw_text}
use Rattle.desk.specs.Words.{bad_digest, bad_form, bad_origin, bad_title}
use Rattle.desk.specs.declared.scripts.ScriptFault.{ScriptFault}
use Rattle.desk.specs.declared.scripts.ScriptFault.TheVariants as script
use Rattle.desk.specs.declared.lines.Failure.{Failure}
use Rattle.desk.specs.declared.lines.Failure.TheVariants.{Office, Output, CopyTaken, CopyFailed, BeingServed, FileGone, SecondRecord}
use Rattle.desk.specs.declared.words.WordsFault.{WordsFault}
use Rattle.desk.specs.declared.words.WordsFault.TheVariants as words
use Rattle.desk.specs.declared.lines.NoForm.{NoForm}
use Rattle.desk.specs.declared.lines.NoForm.TheVariants as no_form
use Rattle.desk.specs.declared.lines.LineOutcome.{LineOutcome}
use Rattle.desk.specs.declared.lines.LineOutcome.TheVariants as outcome

-- what is written to the output and to the error output, and the exit status
pub record Page : Type 0 where
  pub out : Text
  pub err : Text
  pub status : ℕ

-- pieces of text, concatenated
abbrev pub joined : List Text → Text
joined pieces = flat_map (λ piece. piece) pieces

-- a text followed by a line feed
abbrev pub line : Text → Text
line text = joined (text ∷ codes "\n" ∷ [])

-- a line consisting of a kind, a number and a text
abbrev pub numbered_line : Text → ℕ → Text → Text
numbered_line kind number text = joined (kind ∷ decimal number ∷ codes ": " ∷ text ∷ codes "\n" ∷ [])

-- ---- failures in words

-- the number for the reason why the program fails,
abbrev pub failure_number : Failure → ℕ
failure_number (Office fault) = fault_number fault
failure_number Output = 107
failure_number CopyTaken = 109
failure_number CopyFailed = 110
failure_number BeingServed = 111
failure_number FileGone = 113
failure_number SecondRecord = 112

-- and the text for it
abbrev pub failure_text : Failure → Text
failure_text (Office fault) = fault_text fault
failure_text Output = codes "socket or output"
failure_text CopyTaken = codes "copy is there already"
failure_text CopyFailed = codes "copy not written"
failure_text BeingServed = codes "office is being served"
failure_text FileGone = codes "file gone or replaced"
failure_text SecondRecord = codes "second record"

-- the failure for a copy that wasn't made; an allocation failure is reported as usual
abbrev pub failure_of : CopyFault → Failure
failure_of (uncopied.Office fault) = Office fault
failure_of uncopied.Taken = CopyTaken
failure_of (uncopied.Copy fault.Memory) = Office fault.Memory
failure_of (uncopied.Copy other) = CopyFailed

-- the status for a refused file: that of a fault if reading the file stopped early
abbrev pub status_of_file : FileFault → ℕ
status_of_file fault = if is_stop fault.flaw then 3 else 1

-- ---- pages

-- a page with nothing on it
abbrev pub empty_page : Page
empty_page = record { out = []; err = []; status = 0 }

-- a text, printed verbatim
abbrev pub printed : Text → Page
printed text = record { out = text; err = []; status = 0 }

-- a reply, printed on its own line
abbrev pub replied : Text → Page
replied text = printed (line text)

-- a refusal, printed on its own line to the error output
abbrev pub refused : Reason → Page
refused why = record { out = []; err = numbered_line (codes "refused ") (reason_number why) (reason_text why); status = 1 }

-- the page that says why a file is refused
abbrev pub unread : FileFault → Page
unread fault = record {
  out = [];
  err = joined (codes "file fault " ∷ decimal (flaw_number fault.flaw) ∷ codes " at record " ∷ decimal fault.record_number ∷ codes ": " ∷ flaw_text fault.flaw ∷ codes "\n" ∷ []);
  status = status_of_file fault;
}

-- the line number of a codes fault, if it has one
abbrev pub codes_place : Option ℕ → Text
codes_place None = []
codes_place (Some number) = joined (codes " at line " ∷ decimal number ∷ [])

-- the page that says why codes are refused or weren't made
abbrev pub codes_page : CodesFault → Page
codes_page fault = record {
  out = [];
  err = joined (codes "codes fault " ∷ decimal (codes_number fault) ∷ []) ++ (codes_place (fault_line fault) ++ joined (codes ": " ∷ codes_text fault ∷ codes "\n" ∷ []));
  status = 1;
}

-- the page that says that codes were made for the given number of clerks
abbrev pub codes_made_page : ℕ → Page
codes_made_page count = printed (joined (codes "codes written: " ∷ decimal count ∷ codes "\n" ∷ []))

-- the page that says that codes were made for the given number of clerks, and one for the office
abbrev pub codes_and_office_made_page : ℕ → Page
codes_and_office_made_page count = printed (joined (codes "codes written: " ∷ decimal count ∷ codes ", and the office's\n" ∷ []))

-- the page that says why the program fails
abbrev pub failed : Failure → Page
failed failure = record { out = []; err = numbered_line (codes "fault ") (failure_number failure) (failure_text failure); status = 3 }

-- what is printed if the office is closed
abbrev pub closed_page : Page
closed_page = failed (Office fault.Closed)

-- the page that says that the office has no journal: the orders written from its tables don't reproduce it
abbrev pub unjournalled : Page
unjournalled = record { out = []; err = line (codes "no journal: what was written does not make this office"); status = 1 }

-- the page that says that a ward wasn't sealed, how many papers were given out, and that a different number was expected
abbrev pub unsealed : ℕ → ℕ → Page
unsealed given_out expected = record {
  out = [];
  err = joined (codes "not sealed: " ∷ decimal given_out ∷ codes " papers were given out, " ∷ decimal expected ∷ codes " were expected\n" ∷ []);
  status = 1;
}

-- the reason why there is no form, in words
abbrev pub no_form_text : NoForm → Text
no_form_text no_form.NoLot = codes "no lot is due"
no_form_text no_form.Undeclared = codes "the ward is not declared"

-- the page that says that there is no form
abbrev pub unformed : NoForm → Page
unformed why = record { out = []; err = joined (codes "no form: " ∷ no_form_text why ∷ codes "\n" ∷ []); status = 1 }

-- the page that says why no new office was made from the journal
abbrev pub unmended : Text → Page
unmended text = record { out = []; err = text; status = 1 }

-- the page that says that a second record and the office aren't the same, and how they differ
abbrev pub unequal : Text → Page
unequal text = record { out = []; err = text; status = 1 }

-- the page that says that the end of a script was cut, and isn't read
abbrev pub cut_note : Page
cut_note = record { out = []; err = codes "note: the last line was cut, and is left out\n"; status = 0 }

-- the note that a request was accepted earlier, and that its content had no effect this time
abbrev pub note_line : Text → Text
note_line id = joined (codes "note: " ∷ id ∷ codes " was kept before with other words; nothing was changed\n" ∷ [])

-- a reply, on its own line, and that note on the error output
abbrev pub noted : Text → Text → Page
noted id reply = record { out = line reply; err = note_line id; status = 0 }

-- the reply to a request that was accepted earlier, with the note if the stored content differs from the request's
abbrev pub page_kept : Text → Text → Bool → Page
page_kept id reply differs = if differs then noted id reply else replied reply

-- what is printed for the machine's answer to a request in the given state
abbrev pub page_for : OfficeState → Request → Told → Page
page_for s r (done reply) = replied reply
page_for s r (again reply) = page_kept (string_bytes r.id) reply (is_kept_otherwise s r)
page_for s r (no why) = refused why

-- Why a count doesn't continue. The reason is printed as a reply if no seat is left to fill or if a lot is needed, and, after the first request, if the ward was
-- declared in the meantime.
abbrev pub page_at_rest : Bool → Reason → Page
page_at_rest is_first CountFinished = replied (codes "count finished")
page_at_rest is_first (LotNeeded stage tied) = replied (reason_text (LotNeeded stage tied))
page_at_rest is_first WrongPhase = if is_first then refused WrongPhase else replied (codes "count finished")
page_at_rest is_first why = refused why

-- what is printed for the machine's answer to a request for another stage
abbrev pub page_counted : Bool → Told → Page
page_counted is_first (done reply) = replied reply
page_counted is_first (again reply) = replied reply
page_counted is_first (no why) = page_at_rest is_first why

-- what was found in the given state, or why nothing was found
abbrev pub page_found : {X : Type 0} → (X → Page) → Result X Reason → Page
page_found page (Ok x) = page x
page_found page (Err why) = refused why

-- why nothing was found: a refusal or a fault
abbrev pub page_stopped : ReadError → Page
page_stopped (Refused why) = refused why
page_stopped (Fault fault) = failed (Office fault)

-- the outcome of a migration
abbrev pub migrated_text : Migrated → Text
migrated_text Done = codes "office migrated"
migrated_text Already = codes "office is at version 2"

-- the page for an outcome
abbrev pub page_of : LineOutcome → Page
page_of outcome.Ready = replied (codes "office ready")
page_of (outcome.Migrated migrated) = replied (migrated_text migrated)
page_of (outcome.Replied reply) = replied (string_bytes reply)
page_of (outcome.Noted reply id) = noted (string_bytes id) (string_bytes reply)
page_of (outcome.Printed text) = printed (string_bytes text)
page_of outcome.CountFinished = replied (codes "count finished")
page_of (outcome.LotNeeded why) = replied (reason_text why)
page_of (outcome.Refused why) = refused why
page_of (outcome.Unread fault) = unread fault
page_of (outcome.Failed fault) = failed (Office fault)
page_of outcome.Unrecorded = failed SecondRecord
page_of (outcome.Uncopied why) = failed (failure_of why)
page_of outcome.Unjournalled = unjournalled
page_of (outcome.Unsealed given_out expected) = unsealed given_out expected
page_of (outcome.Unformed why) = unformed why
page_of (outcome.Unmended text) = unmended (string_bytes text)
page_of (outcome.Unequal text) = unequal (string_bytes text)

-- the page that says why words aren't an order: help is printed to the output, and what is wrong with the words to the error output
abbrev pub words_page : WordsFault → Page
words_page words.Memory = failed (Office fault.Memory)
words_page words.Origin = record { out = []; err = bad_origin; status = 2 }
words_page words.Digest = record { out = []; err = bad_digest; status = 2 }
words_page words.TitleAlone = record { out = []; err = bad_title; status = 2 }
words_page words.Form = record { out = []; err = bad_form; status = 2 }
words_page words.Verdict = record { out = []; err = codes "bad verdict word\n"; status = 2 }
words_page (words.Words text status) = if status == 0 then printed (string_bytes text) else record { out = []; err = string_bytes text; status = status }

-- ---- pages for a script's lines

-- the prefix of what is printed for a script's line: the line number
abbrev pub line_front : Option ℕ → Text
line_front None = []
line_front (Some number) = joined (codes "line " ∷ decimal number ∷ codes ": " ∷ [])

-- a text with a prefix, or nothing if the text is empty
abbrev pub after_prefix : Text → Text → Text
after_prefix front [] = []
after_prefix front (byte ∷ bytes) = front ++ (byte ∷ bytes)

-- a page; if it is for a script's line, the line number precedes what is printed to the error output
abbrev pub fronted : Option ℕ → Page → Page
fronted None page = page
fronted (Some number) page = record { out = page.out; err = after_prefix (line_front (Some number)) page.err; status = page.status }

-- the page that says why a text isn't a script
abbrev pub script_page : ScriptFault → Page
script_page script.Memory = failed (Office fault.Memory)
script_page (script.ScriptLine number flaw) = record { out = []; err = line_front (Some number) ++ line_flaw_text flaw; status = 2 }

-- ---- pages in sequence

-- the sequence continues after a page with status 0 and, with `keep`, after a refusal, which has status 1
abbrev pub goes_on : Bool → ℕ → Bool
goes_on keep status = status == 0 || (keep && status == 1)

-- the combined status after another status: the last nonzero one, or 0
abbrev pub combined_status : ℕ → ℕ → ℕ
combined_status before status = if status == 0 then before else status

-- a page that follows another one
abbrev pub below : Page → Page → Page
below above page = record { out = above.out ++ page.out; err = above.err ++ page.err; status = combined_status above.status page.status }

-- ---- a text that is written to one output

-- the text was written; or a prefix of it was, and a call failed
pub record IsPut {W X E : Type 0} (taken : W → Option (List ℕ)) (failed : W → ℕ) (old new : W) (text : Text) (result : Result X E) : Type 0 where
  pub all : OnOk result (Appends (taken old) (taken new) text)
  pub ok : OnOk result (failed new ≡ failed old)
  pub cut_off : OnErr result (AppendsBeginning (taken old) (taken new) text)
  pub err : OnErr result (failed new ≡ failed old + 1)

-- the text was printed to the error output, with the given status; or a prefix of it was, with status 3
abbrev pub IsErrorTold : {E : Type 0} → (E → Option (List ℕ)) → (E → ℕ) → E → E → Text → ℕ → ℕ → Type 0
IsErrorTold taken failed old new text wanted status =
    (Appends (taken old) (taken new) text × (failed new ≡ failed old) × (status ≡ wanted))
    ⊎ (AppendsBeginning (taken old) (taken new) text × (failed new ≡ failed old + 1) × (status ≡ 3))

-- ---- how much of a page was printed

-- the two outputs: the bytes written to each, if they are known, and how many of its calls failed
pub record Outputs : Type 0 where
  pub out : Option (List ℕ)
  pub out_failed : ℕ
  pub err : Option (List ℕ)
  pub err_failed : ℕ

-- two outputs, given the functions that read their values
abbrev pub outputs_of : {O E : Type 0} → (O → Option (List ℕ)) → (O → ℕ) → (E → Option (List ℕ)) → (E → ℕ) → O → E → Outputs
outputs_of taken failed taken_err failed_err out err = record { out = taken out; out_failed = failed out; err = taken_err err; err_failed = failed_err err }

-- the page was written completely, and the program ends with the page's status
pub record IsWhole (old new : Outputs) (page : Page) (status : ℕ) : Type 0 where
  pub out : Appends old.out new.out page.out
  pub out_failed : new.out_failed ≡ old.out_failed
  pub err : Appends old.err new.err page.err
  pub err_failed : new.err_failed ≡ old.err_failed
  pub ends : status ≡ page.status

-- how much of a page was written: all of it; or a prefix, if the output failed; or all that goes to the output, if the error output failed
pub data Cut : Type 0 where
  uncut : Cut
  cut_behind : Text → Cut
  cut_error : Cut

-- the output failed after this prefix, and the error output says so after the page's own text; or it contains a prefix of that, if it failed too
pub record IsOutputBroken (took : Text) (old new : Outputs) (page : Page) (status : ℕ) : Type 0 where
  pub out : Appends old.out new.out took
  pub begins : (left : Text) × (took ++ left ≡ page.out)
  pub out_failed : new.out_failed ≡ old.out_failed + 1
  pub told : IsErrorTold (λ (o : Outputs). o.err) (λ (o : Outputs). o.err_failed) old new (page.err ++ (failed Output).err) 3 status

-- the error output failed after a prefix
pub record IsErrorOutputBroken (old new : Outputs) (page : Page) (status : ℕ) : Type 0 where
  pub out : Appends old.out new.out page.out
  pub out_failed : new.out_failed ≡ old.out_failed
  pub err : AppendsBeginning old.err new.err page.err
  pub err_failed : new.err_failed ≡ old.err_failed + 1
  pub ends : status ≡ 3

-- a page was written up to the given point
abbrev pub IsShown : Cut → Outputs → Outputs → Page → ℕ → Type 0
IsShown uncut old new page status = IsWhole old new page status
IsShown (cut_behind took) old new page status = IsOutputBroken took old new page status
IsShown cut_error old new page status = IsErrorOutputBroken old new page status

-- a page was written to some extent
abbrev pub Shows : Outputs → Outputs → Page → ℕ → Type 0
Shows old new page status = (cut : Cut) × IsShown cut old new page status

-- how much of a page was written, if a text before it was written completely
abbrev pub cut_below : Text → Cut → Cut
cut_below text uncut = uncut
cut_below text (cut_behind took) = cut_behind (text ++ took)
cut_below text cut_error = cut_error

-- some page that satisfies a predicate was printed, as the page for a script's line or on its own
pub record TellsOf (line : Option ℕ) (old new : Outputs) (status : ℕ) (P : Cut → Page → Type 0) : Type 0 where
  pub page : Page
  pub cut : Cut
  pub shown : IsShown cut old new (fronted line page) status
  pub is : P cut page

abbrev pub Tells : Outputs → Outputs → ℕ → (Cut → Page → Type 0) → Type 0
Tells old new status P = TellsOf None old new status P
