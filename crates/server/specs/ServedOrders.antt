-- An order that is handed over to the server: what its message asks for, the outcome, and its output in frames. The words of an order from the console have the same
-- meaning, and it is carried out the same way.
use Rattle.std.specs.Prelude.{◌≡◌, ◌⊎◌, ⊤, Bool, false, true, List, [], ◌∷◌, None, Some, bytes_eq, codes, drop, if◌then◌else◌, length, map, option_map, take, ◌≤◌, ◌+◌, ◌++◌, Option, ℕ}
use Rattle.std.specs.Int.{from_be_bytes, w64}
use Rattle.std.specs.List.{list_all}
use Rattle.std.specs.Str.{is_utf8}
use Rattle.clap.specs.Words.{Text, subcommand_of}
use Rattle.sqlite.specs.Held.{Held}
use Rattle.sqlite.specs.State.{HasCleanDisk, State}
use Rattle.register.specs.Offices.{OfficeState}
use Rattle.register.specs.declared.command.Request.{Request}
use Rattle.tables.specs.declared.fault.Fault.TheVariants.{Memory, Store}
use Rattle.store.specs.Copies.{holdings_of}
use Rattle.office.specs.Answers.{IsOpenAt, IsReadAt, WhenOpenAt}
use Rattle.office.specs.Values.{OfficeValue}
use Rattle.order_protocol.specs.Frames.{AreWhole, IsOver, error_output_of, output_of}
use Rattle.order_protocol.specs.Messages.{Fits, OrderMessageEntry, MessagePartEntry, encoding_of}
use Rattle.desk.specs.Copying.{copied_text}
use Rattle.desk.specs.Folders.{File, Folder, IsFileAt}
use Rattle.desk.specs.Headline.{IsDoneBy}
use Rattle.desk.specs.Journals.{IsJournalTold}
use Rattle.desk.specs.Mends.{IsMendPage}
use Rattle.desk.specs.Orders.{told}
use Rattle.desk.specs.Pages.{Cut, IsShown, Outputs, Page, below, closed_page, failed, printed, replied, words_page}
use Rattle.desk.specs.Parts.{ComesTo, ComesToRecorded}
use Rattle.desk.specs.Publications.{IsPublishTold}
use Rattle.desk.specs.Records.{IsRecorded}
use Rattle.desk.specs.Seconds.{IsSecondTold}
use Rattle.desk.specs.Words.{IsNoneMeant, meaning, office_words}
use Rattle.desk.specs.declared.lines.Failure.{Failure}
use Rattle.desk.specs.declared.lines.Failure.TheVariants.{BeingServed, CopyFailed, FileGone, Office, SecondRecord}
use Rattle.desk.specs.declared.orders.Job.{Job}
use Rattle.desk.specs.declared.orders.Order.{Order}
use Rattle.desk.specs.declared.orders.Order.TheVariants as order
use Rattle.desk.specs.declared.orders.Task.TheVariants as task
use Rattle.desk.specs.declared.version.TheConstants.{VERSION}
use Rattle.server.specs.RecordChanges.{RecordChange}
use Rattle.server.specs.Settings.{ServerSettingsEntry}
use Rattle.server.specs.declared.served_order.ServedOrder.{ServedOrder}
use Rattle.server.specs.declared.served_order.ServedOrder.TheVariants as asked
use Rattle.server.specs.declared.server_settings.FileNumbers.{FileNumbers}

-- ---- the message

-- eight bytes, which say how many follow, and then the encoding of an order
pub record IsMessage (bytes : List ℕ) (h : OrderMessageEntry) : Type 0 where
  pub fits : Fits h
  pub is : drop 8 bytes ≡ encoding_of h

-- a message is complete: at least as many bytes follow as its first eight bytes say
pub record IsWholeMessage (bytes : List ℕ) : Type 0 where
  pub front : 8 ≤ length bytes
  pub whole : 8 + from_be_bytes w64 (take 8 bytes) ≤ length bytes

-- the words of an order that is handed over
abbrev pub words_in : OrderMessageEntry → List Text
words_in h = map (λ piece. piece.name) h.words

-- the given words mean the given order
abbrev pub MeansOrder : List Text → Order → Type 0
MeansOrder words o = meaning (subcommand_of office_words words) ≡ Some (told o)

-- the order comes from this version of the program, and is for the file being served
pub record IsForFile (file : FileNumbers) (h : OrderMessageEntry) : Type 0 where
  pub version : h.version ≡ VERSION.now
  pub device : h.device ≡ file.device
  pub inode : h.inode ≡ file.inode

-- an order that can't be carried out while the office is served
abbrev pub IsForNone : Order → Type 0
IsForNone (order.Perform task.Init) = ⊤
IsForNone (order.Perform task.Migrate) = ⊤
IsForNone (order.Serve port connections origin codes public) = ⊤
IsForNone (order.Codes path clerks with_office) = ⊤
IsForNone (order.Slips path address) = ⊤
IsForNone other = ⊥

-- the words, after DB, are only `record`
abbrev pub asks_for_record : List Text → Bool
asks_for_record [] = false
asks_for_record (db ∷ []) = false
asks_for_record (db ∷ word ∷ []) = bytes_eq word (codes "record")
asks_for_record (db ∷ word ∷ other ∷ words) = false

-- What the words of an order for the served file ask for: a job, a copy, the journal, a new office from it, a comparison with a second record, where the office's own is, or
-- published results. Or why it isn't carried out: the words aren't an order; or the file is gone (and isn't known to be whole); or the office has a second record, which failed.
abbrev pub AsksSo : Option Bool → Bool → List Text → ServedOrder → Type 0
AsksSo whole recorded words (asked.Do job) = MeansOrder words (order.Perform (task.InOffice job))
AsksSo whole recorded words (asked.Copy path) = MeansOrder words (order.Copy path)
AsksSo whole recorded words asked.Journal = MeansOrder words order.Journal
AsksSo whole recorded words (asked.Mend mending) = MeansOrder words (order.Mend mending)
AsksSo whole recorded words (asked.Second path) = MeansOrder words (order.Second path)
AsksSo whole recorded words asked.Record = asks_for_record words ≡ true
AsksSo whole recorded words (asked.Publish publishing) = MeansOrder words (order.Publish publishing)
AsksSo whole recorded words (asked.Refused failure) =
    ((failure ≡ BeingServed) × ((o : Order) × MeansOrder words o × IsForNone o))
    ⊎ (((failure ≡ FileGone) × ((job : Job) × MeansOrder words (order.Perform (task.InOffice job))) × (whole ≡ Some true → ⊥))
    ⊎ ((failure ≡ SecondRecord) × ((job : Job) × MeansOrder words (order.Perform (task.InOffice job))) × (recorded ≡ true)))
AsksSo whole recorded words (asked.Misread fault) = (asks_for_record words ≡ false) × IsNoneMeant (meaning (subcommand_of office_words words)) fault

-- No order is decoded: an allocation failed; or the bytes aren't a message of text, or the message is from another version of the program or for another file.
abbrev pub IsUnread : FileNumbers → List ℕ → ServedOrder → Type 0
IsUnread file got what =
    (what ≡ asked.Refused (Office Memory))
    ⊎ ((what ≡ asked.Refused (Office Store)) × ((h : OrderMessageEntry) → IsMessage got h → IsForFile file h → list_all is_utf8 (words_in h) ≡ true → ⊥))

-- what the given bytes ask for, given the files sent with the order
abbrev pub AsksOrder : ServerSettingsEntry → List ℕ → List MessagePartEntry → ServedOrder → Type 0
AsksOrder settings got files what =
    ((h : OrderMessageEntry) × IsMessage got h × IsForFile settings.file h × (files ≡ h.files) × AsksSo settings.whole settings.recorded (words_in h) what) ⊎
    (IsUnread settings.file got what × (files ≡ []))

-- ---- the files

-- the file sent for a path; `None` if none was sent, or if it couldn't be read
abbrev pub attached_at : List MessagePartEntry → Text → File
attached_at [] path = None
attached_at (p ∷ ps) path = if bytes_eq p.name path then option_map Some p.bytes else attached_at ps path

-- the files sent with an order, as a folder
abbrev pub folder_of : List MessagePartEntry → Folder
folder_of files path = Some (attached_at files path)

-- ---- the output

-- two outputs that nothing has been written to yet
abbrev pub untold : Outputs
untold = record { out = Some []; out_failed = 0; err = Some []; err_failed = 0 }

-- What an order's outputs accepted is sent in frames: all of the output, and all of the error output. The last frame has the status; or an allocation failed, and that
-- frame is missing.
pub record IsToldInFrames (told : Outputs) (status : ℕ) (frames : List ℕ) : Type 0 where
  pub err : List ℕ
  pub is_err : told.err ≡ Some err
  pub out : told.out ≡ Some (output_of frames)
  pub end : (IsOver frames status [] × (error_output_of frames ≡ err)) ⊎ AreWhole frames

-- the given part of a page is sent in frames
pub record IsFramed (cut : Cut) (page : Page) (frames : List ℕ) : Type 0 where
  pub told : Outputs
  pub status : ℕ
  pub shown : IsShown cut untold told page status
  pub framed : IsToldInFrames told status frames

-- The page for a copy of the office in a given state: how much the copy contains, and possibly that its log couldn't be merged into it; or why no copy is made.
abbrev pub IsCopyTold : OfficeState → Page → Type 0
IsCopyTold s page =
    (page ≡ replied (copied_text (holdings_of s)))
    ⊎ ((page ≡ below (replied (copied_text (holdings_of s))) (failed CopyFailed)) ⊎ ((failure : Failure) × (page ≡ failed failure)))

-- The page for a second record in a file of a folder: whether the office in a given state holds the same, and how they differ otherwise, or why that file is no record. Or
-- an allocation failed.
abbrev pub IsSecondIn : Folder → OfficeState → Text → Page → Type 0
IsSecondIn folder s path page = ((file : File) × IsFileAt folder (Some path) file × IsSecondTold s path file page) ⊎ (page ≡ failed (Office Memory))

-- the line that follows if the second record of the office failed
abbrev pub failed_record_line : Text
failed_record_line = codes "it failed, and nothing more is accepted: end serve, and start it with a new file\n"

-- the text that says where the second record of the office is, as given; and after it, if the record failed, that it did
abbrev pub IsRecordText : (Text → Type 0) → Bool → Text → Type 0
IsRecordText described has_failed text = (where_it_is : Text) × described where_it_is × (text ≡ where_it_is ++ (if has_failed then failed_record_line else []))

-- the page with that text; or an allocation failed
abbrev pub IsRecordTold : (Text → Type 0) → Bool → Page → Type 0
IsRecordTold described has_failed page = ((text : Text) × IsRecordText described has_failed text × (page ≡ printed text)) ⊎ (page ≡ failed (Office Memory))

-- A job is carried out only if the record hasn't failed, and an order is refused because of its record only if that has failed.
abbrev pub AgreesWithRecord : Bool → ServedOrder → Type 0
AgreesWithRecord failed (asked.Do job) = failed ≡ false
AgreesWithRecord failed (asked.Refused failure) = failure ≡ SecondRecord → failed ≡ true
AgreesWithRecord failed other = ⊤

-- The outcome of what is requested in a given state, and what it leaves of the office, whose connection was in the state `old`, and of its record. A job is carried out in
-- the office, and each request of it that the office accepts is recorded before it is acknowledged. For a copy, the journal, a new office from it, published results, or a
-- comparison with a second record, the office is only read. An order that only says where the record is, or isn't carried out, leaves it unchanged.
abbrev pub IsOrderOutcome : RecordChange → State → Bool → State → Folder → OfficeState → ServedOrder → Cut → Page → Type 0
IsOrderOutcome change old closed st folder s (asked.Do job) cut page =
    ComesToRecorded cut page (λ requests answered. change.had_failed ≡ false → IsRecorded s requests answered change.old change.new change.has_failed)
    (IsDoneBy change.has_failed old closed st folder s job)
IsOrderOutcome change old closed st folder s (asked.Copy path) cut page = IsCopyTold s page × IsReadAt s closed st × change.same
IsOrderOutcome change old closed st folder s asked.Journal cut page = IsJournalTold s page × IsReadAt s closed st × change.same
IsOrderOutcome change old closed st folder s (asked.Mend mending) cut page = IsMendPage s mending page × IsReadAt s closed st × change.same
IsOrderOutcome change old closed st folder s (asked.Second path) cut page = IsSecondIn folder s path.now page × IsReadAt s closed st × change.same
IsOrderOutcome change old closed st folder s asked.Record cut page = IsRecordTold (λ text. ⊤) change.had_failed page × IsOpenAt s closed st × change.same
IsOrderOutcome change old closed st folder s (asked.Publish publishing) cut page = IsPublishTold s publishing page × IsReadAt s closed st × change.same
IsOrderOutcome change old closed st folder s (asked.Refused failure) cut page = (page ≡ failed failure) × IsOpenAt s closed st × change.same
IsOrderOutcome change old closed st folder s (asked.Misread fault) cut page = (page ≡ words_page fault) × IsOpenAt s closed st × change.same

-- the page that a closed office prints: it says that the office is closed, if the order would be carried out otherwise; or else why the order isn't carried out
abbrev pub closed_office_page : ServedOrder → Page
closed_office_page (asked.Do job) = closed_page
closed_office_page (asked.Copy path) = closed_page
closed_office_page asked.Journal = closed_page
closed_office_page (asked.Mend mending) = closed_page
closed_office_page (asked.Second path) = closed_page
closed_office_page asked.Record = closed_page
closed_office_page (asked.Publish publishing) = closed_page
closed_office_page (asked.Refused failure) = failed failure
closed_office_page (asked.Misread fault) = words_page fault

-- The request, with the given files, was carried out, and the given part of its page was sent in the given way. If the office was open, the page is the outcome, as far
-- as the outputs accepted it, together with the state that the request left, and what became of the record. If the office was closed, the page says so.
pub record Follows {S : Type 0} (state_of : Held S → State) (change : RecordChange) (old : OfficeValue S) (files : List MessagePartEntry) (asked : ServedOrder) (IsSent : Cut → Page → Type 0)
    (new : OfficeValue S) : Type 0 where
  pub cut : Cut
  pub page : Page
  pub told : IsSent cut page
  pub does : WhenOpenAt state_of old new (λ s. IsOrderOutcome change (state_of old.held) new.closed (state_of new.held) (folder_of files) s asked cut page)
  pub turned_away : old.closed ≡ true → (page ≡ closed_office_page asked) × (new ≡ old) × change.same
  pub clean : HasCleanDisk (state_of new.held) → HasCleanDisk (state_of old.held)

-- the request was carried out, and the given frames are the response
abbrev pub IsResponseToOrder : {S : Type 0} → (Held S → State) → RecordChange → OfficeValue S → List MessagePartEntry → ServedOrder → List ℕ → OfficeValue S → Type 0
IsResponseToOrder state_of change old files asked frames new = Follows state_of change old files asked (λ cut page. IsFramed cut page frames) new

-- the order that the given bytes contain was processed, and the given frames are the response
pub record FollowsOrder {S : Type 0} (settings : ServerSettingsEntry) (state_of : Held S → State) (change : RecordChange) (old : OfficeValue S) (got frames : List ℕ) (new : OfficeValue S)
    : Type 0 where
  pub files : List MessagePartEntry
  pub asked : ServedOrder
  pub is : AsksOrder settings got files asked
  pub agrees : AgreesWithRecord change.had_failed asked
  pub fails : change.had_failed ≡ false → change.has_failed ≡ true → settings.recorded ≡ true
  pub tells : IsResponseToOrder state_of change old files asked frames new

-- ---- the output in a given state

-- the first n requests that were sent were answered, and the next one, if any, was the last one sent
abbrev pub AreAnswered : List Request → ℕ → List Request → List Request → Type 0
AreAnswered requests answered sent last = (sent ≡ take answered requests) × (last ≡ take 1 (drop answered requests))

-- The page of what is requested in a given state, where the given requests were answered, and possibly another one was sent. A job prints it in an office that was open
-- in that state, over some connection, whose failure may be the cause of a reported fault.
abbrev pub PrintsAt : {S : Type 0} → (Held S → State) → Bool → Folder → OfficeState → ServedOrder → Cut → Page → List Request → List Request → Type 0
PrintsAt {S} state_of recorded folder s (asked.Do job) cut page sent last =
    (old new : OfficeValue S)
    × ComesTo cut page (λ course. IsDoneBy recorded (state_of old.held) new.closed (state_of new.held) folder s job course × AreAnswered course.requests course.answered sent last)
PrintsAt state_of recorded folder s (asked.Copy path) cut page sent last = IsCopyTold s page × (sent ≡ []) × (last ≡ [])
PrintsAt state_of recorded folder s asked.Journal cut page sent last = IsJournalTold s page × (sent ≡ []) × (last ≡ [])
PrintsAt state_of recorded folder s (asked.Mend mending) cut page sent last = IsMendPage s mending page × (sent ≡ []) × (last ≡ [])
PrintsAt state_of recorded folder s (asked.Second path) cut page sent last = IsSecondIn folder s path.now page × (sent ≡ []) × (last ≡ [])
PrintsAt state_of recorded folder s asked.Record cut page sent last = ((has_failed : Bool) × IsRecordTold (λ text. ⊤) has_failed page) × (sent ≡ []) × (last ≡ [])
PrintsAt state_of recorded folder s (asked.Publish publishing) cut page sent last = IsPublishTold s publishing page × (sent ≡ []) × (last ≡ [])
PrintsAt state_of recorded folder s (asked.Refused failure) cut page sent last = (page ≡ failed failure) × (sent ≡ []) × (last ≡ [])
PrintsAt state_of recorded folder s (asked.Misread fault) cut page sent last = (page ≡ words_page fault) × (sent ≡ []) × (last ≡ [])

-- the order that the given bytes contain printed its page in a given state, in the given frames
pub record OrderPrints {S : Type 0} (state_of : Held S → State) (settings : ServerSettingsEntry) (s : OfficeState) (got frames : List ℕ) (sent last : List Request) : Type 0 where
  pub files : List MessagePartEntry
  pub asked : ServedOrder
  pub is : AsksOrder settings got files asked
  pub cut : Cut
  pub page : Page
  pub told : IsFramed cut page frames
  pub tells : PrintsAt state_of settings.recorded (folder_of files) s asked cut page sent last

-- the order that the given bytes contain found the office closed, and the frames say so
pub record IsRefusedClosed (settings : ServerSettingsEntry) (got frames : List ℕ) : Type 0 where
  pub files : List MessagePartEntry
  pub asked : ServedOrder
  pub is : AsksOrder settings got files asked
  pub cut : Cut
  pub told : IsFramed cut (closed_office_page asked) frames
