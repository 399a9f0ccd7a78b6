-- The outcomes of the parts of an order.
use Rattle.std.specs.Prelude.{◌≡◌, ◌⊎◌, ◌==◌, ◌&&◌, ℕ, Bool, not, List, [], ◌∷◌, Option, None, Result, Ok, Err}
use Rattle.sqlite.specs.State.{State}
use Rattle.clap.specs.Words.{Text}
use Rattle.register.specs.Machine.{step_of}
use Rattle.register.specs.Offices.{OfficeState}
use Rattle.register.specs.declared.command.Request.{Request}
use Rattle.register.specs.declared.refusal.Reason.{Reason}
use Rattle.tables.specs.declared.fault.Fault.TheVariants.{Memory}
use Rattle.office.specs.Answers.{IsOpenAt}
use Rattle.office.specs.Overviews.{batches_answer}
use Rattle.office.specs.Reads.{columns_answer}
use Rattle.keyfile.specs.Files.{Format}
use Rattle.desk.specs.Folders.{File}
use Rattle.desk.specs.Headline.{Course, IsAnsweredBy, IsSentBy, IsStopped, ended}
use Rattle.desk.specs.Overviews.{page_asked}
use Rattle.desk.specs.Pages.{Cut, Page, uncut, empty_page, failed, page_counted, page_found}
use Rattle.desk.specs.Requests.{AreAdvances, HoldsKeying, is_first, is_refused}
use Rattle.desk.specs.Seals.{IsSealSent, IsUnsealed}
use Rattle.desk.specs.Told.{IsRefusedFile, IsRefusedKeying, unopened}
use Rattle.desk.specs.declared.lines.Failure.TheVariants.{Office}
use Rattle.desk.specs.declared.orders.ExpectedSeal.{ExpectedSeal}
use Rattle.desk.specs.declared.orders.KeyingFile.{KeyingFile}
use Rattle.desk.specs.declared.orders.Question.{Question}

-- an outcome with the given page, written up to the given point, satisfies P for some requests and some number of answered ones
abbrev pub ComesTo : Cut → Page → (Course → Type 0) → Type 0
ComesTo cut page P = (requests : List Request) × (answered : ℕ) × P (record { requests = requests; answered = answered; page = page; cut = cut })

-- the same, where K also holds for these requests and the number of answered ones
abbrev pub ComesToRecorded : Cut → Page → (List Request → ℕ → Type 0) → (Course → Type 0) → Type 0
ComesToRecorded cut page K P =
    (requests : List Request) × (answered : ℕ) × P (record { requests = requests; answered = answered; page = page; cut = cut }) × K requests answered

-- nothing remains to be done, and the office is open in the given state
abbrev pub IsOver : Bool → State → OfficeState → Course → Type 0
IsOver closed st s course = (course ≡ ended None [] 0 empty_page uncut) × IsOpenAt s closed st

-- The outcome of a request for another stage, whether it is the first or a later one, and whether the count continues after it. The count continues if the machine
-- doesn't refuse the request and it is acknowledged.
abbrev pub IsStageBy : Bool → State → Bool → State → Bool → OfficeState → Request → Page → ℕ → Bool → Type 0
IsStageBy recorded old closed st first s r page answered goes =
    IsAnsweredBy old closed st recorded (λ t q. page_counted first) s r answered page × (goes ≡ (answered == 1 && not (is_refused (step_of s r))))

-- a ward's stages were counted by the requests of an order with the given id, starting with the first request
abbrev pub IsCountedBy : Bool → State → Bool → State → Bool → Option ℕ → OfficeState → ℕ → Text → Course → Type 0
IsCountedBy recorded old closed st keep line s ward id course =
    (requests : List Request) × AreAdvances s ward id 1 requests × IsSentBy recorded old closed st keep line (λ t r. page_counted (is_first id r)) (IsOver closed st) s requests course

-- the page shows what is found in the given state, or says why nothing is found; or it reports a fault
abbrev pub IsFound : {X : Type 0} → OfficeState → (X → Page) → Result X Reason → Page → Bool → State → State → Type 0
IsFound s shown found page closed old st = ((page ≡ page_found shown found) × IsOpenAt s closed st) ⊎ IsStopped old closed st s page

-- the page answers a question, or says why there is no answer; or it reports a fault
abbrev pub IsAskedOf : OfficeState → Question → Page → Bool → State → State → Type 0
IsAskedOf s question page closed old st = ((page ≡ page_asked s question) × IsOpenAt s closed st) ⊎ IsStopped old closed st s page

-- the page says why a file that was read is refused, or that an allocation failed
abbrev pub IsUnread : {Row : Type 0} → Format Row → Option (List ℕ) → File → Page → Type 0
IsUnread format digest file page = IsRefusedFile format digest file page ⊎ (page ≡ failed (Office Memory))

-- the page says why a script's file can't be read
abbrev pub IsUnreadScript : Page → Type 0
IsUnreadScript page = (page ≡ unopened) ⊎ (page ≡ failed (Office Memory))

-- reading the file in the given state results in the keying of a batch, or in the reason why there is none
abbrev pub IsKeyingRead : {O : Type 0} → OfficeState → KeyingFile → File → (O → Page) → Result Request O → Bool → State → State → Type 0
IsKeyingRead s k file page_of (Ok request) closed old st = HoldsKeying (columns_answer s k.batch) k file (request ∷ []) × IsOpenAt s closed st
IsKeyingRead s k file page_of (Err outcome) closed old st = (IsRefusedKeying (columns_answer s k.batch) k file (page_of outcome) × IsOpenAt s closed st) ⊎ IsStopped old closed st s (page_of outcome)

-- the request that seals a ward with an expected number of papers in the given state, or the reason why it isn't sent
abbrev pub IsSealRead : {O : Type 0} → OfficeState → ExpectedSeal → (O → Page) → Result Request O → Bool → State → State → Type 0
IsSealRead s e page_of (Ok request) closed old st = IsSealSent s e (request ∷ []) × IsOpenAt s closed st
IsSealRead s e page_of (Err outcome) closed old st = (IsUnsealed (batches_answer s e.ward) e.papers (page_of outcome) × IsOpenAt s closed st) ⊎ IsStopped old closed st s (page_of outcome)
