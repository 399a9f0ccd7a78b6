-- The requests that orders send to the office.
use Rattle.std.specs.Prelude.{◌≡◌, ◌==◌, ◌||◌, ◌+◌, ℕ, suc, Bool, true, false, List, [], ◌∷◌, ◌++◌, codes, map, string_bytes, Option, Some, None, Result, Ok, Err}
use Rattle.std.specs.Fmt.{decimal}
use Rattle.std.specs.List.{range_with_len}
use Rattle.std.specs.Str.{bytes_eq}
use Rattle.clap.specs.Words.{Text}
use Rattle.register.specs.Machine.{Outcome, accepted, kept, refused, after_one, step_of}
use Rattle.register.specs.Offices.{OfficeState}
use Rattle.register.specs.Ranges.{last_lot_stage}
use Rattle.register.specs.declared.command.Request.{Request}
use Rattle.register.specs.declared.refusal.Reason.{Reason}
use Rattle.office.specs.Reads.{columns_answer}
use Rattle.keyfile.specs.Batches.{BatchRowEntry, batches}
use Rattle.keyfile.specs.Candidates.{CandidateEntry, candidates}
use Rattle.keyfile.specs.Digests.{asked_digest}
use Rattle.keyfile.specs.Files.{Format, file_rows}
use Rattle.keyfile.specs.Keying.{keying}
use Rattle.keyfile.specs.Records.{file_records}
use Rattle.keyfile.specs.declared.fault.FileFault.{FileFault}
use Rattle.desk.specs.Folders.{File, IsReadFrom}
use Rattle.desk.specs.Orders.{Asked, Sent, batch_to_add, by_clerk, by_office, candidate_to_add, keying_to_keep, sent_as, stage_to_count}
use Rattle.desk.specs.Seals.{IsSealSent}
use Rattle.desk.specs.declared.orders.KeyingFile.{KeyingFile}
use Rattle.desk.specs.declared.orders.Errand.{Errand}
use Rattle.desk.specs.declared.orders.Errand.TheVariants as errand
use Rattle.desk.specs.declared.orders.Job.TheVariants as job
use Rattle.desk.specs.declared.orders.Task.{Task}
use Rattle.desk.specs.declared.orders.Task.TheVariants as task

-- the file that an errand names
abbrev pub file_of : Errand → Option Text
file_of (errand.ImportCandidates file id digest) = Some file.now
file_of (errand.ImportBatches file id digest) = Some file.now
file_of (errand.ImportKeying keying) = Some keying.file.now
file_of other = None

-- the file that a task names
abbrev pub file_of_task : Task → Option Text
file_of_task task.Init = None
file_of_task task.Migrate = None
file_of_task (task.InOffice (job.Run errand)) = file_of errand
file_of_task (task.InOffice (job.Replay script)) = Some script.file.now

-- the request id for the record with the given number: the order's id, a hyphen, and the number
unfoldable pub id_at : Text → ℕ → Text
id_at id k = id ++ (codes "-" ++ decimal k)

-- a candidate record requests that its candidate be added
abbrev pub candidate_asked : CandidateEntry → Asked
candidate_asked c = candidate_to_add c.0 c.1 c.2

-- a batch record requests that its batch be given out
abbrev pub batch_asked : BatchRowEntry → Asked
batch_asked b = batch_to_add b.batch b.ward b.size b.first_clerk b.second_clerk

-- the requests for rows whose records are numbered from `k`, given what each row asks for
abbrev pub requests_from : {Row : Type 0} → (Row → Asked) → Text → ℕ → List Row → List Sent
requests_from asked id k [] = []
requests_from asked id k (row ∷ rows) = by_office (id_at id k) (asked row) ∷ requests_from asked id (suc k) rows

-- the requests for the rows of a file, one per record
abbrev pub requests_for : {Row : Type 0} → (Row → Asked) → Text → Result (List Row) FileFault → Result (List Sent) FileFault
requests_for asked id (Ok rows) = Ok (requests_from asked id 1 rows)
requests_for asked id (Err fault) = Err fault

-- the request that stores a clerk's keying of a batch, sent by the clerk
abbrev pub keying_by : KeyingFile → List Text → Sent
keying_by k papers = by_clerk k.clerk k.id.now (keying_to_keep k.batch k.round papers)

-- the single request for the papers in a file
abbrev pub keyings_for : KeyingFile → Result (List Text) FileFault → Result (List Sent) FileFault
keyings_for k (Ok papers) = Ok (keying_by k papers ∷ [])
keyings_for k (Err fault) = Err fault

-- the file is read as bytes that contain the given requests and have the requested digest, if any
abbrev pub HoldsRequests : {Row : Type 0} → Format Row → (Result (List Row) FileFault → Result (List Sent) FileFault) → Option (List ℕ) → File → List Request → Type 0
HoldsRequests format sent digest file requests = IsReadFrom digest file (λ bytes. sent (file_rows format (file_records bytes)) ≡ Ok (map sent_as requests))

-- the file with a clerk's keying of a batch contains the given requests; the first argument is the batch's columns, or the reason why it has none
abbrev pub HoldsKeying : Result (List ℕ) Reason → KeyingFile → File → List Request → Type 0
HoldsKeying (Ok columns) k file requests = HoldsRequests (keying columns k.batch k.clerk) (keyings_for k) (asked_digest k.digest) file requests
HoldsKeying (Err why) k file requests = ⊥

-- ---- the stages of a count

-- the request that counts a stage of a ward, numbered within its order
abbrev pub advance_at : ℕ → Text → ℕ → Sent
advance_at ward id k = by_office (id_at id k) (stage_to_count ward)

-- whether a request has the id of the first request of an order that counts
abbrev pub is_first : Text → Request → Bool
is_first id r = bytes_eq (string_bytes r.id) (id_at id 1)

-- the first n requests of an order that counts
abbrev pub advances : ℕ → Text → ℕ → List Sent
advances ward id n = map (advance_at ward id) (range_with_len 1 n)

-- The highest stage number that a count can have. There are at most 30 candidates. The first stage counts the first preferences. Each later one transfers the
-- papers of one candidate, who then needs no further stage: the surplus of an elected candidate, or all papers of an excluded one. So this is also the last stage
-- for which a lot may be drawn.
abbrev pub last_stage : ℕ
last_stage = last_lot_stage

-- the maximum number of requests in an order that counts: one more than the number of stages; the last one is refused
abbrev pub most_advances : ℕ
most_advances = last_stage + 1

-- whether the machine refuses a request
abbrev pub is_refused : Outcome → Bool
is_refused (accepted next reply) = false
is_refused (kept reply) = false
is_refused (refused why) = true

-- if a request is the last one, no request follows it; otherwise the remaining requests do
abbrev pub EndsOr : Bool → List Request → Type 0 → Type 0
EndsOr true others Follow = others ≡ []
EndsOr false others Follow = Follow

-- requests that count stages of a ward, with consecutive numbers in their order starting from the given number, up to the first request that the machine refuses
-- or up to the maximum
abbrev pub AreAdvances : OfficeState → ℕ → Text → ℕ → List Request → Type 0
AreAdvances s ward id k [] = ⊥
AreAdvances s ward id k (r ∷ rs) = (sent_as r ≡ advance_at ward id k) × EndsOr (is_refused (step_of s r) || k == most_advances) rs (AreAdvances (after_one s r) ward id (suc k) rs)

-- ---- the requests of an errand

-- the requests that an errand sends in the given state: its own request, those in its file, the seal of a ward with an expected number of papers, or those that
-- count; an errand that asks a question sends none
abbrev pub Sends : OfficeState → Errand → File → List Request → Type 0
Sends s (errand.Send request) file requests = map sent_as requests ≡ sent_as request ∷ []
Sends s (errand.ImportCandidates path id digest) file requests = HoldsRequests candidates (requests_for candidate_asked id.now) (asked_digest digest) file requests
Sends s (errand.ImportBatches path id digest) file requests = HoldsRequests batches (requests_for batch_asked id.now) (asked_digest digest) file requests
Sends s (errand.SealExpected seal) file requests = IsSealSent s seal requests
Sends s (errand.ImportKeying keying) file requests = HoldsKeying (columns_answer s keying.batch) keying file requests
Sends s (errand.Count ward id) file requests = AreAdvances s ward id.now 1 requests
Sends s other file requests = ⊥
