-- The state of an office: maps of entries, each in key order.
use Rattle.std.specs.Prelude.{ℕ, not, ◌==◌, ◌&&◌, if◌then◌else◌, List, [], ◌∷◌, map, find, fold, Option, string_bytes}
use Rattle.std.specs.List.{filter}
use Rattle.std.specs.List.Sorted.{IsStrictlySortedBy}
use Rattle.std.specs.declared.cmp.Ordering.{Ordering}
use Rattle.std.specs.Ordering.{nat_cmp, on, then_cmp, ordering_then, is_lt, is_eq}
use Rattle.std.specs.Cmp.Lexicographic.{slice_cmp}
use Rattle.register.specs.declared.phase.Phase.{Phase}
use Rattle.register.specs.declared.wards.Ward.{Ward}
use Rattle.register.specs.declared.candidates.Candidate.{Candidate}
use Rattle.register.specs.declared.batches.Batch.{Batch}
use Rattle.register.specs.declared.batches.ThirdClerk.{ThirdClerk}
use Rattle.register.specs.declared.keyings.KeyedPaper.{KeyedPaper}
use Rattle.register.specs.declared.verdicts.JudgedPaper.{JudgedPaper}
use Rattle.register.specs.declared.counts.DrawnLot.{DrawnLot}
use Rattle.register.specs.declared.receipt.Receipt.{Receipt}

-- ---- entries

-- a ward: its number, its number of seats, the phase of its election, the number of completed stages in its count, and its name
pub record WardEntry : Type 0 where
  pub number : ℕ
  pub seats : ℕ
  pub phase : Phase
  pub done : ℕ
  pub name : List ℕ

-- a candidate: the ward, the candidate's number in that ward, and the name
pub record CandidateEntry : Type 0 where
  pub ward : ℕ
  pub number : ℕ
  pub name : List ℕ

-- a batch of ballot papers: its number, its ward, its number of papers, the two clerks first assigned to it, and its current round
pub record BatchEntry : Type 0 where
  pub number : ℕ
  pub ward : ℕ
  pub size : ℕ
  pub first_clerk : ℕ
  pub second_clerk : ℕ
  pub round : ℕ

-- a third clerk, assigned to a batch because its two clerks' keyings differed: the batch, and the clerk's number
pub record ThirdEntry : Type 0 where
  pub batch : ℕ
  pub clerk : ℕ

-- a ballot paper as keyed by a clerk: its batch, the round, the clerk, its number within the batch, and its marks text
pub record KeyedEntry : Type 0 where
  pub batch : ℕ
  pub round : ℕ
  pub clerk : ℕ
  pub paper : ℕ
  pub marks : List ℕ

-- a doubtful ballot paper as judged by the returning officer: its batch, its number within the batch, and either 0 with the marks with which it is accepted,
-- or its rejection code
pub record JudgedEntry : Type 0 where
  pub batch : ℕ
  pub paper : ℕ
  pub code : ℕ
  pub marks : List ℕ

-- a drawn lot: its ward, the stage of the count, and the candidate whose surplus is transferred or who is excluded
pub record LotEntry : Type 0 where
  pub ward : ℕ
  pub stage : ℕ
  pub candidate : ℕ

-- the record of an accepted request: the actor, the id, the subject, and the reply
pub record ReceiptEntry : Type 0 where
  pub actor : ℕ
  pub id : List ℕ
  pub subject : List ℕ
  pub reply : List ℕ

-- the entry for a ward
abbrev pub ward_entry : Ward → WardEntry
ward_entry w = record { number = w.number; seats = w.seats; phase = w.phase; done = w.done; name = string_bytes w.name }

-- the entry for a candidate
abbrev pub candidate_entry : Candidate → CandidateEntry
candidate_entry c = record { ward = c.ward; number = c.number; name = string_bytes c.name }

-- the entry for a batch
abbrev pub batch_entry : Batch → BatchEntry
batch_entry b = record { number = b.number; ward = b.ward; size = b.size; first_clerk = b.first_clerk; second_clerk = b.second_clerk; round = b.round }

-- the entry for a third clerk
abbrev pub third_entry : ThirdClerk → ThirdEntry
third_entry t = record { batch = t.batch; clerk = t.clerk }

-- the entry for a keyed paper
abbrev pub keyed_entry : KeyedPaper → KeyedEntry
keyed_entry k = record { batch = k.batch; round = k.round; clerk = k.clerk; paper = k.paper; marks = string_bytes k.marks }

-- the entry for a judged paper
abbrev pub judged_entry : JudgedPaper → JudgedEntry
judged_entry v = record { batch = v.batch; paper = v.paper; code = v.code; marks = string_bytes v.marks }

-- the entry for a lot
abbrev pub lot_entry : DrawnLot → LotEntry
lot_entry l = record { ward = l.ward; stage = l.stage; candidate = l.candidate }

-- the entry for a receipt
abbrev pub receipt_entry : Receipt → ReceiptEntry
receipt_entry r = record { actor = r.actor; id = string_bytes r.id; subject = string_bytes r.subject; reply = string_bytes r.reply }

-- ---- maps of entries of any type

-- the entries with another entry inserted in key order
abbrev pub put : {X : Type 0} → (X → X → Ordering) → X → List X → List X
put cmp x [] = x ∷ []
put cmp x (y ∷ ys) = if is_lt (cmp x y) then x ∷ y ∷ ys else y ∷ put cmp x ys

-- the entries with other entries inserted, one after another
abbrev pub put_each : {X : Type 0} → (X → X → Ordering) → List X → List X → List X
put_each cmp xs ys = fold (λ zs x. put cmp x zs) ys xs

-- the entry whose key matches
abbrev pub entry_at : {X : Type 0} → (X → Ordering) → List X → Option X
entry_at compared xs = find (λ x. is_eq (compared x)) xs

-- the entries without the one whose key matches
abbrev pub without : {X : Type 0} → (X → Ordering) → List X → List X
without compared xs = filter (λ x. not (is_eq (compared x))) xs

-- the entries, with a change applied to the one whose key matches
abbrev pub changed : {X : Type 0} → (X → Ordering) → (X → X) → List X → List X
changed compared change xs = map (λ x. if is_eq (compared x) then change x else x) xs

-- ---- the state

-- The state of an office, as maps. Wards and batches are keyed by number, candidates by ward and number, and third clerks by batch. Keyed papers are keyed by
-- batch, round, clerk and number; judged papers by batch and number; lots by ward and stage; and receipts by actor and id.
pub record OfficeState : Type 0 where
  pub wards : List WardEntry
  pub candidates : List CandidateEntry
  pub batches : List BatchEntry
  pub thirds : List ThirdEntry
  pub keyings : List KeyedEntry
  pub verdicts : List JudgedEntry
  pub lots : List LotEntry
  pub receipts : List ReceiptEntry

-- the state of an office before any request
abbrev pub empty_office : OfficeState
empty_office = record { wards = []; candidates = []; batches = []; thirds = []; keyings = []; verdicts = []; lots = []; receipts = [] }

-- wards are ordered by number
abbrev pub ward_cmp : WardEntry → WardEntry → Ordering
ward_cmp = on (λ (w : WardEntry). w.number) nat_cmp

-- candidates are ordered by ward, then by number
abbrev pub candidate_cmp : CandidateEntry → CandidateEntry → Ordering
candidate_cmp = then_cmp (on (λ (c : CandidateEntry). c.ward) nat_cmp) (on (λ (c : CandidateEntry). c.number) nat_cmp)

-- batches are ordered by number
abbrev pub batch_cmp : BatchEntry → BatchEntry → Ordering
batch_cmp = on (λ (b : BatchEntry). b.number) nat_cmp

-- third clerks are ordered by batch
abbrev pub third_cmp : ThirdEntry → ThirdEntry → Ordering
third_cmp = on (λ (t : ThirdEntry). t.batch) nat_cmp

-- keyed papers are ordered by batch, round, clerk, and then number
abbrev pub keyed_cmp : KeyedEntry → KeyedEntry → Ordering
keyed_cmp =
    then_cmp (on (λ (k : KeyedEntry). k.batch) nat_cmp) (then_cmp (on (λ (k : KeyedEntry). k.round) nat_cmp)
    (then_cmp (on (λ (k : KeyedEntry). k.clerk) nat_cmp) (on (λ (k : KeyedEntry). k.paper) nat_cmp)))

-- judged papers are ordered by batch, then by number
abbrev pub judged_cmp : JudgedEntry → JudgedEntry → Ordering
judged_cmp = then_cmp (on (λ (v : JudgedEntry). v.batch) nat_cmp) (on (λ (v : JudgedEntry). v.paper) nat_cmp)

-- lots are ordered by ward, then by stage
abbrev pub lot_cmp : LotEntry → LotEntry → Ordering
lot_cmp = then_cmp (on (λ (l : LotEntry). l.ward) nat_cmp) (on (λ (l : LotEntry). l.stage) nat_cmp)

-- receipts are ordered by actor, then by id
abbrev pub receipt_cmp : ReceiptEntry → ReceiptEntry → Ordering
receipt_cmp = then_cmp (on (λ (r : ReceiptEntry). r.actor) nat_cmp) (on (λ (r : ReceiptEntry). r.id) (slice_cmp nat_cmp))

-- compares a number with a ward's number
abbrev pub ward_compared : ℕ → WardEntry → Ordering
ward_compared number w = nat_cmp number w.number

-- the ward with the given number
abbrev pub ward_at : OfficeState → ℕ → Option WardEntry
ward_at s number = entry_at (ward_compared number) s.wards

-- compares a ward and a candidate number with a candidate's
abbrev pub candidate_compared : ℕ → ℕ → CandidateEntry → Ordering
candidate_compared ward number c = ordering_then (nat_cmp ward c.ward) (nat_cmp number c.number)

-- the candidate with the given number in the given ward
abbrev pub candidate_at : OfficeState → ℕ → ℕ → Option CandidateEntry
candidate_at s ward number = entry_at (candidate_compared ward number) s.candidates

-- the candidates of a ward, ordered by number
abbrev pub candidates_of : OfficeState → ℕ → List CandidateEntry
candidates_of s ward = filter (λ (c : CandidateEntry). c.ward == ward) s.candidates

-- compares a number with a batch's number
abbrev pub batch_compared : ℕ → BatchEntry → Ordering
batch_compared number b = nat_cmp number b.number

-- the batch with the given number
abbrev pub batch_at : OfficeState → ℕ → Option BatchEntry
batch_at s number = entry_at (batch_compared number) s.batches

-- compares a number with that of the batch to which a third clerk is assigned
abbrev pub third_compared : ℕ → ThirdEntry → Ordering
third_compared batch t = nat_cmp batch t.batch

-- the third clerk of the given batch, if one is assigned
abbrev pub third_at : OfficeState → ℕ → Option ThirdEntry
third_at s batch = entry_at (third_compared batch) s.thirds

-- the given clerk's keying of a batch in the given round: the papers, in order
abbrev pub keying_of : OfficeState → ℕ → ℕ → ℕ → List KeyedEntry
keying_of s batch round clerk = filter (λ (k : KeyedEntry). (k.batch == batch) && ((k.round == round) && (k.clerk == clerk))) s.keyings

-- compares a batch and a paper number with a judged paper's
abbrev pub judged_compared : ℕ → ℕ → JudgedEntry → Ordering
judged_compared batch paper v = ordering_then (nat_cmp batch v.batch) (nat_cmp paper v.paper)

-- the verdict on the paper with the given number in the given batch
abbrev pub verdict_at : OfficeState → ℕ → ℕ → Option JudgedEntry
verdict_at s batch paper = entry_at (judged_compared batch paper) s.verdicts

-- the verdicts on the papers of a batch, in paper order
abbrev pub verdicts_of : OfficeState → ℕ → List JudgedEntry
verdicts_of s batch = filter (λ (v : JudgedEntry). v.batch == batch) s.verdicts

-- the lots of a ward, ordered by stage
abbrev pub lots_of : OfficeState → ℕ → List LotEntry
lots_of s ward = filter (λ (l : LotEntry). l.ward == ward) s.lots

-- the receipt for the given actor and id
abbrev pub receipt_at : OfficeState → ℕ → List ℕ → Option ReceiptEntry
receipt_at s actor id = entry_at (λ r. ordering_then (nat_cmp actor r.actor) (slice_cmp nat_cmp id r.id)) s.receipts

-- every map is in key order, without duplicates
pub record MapsAreSorted (s : OfficeState) : Type 0 where
  pub wards : IsStrictlySortedBy ward_cmp s.wards
  pub candidates : IsStrictlySortedBy candidate_cmp s.candidates
  pub batches : IsStrictlySortedBy batch_cmp s.batches
  pub thirds : IsStrictlySortedBy third_cmp s.thirds
  pub keyings : IsStrictlySortedBy keyed_cmp s.keyings
  pub verdicts : IsStrictlySortedBy judged_cmp s.verdicts
  pub lots : IsStrictlySortedBy lot_cmp s.lots
  pub receipts : IsStrictlySortedBy receipt_cmp s.receipts
