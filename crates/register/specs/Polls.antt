-- The ballot papers of a ward: which are valid, and why the others are rejected.
use Rattle.std.specs.Prelude.{◌≡◌, ℕ, ◌+◌, Bool, true, false, ◌&&◌, ◌==◌, if◌then◌else◌, List, [], ◌∷◌, map, length, slice_index, find, Option, Some, None, Result, Ok, Err}
use Rattle.std.specs.List.{filter, flat_map, list_all}
use Rattle.std.specs.Ordering.{nat_cmp, is_lt}
use Rattle.votes.specs.Units.{quota_of}
use Rattle.std.specs.Global.{Vec}
use Rattle.count.specs.Bundles.{Bundle, bundled}
use Rattle.paper.specs.declared.marks.MarkFault.{MarkFault}
use Rattle.paper.specs.declared.marked.Keyed.{Keyed}
use Rattle.paper.specs.declared.marked.Keyed.TheVariants.{Doubtful, Marked}
use Rattle.paper.specs.declared.validity.Rejection.{Rejection}
use Rattle.paper.specs.Marking.{Marking}
use Rattle.paper.specs.MarksText.{reading}
use Rattle.paper.specs.Numbers.{rejection_code}
use Rattle.paper.specs.Preferences.{preferences, rejection_of}
use Rattle.register.specs.declared.polls.Judgement.{Judgement}
use Rattle.register.specs.declared.polls.Judgement.TheVariants.{Valid, Rejected, Open}
use Rattle.register.specs.declared.polls.Ballots.{Ballots}
use Rattle.register.specs.declared.polls.PollTally.{PollTally}
use Rattle.register.specs.Offices.{BatchEntry, ThirdEntry, KeyedEntry, JudgedEntry, OfficeState, third_at, keying_of, verdicts_of}
use Rattle.register.specs.Agreement.{agreed, are_taken, is_open, keyings_now, taken_papers, batches_of}

-- ---- the papers of a batch

-- the keyings of a batch's current round, ordered by clerk, and the verdicts on its papers
pub record Pile : Type 0 where
  pub keyings : List (List KeyedEntry)
  pub verdicts : List JudgedEntry

abbrev pub pile_of : OfficeState → BatchEntry → Pile
pile_of s b = record { keyings = keyings_now s b; verdicts = verdicts_of s b.number }

-- the piles of a ward's batches, ordered by batch number
abbrev pub piles_of : OfficeState → ℕ → List Pile
piles_of s ward = map (pile_of s) (batches_of s ward)

-- two keyings agree, and every doubtful paper has a verdict
abbrev pub is_settled : Pile → Bool
is_settled pile = are_taken pile.keyings && (length (filter (is_open pile.verdicts) (agreed pile.keyings)) == 0)

-- ---- the judgement on a paper

-- judged by its marks, a paper is valid, with its preferences, if the number 1 appears next to exactly one candidate; otherwise it is rejected
abbrev pub by_rejection : Marking → Option Rejection → Judgement
by_rejection marking None = Valid (preferences marking)
by_rejection marking (Some rejection) = Rejected (rejection_code rejection)

-- the judgement on marks that were read; for a doubtful paper, the given judgement instead
abbrev pub by_reading : Judgement → Result Keyed MarkFault → Judgement
by_reading doubtful (Err fault) = Open
by_reading doubtful (Ok Doubtful) = doubtful
by_reading doubtful (Ok (Marked marking)) = by_rejection marking (rejection_of marking)

-- the judgement according to a verdict: the judgement on the marks with which the paper is accepted, or a rejection with a code
abbrev pub by_verdict : List ℕ → Option JudgedEntry → Judgement
by_verdict columns None = Open
by_verdict columns (Some v) = if v.code == 0 then by_reading Open (reading columns v.marks) else Rejected v.code

-- the judgement on a keyed paper: according to its marks or, if it is doubtful, according to its verdict
abbrev pub judgement_on : List ℕ → List JudgedEntry → KeyedEntry → Judgement
judgement_on columns verdicts k = by_reading (by_verdict columns (find (λ (v : JudgedEntry). v.paper == k.paper) verdicts)) (reading columns k.marks)

-- the judgements on the papers of a keying, in paper order
abbrev pub judgements_on : List ℕ → List JudgedEntry → List KeyedEntry → List Judgement
judgements_on columns verdicts keying = map (judgement_on columns verdicts) keying

-- the judgements on a batch's agreed papers; none if it isn't taken
abbrev pub judgements_in : List ℕ → Pile → List Judgement
judgements_in columns pile = judgements_on columns pile.verdicts (agreed pile.keyings)

-- the judgements on the papers of all batches
abbrev pub judgements : List ℕ → List Pile → List Judgement
judgements columns piles = flat_map (judgements_in columns) piles

-- ---- settled batches, whose papers are read one by one

-- the lower-numbered of the two clerks first assigned to a batch
abbrev pub lower_clerk : BatchEntry → ℕ
lower_clerk b = if is_lt (nat_cmp b.first_clerk b.second_clerk) then b.first_clerk else b.second_clerk

-- the papers of a settled batch: without a third clerk, those keyed by the lower-numbered clerk, since the two keyings are equal; with a third clerk,
-- the agreed papers
abbrev pub settled_with : OfficeState → BatchEntry → Option ThirdEntry → List KeyedEntry
settled_with s b None = keying_of s b.number b.round (lower_clerk b)
settled_with s b (Some t) = taken_papers s b

abbrev pub settled_papers : OfficeState → BatchEntry → List KeyedEntry
settled_papers s b = settled_with s b (third_at s b.number)

-- the judgements on the papers of settled batches, batch by batch
abbrev pub settled_judgements : OfficeState → List ℕ → List BatchEntry → List Judgement
settled_judgements s columns batches = flat_map (λ (b : BatchEntry). judgements_on columns (verdicts_of s b.number) (settled_papers s b)) batches

-- ---- totals

-- the preferences of a valid paper
abbrev pub preferences_by : Judgement → List (List ℕ)
preferences_by (Valid prefs) = prefs ∷ []
preferences_by (Rejected code) = []
preferences_by Open = []

-- a paper is rejected with the given code
abbrev pub is_rejected : ℕ → Judgement → Bool
is_rejected n (Valid prefs) = false
is_rejected n (Rejected code) = code == n
is_rejected n Open = false

-- the number of papers rejected with the given code
abbrev pub rejected_with : List Judgement → ℕ → ℕ
rejected_with js n = length (filter (is_rejected n) js)

-- the preferences of each valid paper, ordered by batch and number; the number of papers rejected with each code from 1 to 5; and whether every batch is
-- settled
pub record BallotsEntry : Type 0 where
  pub papers : List (List ℕ)
  pub rejected : List ℕ
  pub settled : Bool

-- the ballots in the given piles
abbrev pub ballots_in : List ℕ → List Pile → BallotsEntry
ballots_in columns piles =
    let js = judgements columns piles in
    record {
      papers = flat_map preferences_by js;
      rejected = map (rejected_with js) (1 ∷ 2 ∷ 3 ∷ 4 ∷ 5 ∷ []);
      settled = list_all is_settled piles;
    }

-- the ballots that result from the given judgements if every batch is settled
abbrev pub ballots_by : List Judgement → BallotsEntry
ballots_by js =
    record {
      papers = flat_map preferences_by js;
      rejected = map (rejected_with js) (1 ∷ 2 ∷ 3 ∷ 4 ∷ 5 ∷ []);
      settled = true;
    }

-- the totals of a ward's papers: the number of valid papers, the number rejected with each code, the quota, and whether every batch is settled
pub record PollEntry : Type 0 where
  pub valid : ℕ
  pub rejected : List ℕ
  pub quota : ℕ
  pub settled : Bool

-- the poll that results from the given ballots, for the given number of seats
abbrev pub poll_of : ℕ → BallotsEntry → PollEntry
poll_of seats ballots = record { valid = length ballots.papers; rejected = ballots.rejected; quota = quota_of (length ballots.papers) seats; settled = ballots.settled }

-- the total number of papers rejected, with any of the five codes
abbrev pub all_rejected : List ℕ → ℕ
all_rejected rejected = slice_index rejected 0 + (slice_index rejected 1 + (slice_index rejected 2 + (slice_index rejected 3 + slice_index rejected 4)))

-- a list consists of the given papers, each stored separately
abbrev pub are_listed : Vec (List ℕ) → List (List ℕ) → Type 0
are_listed kept papers = kept.items ≡ papers

-- the bundles contain the given papers, added in the given order
abbrev pub are_bundled : List Bundle → List (List ℕ) → Type 0
are_bundled bundles papers = bundles ≡ bundled papers

-- ballots represent the given entry: they have its papers, as defined by `holds`, and the same totals
pub record StandFor {P : Type 0} (holds : P → List (List ℕ) → Type 0) (ballots : Ballots P) (entry : BallotsEntry) : Type 0 where
  pub papers_held : holds ballots.papers entry.papers
  pub rejected_are : ballots.rejected ≡ entry.rejected
  pub settled_is : ballots.settled ≡ entry.settled

-- the entry for a poll
abbrev pub poll_entry : PollTally → PollEntry
poll_entry poll = record { valid = poll.valid; rejected = poll.rejected; quota = poll.quota; settled = poll.settled }
