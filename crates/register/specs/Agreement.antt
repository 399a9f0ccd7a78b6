-- The papers of a batch: keyed by its clerks, taken once two keyings agree, and judged if they are doubtful.
use Rattle.std.specs.Prelude.{ℕ, ◌+◌, Bool, true, false, not, ◌&&◌, ◌||◌, ◌==◌, nat_le, if◌then◌else◌, List, [], ◌∷◌, length, map, codes, find, Option, Some, None}
use Rattle.std.specs.List.{filter, list_any}
use Rattle.std.specs.Ordering.{nat_cmp}
use Rattle.std.specs.Str.{bytes_eq}
use Rattle.register.specs.declared.agreement.Clerks.{Clerks}
use Rattle.register.specs.Offices.{BatchEntry, ThirdEntry, KeyedEntry, JudgedEntry, OfficeState, put, third_at, keying_of, verdicts_of}

-- a keying exists
abbrev pub is_keyed : List KeyedEntry → Bool
is_keyed [] = false
is_keyed (k ∷ ks) = true

-- the existing keyings among three; the third one doesn't exist if there is no third clerk
abbrev pub of_three : List KeyedEntry → List KeyedEntry → List KeyedEntry → List (List KeyedEntry)
of_three first second third = filter is_keyed (first ∷ second ∷ third ∷ [])

-- two keyings have the same marks on each paper
unfoldable pub same_marks : List KeyedEntry → List KeyedEntry → Bool
same_marks [] [] = true
same_marks (j ∷ js) (k ∷ ks) = bytes_eq j.marks k.marks && same_marks js ks
same_marks js ks = false

-- the first keying that equals a later one, which is the agreed keying; empty if no two are equal
abbrev pub agreed : List (List KeyedEntry) → List KeyedEntry
agreed [] = []
agreed (k ∷ ks) = if list_any (same_marks k) ks then k else agreed ks

-- two of the keyings are equal
abbrev pub are_taken : List (List KeyedEntry) → Bool
are_taken keyings = is_keyed (agreed keyings)

-- there are at least two keyings, and no two of them are equal
abbrev pub differ : List (List KeyedEntry) → Bool
differ keyings = nat_le 2 (length keyings) && not (are_taken keyings)

-- a paper is keyed as doubtful
abbrev pub is_doubtful : KeyedEntry → Bool
is_doubtful k = bytes_eq k.marks (codes "D")

-- a paper was found and is doubtful
abbrev pub is_found_doubtful : Option KeyedEntry → Bool
is_found_doubtful None = false
is_found_doubtful (Some k) = is_doubtful k

-- a keying has a doubtful paper with the given number
abbrev pub has_doubtful : List KeyedEntry → ℕ → Bool
has_doubtful keying paper = is_found_doubtful (find (λ (k : KeyedEntry). k.paper == paper) keying)

-- ---- the clerks of a batch, and their keyings

-- the clerk is the third clerk of a batch that has one
abbrev pub is_third_clerk : ℕ → Option ThirdEntry → Bool
is_third_clerk clerk None = false
is_third_clerk clerk (Some t) = clerk == t.clerk

-- the clerk is one of those who key the batch
abbrev pub is_its_clerk : ℕ → BatchEntry → Option ThirdEntry → Bool
is_its_clerk clerk b third = (clerk == b.first_clerk) || ((clerk == b.second_clerk) || is_third_clerk clerk third)

-- the two or three clerks who key the batch, ordered by number
abbrev pub two_clerks : BatchEntry → List ℕ
two_clerks b = put nat_cmp b.first_clerk (b.second_clerk ∷ [])

abbrev pub clerks : BatchEntry → Option ThirdEntry → List ℕ
clerks b None = two_clerks b
clerks b (Some t) = put nat_cmp t.clerk (two_clerks b)

abbrev pub clerks_of : OfficeState → BatchEntry → List ℕ
clerks_of s b = clerks b (third_at s b.number)

-- the numbers of these clerks
abbrev pub third_listed : Option ℕ → List ℕ
third_listed None = []
third_listed (Some clerk) = clerk ∷ []

abbrev pub clerk_list : Clerks → List ℕ
clerk_list c = c.first ∷ c.second ∷ third_listed c.third

-- a clerk's keying of a batch in the given round; empty if there is no such clerk
abbrev pub keying_by : OfficeState → ℕ → ℕ → Option ℕ → List KeyedEntry
keying_by s batch round None = []
keying_by s batch round (Some clerk) = keying_of s batch round clerk

-- the existing keyings of a batch in the given round, ordered by clerk
abbrev pub keyings_in : OfficeState → BatchEntry → ℕ → List (List KeyedEntry)
keyings_in s b round = filter is_keyed (map (keying_of s b.number round) (clerks_of s b))

-- the existing keyings of the batch's current round
abbrev pub keyings_now : OfficeState → BatchEntry → List (List KeyedEntry)
keyings_now s b = keyings_in s b b.round

-- the agreed papers of the batch; none if it isn't taken
abbrev pub taken_papers : OfficeState → BatchEntry → List KeyedEntry
taken_papers s b = agreed (keyings_now s b)

-- the batch is taken: two keyings of its current round are equal
abbrev pub is_taken : OfficeState → BatchEntry → Bool
is_taken s b = are_taken (keyings_now s b)

-- the batch differs: its current round has at least two keyings, and no two of them are equal
abbrev pub is_differing : OfficeState → BatchEntry → Bool
is_differing s b = differ (keyings_now s b)

-- ---- the batches of a ward

abbrev pub batches_of : OfficeState → ℕ → List BatchEntry
batches_of s ward = filter (λ (b : BatchEntry). b.ward == ward) s.batches

-- the batches that are taken, and those that differ
abbrev pub taken_of : OfficeState → ℕ → List BatchEntry
taken_of s ward = filter (is_taken s) (batches_of s ward)

abbrev pub differing_of : OfficeState → ℕ → List BatchEntry
differing_of s ward = filter (is_differing s) (batches_of s ward)

-- one of the given verdicts is on the paper with the given number
abbrev pub has_verdict : List JudgedEntry → ℕ → Bool
has_verdict verdicts paper = list_any (λ (v : JudgedEntry). v.paper == paper) verdicts

-- a doubtful paper has no verdict in the given list
abbrev pub is_open : List JudgedEntry → KeyedEntry → Bool
is_open verdicts k = is_doubtful k && not (has_verdict verdicts k.paper)

-- the number of a taken batch's doubtful papers that have no verdict
abbrev pub open_in : OfficeState → BatchEntry → ℕ
open_in s b = length (filter (is_open (verdicts_of s b.number)) (taken_papers s b))

-- the total number of doubtful papers without a verdict in the given batches
abbrev pub open_among : OfficeState → List BatchEntry → ℕ
open_among s [] = 0
open_among s (b ∷ bs) = open_in s b + open_among s bs
