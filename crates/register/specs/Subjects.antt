-- The subjects of receipts: a word and one or two plain numbers, separated by single spaces.
use Rattle.std.specs.Prelude.{ℕ, Bool, not, ◌&&◌, ◌||◌, ◌==◌, List, [], ◌∷◌, codes, slice_index}
use Rattle.std.specs.List.{list_any, before_first, after_first}
use Rattle.std.specs.Str.{all_ascii_digits, bytes_eq}
use Rattle.std.specs.Str.Parse.{digits_value}
use Rattle.paper.specs.Columns.{max_candidates}
use Rattle.register.specs.Ranges.{is_between, last_ward, last_batch, most_papers, last_round, first_lot_stage, last_lot_stage}

-- a number in plain notation: digits, the first of which isn't 0
unfoldable pub is_plain_number : ℕ → ℕ → List ℕ → Bool
is_plain_number low high t = not (slice_index t 0 == 48) && (all_ascii_digits t && is_between low high (digits_value 10 t))

-- the byte that separates words
abbrev pub is_space : ℕ → Bool
is_space b = b == 32

-- two plain numbers, separated by a space
abbrev pub are_plain_numbers : ℕ → ℕ → ℕ → ℕ → List ℕ → Bool
are_plain_numbers low high least most t = is_plain_number low high (before_first is_space t) && is_plain_number least most (after_first is_space t)

-- one of the given words, followed by numbers that pass a test
abbrev pub has_word_and_numbers : List (List ℕ) → (List ℕ → Bool) → List ℕ → List ℕ → Bool
has_word_and_numbers words passes word numbers = list_any (bytes_eq word) words && passes numbers

-- a ward is added, closed, sealed, advanced or declared
abbrev pub is_about_ward : List ℕ → List ℕ → Bool
is_about_ward = has_word_and_numbers (codes "ward" ∷ codes "close" ∷ codes "seal" ∷ codes "advance" ∷ codes "declare" ∷ []) (is_plain_number 1 last_ward)

-- a candidate in a ward is added or withdrawn
abbrev pub is_about_candidate : List ℕ → List ℕ → Bool
is_about_candidate = has_word_and_numbers (codes "candidate" ∷ codes "withdraw" ∷ []) (are_plain_numbers 1 last_ward 1 max_candidates)

-- a lot is drawn for a ward at a stage
abbrev pub is_about_lot : List ℕ → List ℕ → Bool
is_about_lot = has_word_and_numbers (codes "lot" ∷ []) (are_plain_numbers 1 last_ward first_lot_stage last_lot_stage)

-- a batch is added, keyed again, or assigned to a third clerk
abbrev pub is_about_batch : List ℕ → List ℕ → Bool
is_about_batch = has_word_and_numbers (codes "batch" ∷ codes "again" ∷ codes "third" ∷ []) (is_plain_number 1 last_batch)

-- a paper in a batch is judged
abbrev pub is_about_paper : List ℕ → List ℕ → Bool
is_about_paper = has_word_and_numbers (codes "judge" ∷ []) (are_plain_numbers 1 last_batch 1 most_papers)

-- a batch is keyed in a round
abbrev pub is_about_keying : List ℕ → List ℕ → Bool
is_about_keying = has_word_and_numbers (codes "key" ∷ []) (are_plain_numbers 1 last_batch 1 last_round)

-- a subject of an office command, split into its word and its numbers
abbrev pub is_of_office : List ℕ → List ℕ → Bool
is_of_office word numbers = is_about_ward word numbers || (is_about_candidate word numbers || (is_about_lot word numbers || (is_about_batch word numbers || is_about_paper word numbers)))

-- a subject of an office command: the word precedes the first space, and the numbers follow it
unfoldable pub is_office_subject : List ℕ → Bool
is_office_subject t = is_of_office (before_first is_space t) (after_first is_space t)

-- a subject of a clerk's command
unfoldable pub is_clerk_subject : List ℕ → Bool
is_clerk_subject t = is_about_keying (before_first is_space t) (after_first is_space t)
