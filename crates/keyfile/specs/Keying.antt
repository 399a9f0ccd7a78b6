-- The file with a keying.
use Rattle.std.specs.Prelude.{◌≡◌, ◌≤◌, ℕ, Bool, true, false, ◌&&◌, ◌||◌, ◌==◌, if◌then◌else◌, List, [], ◌∷◌, length, Option, Some, None, Result, Ok, Err, codes, bytes_eq}
use Rattle.std.specs.List.{list_all, list_any, join_with_byte}
use Rattle.keyfile.specs.Headers.{first_field_flaw}
use Rattle.paper.specs.MarksText.{with_columns, marks_in, reading}
use Rattle.paper.specs.declared.marked.Keyed.TheVariants.{Doubtful}
use Rattle.keyfile.specs.Records.{Record}
use Rattle.paper.specs.Digits.{plain_number_in}
use Rattle.keyfile.specs.Files.{Format}
use Rattle.keyfile.specs.declared.fault.Flaw.{Flaw}
use Rattle.keyfile.specs.declared.fault.Flaw.TheVariants.{Header, RecordLength, Number, PaperOrder, Marks}

-- whether a number was read and is the given one
abbrev pub is_told : Option ℕ → ℕ → Bool
is_told (Some n) k = n == k
is_told None k = false

-- whether the fields are the given numbers in decimal, one per column
abbrev pub are_columns : Record → List ℕ → Bool
are_columns [] [] = true
are_columns (field ∷ fields) (column ∷ columns) = is_told (plain_number_in field) column && are_columns fields columns
are_columns fields columns = false

-- what is wrong with the columns of a header: they must be the candidates' numbers in ascending order
abbrev pub columns_flaw : List ℕ → Record → Option Flaw
columns_flaw columns fields = if are_columns fields columns then None else Some Header

-- the first of two flaws, or the second if there is no first one
abbrev pub first_flaw : Option Flaw → Option Flaw → Option Flaw
first_flaw (Some flaw) later = Some flaw
first_flaw None later = later

-- What is wrong with the header of a clerk's keying of a batch. Its first field is checked before its columns, because a batch from another ward has other
-- columns.
abbrev pub keying_header_flaw : List ℕ → ℕ → ℕ → Record → Option Flaw
keying_header_flaw columns batch clerk [] = Some Header
keying_header_flaw columns batch clerk (first ∷ fields) = first_flaw (first_field_flaw batch clerk first) (columns_flaw columns fields)

-- whether a byte is a comma, a double quote or part of a line break
abbrev pub is_break : ℕ → Bool
is_break b = (b == 44) || ((b == 34) || ((b == 10) || (b == 13)))

-- whether a mark field contains such a byte
abbrev pub breaks_marks : List ℕ → Bool
breaks_marks mark = list_any is_break mark

-- whether the first mark is the letter D and the others are empty
abbrev pub is_doubtful : List (List ℕ) → Bool
is_doubtful [] = false
is_doubtful (first ∷ others) = bytes_eq first (codes "D") && list_all (λ mark. length mark == 0) others

-- a field of a marks text, preceded by a comma unless it is the first
abbrev pub field_text : ℕ → List ℕ → List ℕ
field_text i mark = if i == 0 then mark else 44 ∷ mark

-- the marks text for the mark fields of a paper: the letter D for a doubtful paper, otherwise the fields separated by commas
abbrev pub marks_text : List (List ℕ) → List ℕ
marks_text marks = if is_doubtful marks then codes "D" else join_with_byte 44 marks

-- what the paper with the given number is parsed into, based on the number in its record and on its mark fields
abbrev pub of_number : ℕ → Option ℕ → List (List ℕ) → Result (List ℕ) Flaw
of_number k None marks = Err Number
of_number k (Some told) marks =
    if told == k then (if list_any breaks_marks marks then Err Marks else Ok (marks_text marks)) else Err PaperOrder

-- what a record is parsed into: the paper with the given number
abbrev pub paper_in : ℕ → Record → Result (List ℕ) Flaw
paper_in k [] = Err RecordLength
paper_in k (paper ∷ marks) = of_number k (plain_number_in paper) marks

-- the maximum number of papers in a batch
abbrev pub most_papers : ℕ
most_papers = 500

-- the format of the file with a clerk's keying of a batch whose papers have the given columns; the file contains at most the papers of one batch
abbrev pub keying : List ℕ → ℕ → ℕ → Format (List ℕ)
keying columns batch clerk = record { header_flaw = keying_header_flaw columns batch clerk; most = most_papers; read = paper_in }

-- what is wrong with a header that names neither a batch nor a clerk: it must be `paper` followed by the columns
abbrev pub plain_header_flaw : List ℕ → Record → Option Flaw
plain_header_flaw columns [] = Some Header
plain_header_flaw columns (first ∷ fields) = if bytes_eq first (codes "paper") && are_columns fields columns then None else Some Header

-- the format of the file with a keying whose header names neither a batch nor a clerk
abbrev pub plain_keying : List ℕ → Format (List ℕ)
plain_keying columns = record { header_flaw = plain_header_flaw columns; most = most_papers; read = paper_in }

-- the marks text of a paper means what its mark fields say: the paper is doubtful, or it has the mark of each field in the column of that field
abbrev pub AreReadAsKeyed : List ℕ → Type 0
AreReadAsKeyed columns =
    (marks : List (List ℕ)) → 1 ≤ length columns → length marks ≡ length columns → list_any breaks_marks marks ≡ false →
    reading columns (marks_text marks) ≡ (if is_doubtful marks then Ok Doubtful else with_columns columns (marks_in marks))
