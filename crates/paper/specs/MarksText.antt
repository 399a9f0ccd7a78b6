-- Marks as text: how a text is read, and the only valid text for a keyed paper.
use Rattle.std.specs.Prelude.{◌≡◌, ℕ, ◌+◌, ◌-◌, ◌*◌, Bool, not, ◌&&◌, ◌||◌, ◌==◌, nat_le, nat_lt, if◌then◌else◌, List, [], ◌∷◌, length, map, Result, Ok, Err, codes, decimal, bytes_eq}
use Rattle.std.specs.List.{slice_split, join_with_byte, list_all, fold, zip}
use Rattle.paper.specs.Marking.{candidates_of, marks_of}
use Rattle.paper.specs.declared.marks.MarkFault.{MarkFault}
use Rattle.paper.specs.declared.marks.MarkFault.TheVariants.{FieldCount, NotANumber, TooLarge}
use Rattle.paper.specs.declared.marked.Keyed.{Keyed}
use Rattle.paper.specs.declared.marked.Keyed.TheVariants.{Doubtful, Marked}

-- the fields of a marks text, separated by commas
abbrev pub fields : List ℕ → List (List ℕ)
fields text = slice_split (λ b. b == 44) text

-- whether a byte is a digit
abbrev pub is_digit : ℕ → Bool
is_digit b = nat_le 48 b && nat_le b 57

-- the number that a digit string represents
abbrev pub number_in : List ℕ → ℕ
number_in digits = fold (λ n b. n * 10 + (b - 48)) 0 digits

-- the mark in a field: 0 if the field is empty, otherwise its number, which has no leading zero and is at most 99
abbrev pub mark_in : List ℕ → Result ℕ MarkFault
mark_in [] = Ok 0
mark_in (b ∷ bs) =
    if b == 48 || not (list_all is_digit (b ∷ bs)) then Err NotANumber else (
    if nat_lt 99 (number_in (b ∷ bs)) then Err TooLarge else Ok (number_in (b ∷ bs)))

-- the mark in a field, followed by the marks in later fields; or the fault of the first invalid field
abbrev pub and_marks : Result ℕ MarkFault → Result (List ℕ) MarkFault → Result (List ℕ) MarkFault
and_marks (Err fault) marks = Err fault
and_marks (Ok mark) (Err fault) = Err fault
and_marks (Ok mark) (Ok marks) = Ok (mark ∷ marks)

-- the marks in a list of fields, or the fault of the leftmost invalid field
abbrev pub marks_in : List (List ℕ) → Result (List ℕ) MarkFault
marks_in [] = Ok []
marks_in (field ∷ fields) = and_marks (mark_in field) (marks_in fields)

-- the marks of the candidates in the given columns, or the fault
abbrev pub with_columns : List ℕ → Result (List ℕ) MarkFault → Result Keyed MarkFault
with_columns columns (Err fault) = Err fault
with_columns columns (Ok marks) = Ok (Marked (zip columns marks))

-- the paper that a text represents, given the columns: a doubtful paper if the text is the letter D, otherwise a paper with
-- one field for each column; the number of fields is checked first
abbrev pub reading : List ℕ → List ℕ → Result Keyed MarkFault
reading columns text =
    if bytes_eq text (codes "D") then Ok Doubtful else (
    if length (fields text) == length columns then with_columns columns (marks_in (fields text)) else Err FieldCount)

-- the text of a mark
abbrev pub mark_text : ℕ → List ℕ
mark_text mark = if mark == 0 then [] else decimal mark

-- the text of a field, preceded by a comma unless it is the first field
abbrev pub field_text : ℕ → ℕ → List ℕ
field_text i mark = if i == 0 then mark_text mark else 44 ∷ mark_text mark

-- the only text that is read as the given keyed paper
abbrev pub spelling : Keyed → List ℕ
spelling Doubtful = codes "D"
spelling (Marked marking) = join_with_byte 44 (map mark_text (marks_of marking))

-- a paper has its own columns; a doubtful paper may have any columns
abbrev pub HasColumns : Keyed → List ℕ → Type 0
HasColumns Doubtful columns = Unit {0}
HasColumns (Marked marking) columns = candidates_of marking ≡ columns

-- the text of a keyed paper is read back as the same paper
abbrev pub ReadsBack : Keyed → Type 0
ReadsBack keyed = (columns : List ℕ) → HasColumns keyed columns → reading columns (spelling keyed) ≡ Ok keyed
