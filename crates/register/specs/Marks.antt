-- How marks texts are read with a ward's columns: their faults, and whether they are valid.
use Rattle.std.specs.Prelude.{ℕ, ◌+◌, Bool, true, false, if◌then◌else◌, List, [], ◌∷◌, fold, Option, Some, None, is_none, Result, Ok, Err}
use Rattle.paper.specs.declared.marks.MarkFault.{MarkFault}
use Rattle.paper.specs.declared.marked.Keyed.{Keyed}
use Rattle.paper.specs.declared.marked.Keyed.TheVariants.{Doubtful, Marked}
use Rattle.paper.specs.Columns.{with_column}
use Rattle.paper.specs.MarksText.{reading}
use Rattle.paper.specs.Numbers.{fault_number}
use Rattle.paper.specs.Preferences.{rejection_of}
use Rattle.register.specs.declared.refusal.Reason.{Reason}
use Rattle.register.specs.declared.refusal.Reason.TheVariants.{BadMarks}
use Rattle.register.specs.Ranges.{is_candidate_number}
use Rattle.register.specs.Offices.{CandidateEntry}

-- columns, with the given candidate's number added if it is in range
abbrev pub and_column : List ℕ → CandidateEntry → List ℕ
and_column columns c = if is_candidate_number c.number then with_column columns c.number else columns

-- the columns of a ward's ballot papers: its candidates' numbers
abbrev pub columns_of : List CandidateEntry → List ℕ
columns_of candidates = fold and_column [] candidates

-- the text was read without a fault
abbrev pub is_read : Result Keyed MarkFault → Bool
is_read (Ok keyed) = true
is_read (Err fault) = false

-- the marks can be read with the given columns
abbrev pub is_readable : List ℕ → List ℕ → Bool
is_readable columns marks = is_read (reading columns marks)

-- the text was read and the paper isn't rejected; a doubtful paper doesn't count as valid
abbrev pub is_judged_valid : Result Keyed MarkFault → Bool
is_judged_valid (Err fault) = false
is_judged_valid (Ok Doubtful) = false
is_judged_valid (Ok (Marked marking)) = is_none (rejection_of marking)

-- the marks can be read with the given columns and make the paper valid
abbrev pub is_valid : List ℕ → List ℕ → Bool
is_valid columns marks = is_judged_valid (reading columns marks)

-- the objection that results from reading the marks on a paper: their fault, if there is one
abbrev pub fault_told : ℕ → Result Keyed MarkFault → Option Reason
fault_told paper (Ok keyed) = None
fault_told paper (Err fault) = Some (BadMarks paper (fault_number fault))

-- the objection to the marks on a paper
abbrev pub marks_objection : List ℕ → ℕ → List ℕ → Option Reason
marks_objection columns paper marks = fault_told paper (reading columns marks)

-- the first reason or, if there is none, the second
abbrev pub or_reason : Option Reason → Option Reason → Option Reason
or_reason (Some why) other = Some why
or_reason None other = other

-- the objection to the first invalid marks among papers numbered consecutively from the given number
unfoldable pub first_bad_marks : List ℕ → ℕ → List (List ℕ) → Option Reason
first_bad_marks columns paper [] = None
first_bad_marks columns paper (marks ∷ others) = or_reason (marks_objection columns paper marks) (first_bad_marks columns (paper + 1) others)
