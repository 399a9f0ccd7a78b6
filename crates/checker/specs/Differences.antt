-- The first difference between two texts.
use Rattle.std.specs.Prelude.{◌≡◌, ◌≢◌, ℕ, suc, zero, ◌+◌, ◌==◌, nat_lt, if◌then◌else◌, [], ◌∷◌, length, string_bytes}
use Rattle.checker.specs.Tokens.{Text}
use Rattle.checker.specs.declared.differences.Checked.{Checked}
use Rattle.checker.specs.declared.differences.Checked.TheVariants as checked

-- the longest common prefix of two texts
abbrev pub common : Text → Text → Text
common [] other = []
common (a ∷ text) [] = []
common (a ∷ text) (b ∷ other) = if a == b then a ∷ common text other else []

-- the number of terminated lines in a text
abbrev pub ended_lines : Text → ℕ
ended_lines [] = 0
ended_lines (byte ∷ bytes) = if byte == 10 then ended_lines bytes + 1 else ended_lines bytes

-- what remains of a text after the given number of lines
abbrev pub behind_lines : ℕ → Text → Text
behind_lines zero text = text
behind_lines (suc n) [] = []
behind_lines (suc n) (byte ∷ bytes) = if byte == 10 then behind_lines n bytes else behind_lines (suc n) bytes

-- the first line of a text, including its line feed; empty if there is none
abbrev pub first_line : Text → Text
first_line [] = []
first_line (byte ∷ bytes) = if byte == 10 then byte ∷ [] else byte ∷ first_line bytes

-- the number of leading lines that two texts have in common
abbrev pub same_lines : Text → Text → ℕ
same_lines text other = ended_lines (common text other)

-- the sheet or the declaration, whichever shares the longer prefix with the given text, or the sheet if the prefixes are equally long
abbrev pub nearer : Text → Text → Text → Text
nearer text sheet declaration = if nat_lt (length (common text sheet)) (length (common text declaration)) then declaration else sheet

-- the number of the first line at which a text differs from what it should be, and that line as it should be
pub record DiffersAt (text should : Text) (line : ℕ) (should_be : Text) : Type 0 where
  pub at : line ≡ same_lines text should + 1
  pub is : should_be ≡ first_line (behind_lines (same_lines text should) should)

-- the result of comparing a text with a sheet and a declaration: the text is one of the two; or it is neither, and the given line is the first that differs from the more
-- similar one
abbrev pub IsComparison : Text → Text → Text → Checked → Type 0
IsComparison text sheet declaration checked.Sheet = text ≡ sheet
IsComparison text sheet declaration checked.Declaration = text ≡ declaration
IsComparison text sheet declaration (checked.Differs line should_be) =
    (text ≢ sheet) × (text ≢ declaration) × DiffersAt text (nearer text sheet declaration) line (string_bytes should_be)
