-- New codes, which are made for a range of clerks, with or without one for the office.
use Rattle.std.specs.Prelude.{◌≡◌, ◌∷◌, ◌++◌, ◌+◌, ◌-◌, ◌*◌, ◌==◌, ◌&&◌, ◌%◌, Bool, true, false, zero, suc, List, [], Option, Some, None, Result, Ok, Err}
use Rattle.std.specs.Prelude.{bytes_eq, codes, decimal, drop, if◌then◌else◌, is_none, length, map, nat_le, nat_lt, slice_index, slice_range, take, ℕ}
use Rattle.std.specs.List.{filter_map, list_all, list_any, prefix_len}
use Rattle.codes.specs.Codes.{office_name}
use Rattle.codes.specs.Files.{CodeEntry, FileEntry, clerk_in, codes_in, is_no_hyphen, office_in}
use Rattle.codes.specs.declared.fault.CodesFault.{CodesFault}
use Rattle.codes.specs.declared.range.ClerkRange.{ClerkRange}

-- ---- codes

-- the letters that codes are made of, none of which can be mistaken for another
abbrev pub letters : List ℕ
letters = codes "abcdefghjkmnprstuwxy2347"

-- whether a byte is one of the letters that codes are made of
abbrev pub is_letter : ℕ → Bool
is_letter byte = list_any (λ letter. letter == byte) letters

-- the number of byte values that select a letter, the same number for each letter; any other byte selects none
abbrev pub drawing_bytes : ℕ
drawing_bytes = 240

-- the letter that a byte selects, if any
abbrev pub letter_of : ℕ → Option ℕ
letter_of byte = if nat_lt byte drawing_bytes then Some (slice_index letters (byte % length letters)) else None

-- the letters that bytes select, in order, at most one per byte
abbrev pub letters_drawn : List ℕ → List ℕ
letters_drawn bytes = filter_map letter_of bytes

-- the number of letters in a clerk's code
abbrev pub code_letters : ℕ
code_letters = 12

-- whether a code has twelve letters, in groups of four separated by hyphens
abbrev pub is_made : List ℕ → Bool
is_made code =
    (length code == 14)
    && ((slice_index code 4 == 45)
    && ((slice_index code 9 == 45) && (list_all is_letter (take 4 code) && (list_all is_letter (slice_range code 5 9) && list_all is_letter (drop 10 code)))))

-- the number of letters in the office's code
abbrev pub office_letters : ℕ
office_letters = 16

-- whether a code has sixteen letters, in groups of four separated by hyphens
abbrev pub is_made_for_office : List ℕ → Bool
is_made_for_office code =
    (length code == 19)
    && ((slice_index code 4 == 45)
    && ((slice_index code 9 == 45)
    && ((slice_index code 14 == 45)
    && (list_all is_letter (take 4 code) && (list_all is_letter (slice_range code 5 9) && (list_all is_letter (slice_range code 10 14) && list_all is_letter (drop 15 code)))))))

-- ---- clerks

-- consecutive numbers, given the first one and how many there are
abbrev pub numbers : ℕ → ℕ → List ℕ
numbers first zero = []
numbers first (suc n) = first ∷ numbers (first + 1) n

-- the clerks in a range
abbrev pub clerks_of : ClerkRange → List ℕ
clerks_of clerks = numbers clerks.first (clerks.last + 1 - clerks.first)

-- the first and the last clerk of a range, where the first isn't greater than the last
pub record ClerksEntry : Type 0 where
  pub first : ℕ
  pub last : ℕ

abbrev pub clerks_entry : ClerkRange → ClerksEntry
clerks_entry clerks = record { first = clerks.first; last = clerks.last }

abbrev pub clerks_between : Option ℕ → Option ℕ → Option ClerksEntry
clerks_between None last = None
clerks_between (Some first) None = None
clerks_between (Some first) (Some last) = if nat_le first last then Some (record { first = first; last = last }) else None

-- the range of clerks that a text names: the first one, a hyphen, and the last one
abbrev pub clerks_in : List ℕ → Option ClerksEntry
clerks_in text = clerks_between (clerk_in (take (prefix_len is_no_hyphen text) text)) (clerk_in (drop (prefix_len is_no_hyphen text + 1) text))

-- ---- a new codes file

-- a text is a codes file for exactly the given clerks, in order, and each code has twelve letters
pub record IsMadeFor (clerks : List ℕ) (text : List ℕ) : Type 0 where
  pub entries : List CodeEntry
  pub is : codes_in text ≡ Ok entries
  pub each : map (λ (e : CodeEntry). e.clerk) entries ≡ clerks
  pub made : list_all (λ (e : CodeEntry). is_made e.code) entries ≡ true

-- a text is such a file that also contains a code for the office, which has sixteen letters and isn't any clerk's
pub record IsMadeWithOffice (clerks : List ℕ) (text : List ℕ) : Type 0 where
  pub of_clerks : IsMadeFor clerks text
  pub code : List ℕ
  pub is : office_in text ≡ Some code
  pub made : is_made_for_office code ≡ true
  pub own : list_any (λ (e : CodeEntry). bytes_eq e.code code) of_clerks.entries ≡ false

-- whether entries are for consecutive clerks from the first number up to, but not including, the second
abbrev pub are_from : ℕ → ℕ → List CodeEntry → Bool
are_from next end [] = next == end
are_from next end (entry ∷ entries) = (entry.clerk == next) && are_from (next + 1) end entries

-- whether the office has a code of sixteen letters, or has none if none is made for it
abbrev pub is_made_at : Bool → Option (List ℕ) → Bool
is_made_at false code = is_none code
is_made_at true None = false
is_made_at true (Some code) = is_made_for_office code

-- the same test for what was read from a text, with or without a code for the office
abbrev pub is_file_for : ClerkRange → Bool → Result FileEntry CodesFault → Bool
is_file_for clerks office (Err fault) = false
is_file_for clerks office (Ok file) =
    are_from clerks.first (clerks.last + 1) file.clerks && (list_all (λ (e : CodeEntry). is_made e.code) file.clerks && is_made_at office file.office)

-- ---- the text of a file

-- a clerk's line: the clerk's number, a space, and the code made of the given letters
abbrev pub line_of : ℕ → List ℕ → List ℕ
line_of clerk own =
    ((((((decimal clerk ++ codes " ") ++ take 4 own) ++ codes "-") ++ slice_range own 4 8) ++ codes "-") ++ drop 8 own) ++ codes "\n"

-- the lines of clerks, with twelve letters each, in order
abbrev pub text_of : List ℕ → List ℕ → List ℕ
text_of [] own = []
text_of (clerk ∷ clerks) own = line_of clerk (take code_letters own) ++ text_of clerks (drop code_letters own)

-- the number of letters in the codes of the given clerks
abbrev pub letters_for : ClerkRange → ℕ
letters_for clerks = code_letters * length (clerks_of clerks)

-- the office's code made of the given letters
abbrev pub office_code : List ℕ → List ℕ
office_code own = (((((take 4 own ++ codes "-") ++ slice_range own 4 8) ++ codes "-") ++ slice_range own 8 12) ++ codes "-") ++ drop 12 own

-- the office's line: its name, a space, and the code made of the given letters
abbrev pub office_line : List ℕ → List ℕ
office_line own = ((office_name ++ codes " ") ++ office_code own) ++ codes "\n"

-- the lines of clerks, followed by the office's if a code is made for it, whose letters follow the clerks'
abbrev pub text_with : ClerkRange → Bool → List ℕ → List ℕ
text_with clerks false own = text_of (clerks_of clerks) own
text_with clerks true own = text_of (clerks_of clerks) (take (letters_for clerks) own) ++ office_line (drop (letters_for clerks) own)

-- the number of letters in the codes of the given clerks, and in the office's if one is made
abbrev pub letters_with : ClerkRange → Bool → ℕ
letters_with clerks false = letters_for clerks
letters_with clerks true = letters_for clerks + office_letters
