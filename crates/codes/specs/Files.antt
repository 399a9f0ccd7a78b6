-- A codes file. It has one line per clerk, with the clerk's number, a space, and the code; and at most one line for the office, with its name instead of a
-- number.
use Rattle.std.specs.Prelude.{◌∷◌, ◌++◌, ◌+◌, ◌-◌, ◌*◌, ◌==◌, ◌&&◌, ◌||◌, Bool, false, List, [], Option, Some, None, Result, Ok, Err}
use Rattle.std.specs.Prelude.{bytes_eq, count_by, drop, if◌then◌else◌, is_some, length, map, nat_le, nat_lt, not, option_and_then, option_map, slice_index, take, ℕ}
use Rattle.std.specs.Char.{is_ascii_digit}
use Rattle.std.specs.List.{list_all, list_any, prefix_len}
use Rattle.codes.specs.Codes.{Holder, credentials_of, office_credentials, office_name}
use Rattle.codes.specs.declared.fault.CodeFlaw.{CodeFlaw}
use Rattle.codes.specs.declared.fault.CodeFlaw.TheVariants.{BadCode, ClerkTwice, CodeTwice, NoEntry, OfficeTwice, ShortOffice}
use Rattle.codes.specs.declared.fault.CodesFault.{CodesFault}
use Rattle.codes.specs.declared.fault.CodesFault.TheVariants as fault
use Rattle.codes.specs.declared.reading.CodeLine.{CodeLine}
use Rattle.codes.specs.declared.reading.FileLines.{FileLines}

-- ---- a code

-- the minimum and maximum number of bytes in a code
abbrev pub fewest_code_bytes : ℕ
fewest_code_bytes = 8

abbrev pub most_code_bytes : ℕ
most_code_bytes = 64

-- whether a byte is an ASCII letter, digit or punctuation character
abbrev pub is_visible : ℕ → Bool
is_visible byte = nat_lt 32 byte && nat_lt byte 127

-- whether a text is a code: 8 to 64 such bytes
abbrev pub is_code : List ℕ → Bool
is_code text = nat_le fewest_code_bytes (length text) && (nat_le (length text) most_code_bytes && list_all is_visible text)

-- whether a byte isn't a hyphen
abbrev pub is_no_hyphen : ℕ → Bool
is_no_hyphen byte = not (byte == 45)

-- the minimum number of bytes in a strong code, not counting hyphens
abbrev pub fewest_strong_bytes : ℕ
fewest_strong_bytes = 12

-- whether a code is strong: it has at least that many bytes other than hyphens
abbrev pub is_strong : List ℕ → Bool
is_strong code = nat_le fewest_strong_bytes (count_by is_no_hyphen code)

-- the minimum number of bytes in the office's code, not counting hyphens
abbrev pub fewest_office_bytes : ℕ
fewest_office_bytes = 16

-- whether a code is long enough for the office: it has at least that many bytes other than hyphens
abbrev pub is_for_office : List ℕ → Bool
is_for_office code = nat_le fewest_office_bytes (count_by is_no_hyphen code)

-- ---- a clerk's number

-- the value of a digit
abbrev pub digit_in : ℕ → Option ℕ
digit_in byte = if is_ascii_digit byte then Some (byte - 48) else None

-- the number that results from appending digits to a number
abbrev pub more_digits : Option ℕ → List ℕ → Option ℕ
more_digits value [] = value
more_digits value (byte ∷ bytes) = more_digits (option_and_then (λ v. option_map (λ d. v * 10 + d) (digit_in byte)) value) bytes

-- a clerk's number: 1 to 3 digits, the first of which is not 0
abbrev pub clerk_in : List ℕ → Option ℕ
clerk_in [] = None
clerk_in (byte ∷ bytes) = if byte == 48 || nat_lt 2 (length bytes) then None else more_digits (digit_in byte) bytes

-- ---- a line

-- a clerk and that clerk's code
pub record CodeEntry : Type 0 where
  pub clerk : ℕ
  pub code : List ℕ

abbrev pub code_entry : CodeLine → CodeEntry
code_entry line = record { clerk = line.clerk; code = line.code.now }

-- the lines of a text, given the beginning of the first one; a line feed ends a line
abbrev pub lines_from : List ℕ → List ℕ → List (List ℕ)
lines_from line [] = line ∷ []
lines_from line (byte ∷ bytes) = if byte == 10 then line ∷ lines_from [] bytes else lines_from (line ++ byte ∷ []) bytes

-- a line without the carriage return at its end, if it has one
abbrev pub without_return : List ℕ → List ℕ
without_return line = if nat_lt 0 (length line) && slice_index line (length line - 1) == 13 then take (length line - 1) line else line

-- whether a byte isn't a space
abbrev pub is_no_blank : ℕ → Bool
is_no_blank byte = not (byte == 32)

-- a clerk and the clerk's code, given the number before the first space of a line and the text after it
abbrev pub entry_by : Option ℕ → List ℕ → Result CodeEntry CodeFlaw
entry_by None code = Err NoEntry
entry_by (Some clerk) code = if is_code code then Ok (record { clerk = clerk; code = code }) else Err BadCode

-- the part of a line before its first space
abbrev pub front_of : List ℕ → List ℕ
front_of line = take (prefix_len is_no_blank line) line

-- the part of a line after its first space
abbrev pub rest_of : List ℕ → List ℕ
rest_of line = drop (prefix_len is_no_blank line + 1) line

-- whether a line is the office's
abbrev pub is_office_line : List ℕ → Bool
is_office_line line = bytes_eq (front_of line) office_name

-- the entry of a clerk's line
abbrev pub entry_in : List ℕ → Result CodeEntry CodeFlaw
entry_in line = entry_by (clerk_in (front_of line)) (rest_of line)

-- ---- a line after others

-- the contents of a codes file: the codes of clerks, and the office's, if there is a line for the office
pub record FileEntry : Type 0 where
  pub clerks : List CodeEntry
  pub office : Option (List ℕ)

abbrev pub file_entry : FileLines → FileEntry
file_entry lines = record { clerks = map code_entry lines.clerks.items; office = option_map (λ code. code.now) lines.office }

-- no codes
abbrev pub no_codes : FileEntry
no_codes = record { clerks = []; office = None }

-- whether the office has the given code
abbrev pub is_offices : Option (List ℕ) → List ℕ → Bool
is_offices None code = false
is_offices (Some own) code = bytes_eq own code

-- whether a clerk or the office has the given code
abbrev pub has_code : FileEntry → List ℕ → Bool
has_code before code = list_any (λ other. bytes_eq other.code code) before.clerks || is_offices before.office code

-- the entry of a clerk's line that follows others, none of which has the same clerk or code
abbrev pub entry_behind : FileEntry → Result CodeEntry CodeFlaw → Result CodeEntry CodeFlaw
entry_behind before (Err flaw) = Err flaw
entry_behind before (Ok entry) =
    if list_any (λ other. other.clerk == entry.clerk) before.clerks then Err ClerkTwice else
    (if has_code before entry.code then Err CodeTwice else Ok entry)

-- The office's code in a line that follows others, none of which is the office's or has the same code. A second line for the office has a flaw of its own, because
-- the message for a clerk's second line, that the clerk appears twice, would send the reader looking among the clerks' numbers.
abbrev pub office_behind : FileEntry → List ℕ → Result (List ℕ) CodeFlaw
office_behind before code =
    if not (is_code code) then Err BadCode else
    (if not (is_for_office code) then Err ShortOffice else
    (if is_some before.office then Err OfficeTwice else
    (if has_code before code then Err CodeTwice else Ok code)))

-- the codes together with the one in another line, which is a clerk's
abbrev pub with_clerk : FileEntry → Result CodeEntry CodeFlaw → Result FileEntry CodeFlaw
with_clerk before (Err flaw) = Err flaw
with_clerk before (Ok entry) = Ok (record { clerks = before.clerks ++ entry ∷ []; office = before.office })

-- the same, if the line is the office's
abbrev pub with_office : FileEntry → Result (List ℕ) CodeFlaw → Result FileEntry CodeFlaw
with_office before (Err flaw) = Err flaw
with_office before (Ok code) = Ok (record { clerks = before.clerks; office = Some code })

-- the same, for any line
abbrev pub with_line : FileEntry → List ℕ → Result FileEntry CodeFlaw
with_line before line =
    if is_office_line line then with_office before (office_behind before (rest_of line)) else with_clerk before (entry_behind before (entry_in line))

-- ---- all lines

-- the result continues after a line, or ends with what is wrong with the line with the given number
abbrev pub file_by : (FileEntry → Result FileEntry CodesFault) → ℕ → Result FileEntry CodeFlaw → Result FileEntry CodesFault
file_by others number (Err flaw) = Err (fault.Line number flaw)
file_by others number (Ok before) = others before

-- the codes in the lines from the given number on, added to the codes before them; empty lines are skipped
abbrev pub file_from : ℕ → FileEntry → List (List ℕ) → Result FileEntry CodesFault
file_from number before [] = Ok before
file_from number before (line ∷ lines) =
    if length (without_return line) == 0 then file_from (number + 1) before lines else
    file_by (λ all. file_from (number + 1) all lines) number (with_line before (without_return line))

-- the codes in the text of a file, or a fault for the first invalid line
abbrev pub file_in : List ℕ → Result FileEntry CodesFault
file_in text = file_from 1 no_codes (lines_from [] text)

-- the codes of a file's clerks
abbrev pub clerks_by : Result FileEntry CodesFault → Result (List CodeEntry) CodesFault
clerks_by (Err fault) = Err fault
clerks_by (Ok file) = Ok file.clerks

abbrev pub codes_in : List ℕ → Result (List CodeEntry) CodesFault
codes_in text = clerks_by (file_in text)

-- the office's code, if the file has a line for the office
abbrev pub office_by : Result FileEntry CodesFault → Option (List ℕ)
office_by (Err fault) = None
office_by (Ok file) = file.office

abbrev pub office_in : List ℕ → Option (List ℕ)
office_in text = office_by (file_in text)

-- the clerks whose codes aren't strong, in order
abbrev pub weak_clerks : List CodeEntry → List ℕ
weak_clerks [] = []
weak_clerks (entry ∷ entries) = if is_strong entry.code then weak_clerks entries else entry.clerk ∷ weak_clerks entries

-- the holders of the codes in the given entries
abbrev pub holders_by : List CodeEntry → List Holder
holders_by entries = map (λ (e : CodeEntry). record { clerk = e.clerk; text = credentials_of e.clerk e.code }) entries

-- the credentials of the office for its code, if it has one
abbrev pub office_held : Option (List ℕ) → Option (List ℕ)
office_held code = option_map office_credentials code
