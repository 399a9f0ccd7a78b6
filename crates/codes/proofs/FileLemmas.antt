-- Lines that follow others, and files without a line for the office.
use Rattle.std.proofs.Common.{◌≡◌, ◌∙◌, ◌==◌, ◌+◌, ◌++◌, ◌∷◌, ◌||◌, Bool, true, false, List, [], ℕ}
use Rattle.std.proofs.Common.{Err, None, Ok, Result, ap, if◌then◌else◌, length, map, refl, sym}
use Rattle.std.specs.Prelude.{bytes_eq}
use Rattle.std.specs.List.{list_any}
use Rattle.codes.specs.Files.{CodeEntry, FileEntry, clerks_by, code_entry, codes_in, entry_behind, entry_in, file_by, file_from, has_code, is_office_line, lines_from}
use Rattle.codes.specs.Files.{office_by, office_in, with_clerk, with_line, without_return}
use Rattle.codes.specs.declared.fault.CodeFlaw.{CodeFlaw}
use Rattle.codes.specs.declared.fault.CodeFlaw.TheVariants.{ClerkTwice, CodeTwice}
use Rattle.codes.specs.declared.fault.CodesFault.{CodesFault}
use Rattle.codes.specs.declared.fault.CodesFault.TheVariants as fault
use Rattle.codes.specs.declared.reading.CodeLine.{CodeLine}

-- ---- a clerk's line that follows others

-- the outcome of searching the lines for a clerk is the same for equal lines
pub clerk_among : (lines before : List CodeLine) (clerk : ℕ) (found b : Bool) → lines ≡ before
    → found ≡ list_any (λ (other : CodeEntry). other.clerk == clerk) (map code_entry lines) → found ≡ b
    → list_any (λ (other : CodeEntry). other.clerk == clerk) (map code_entry before) ≡ b
clerk_among lines before clerk found b same is test =
    ap (λ (ls : List CodeLine). list_any (λ (other : CodeEntry). other.clerk == clerk) (map code_entry ls)) (sym same) ∙ sym is ∙ test

pub clerk_twice : (before : FileEntry) (entry : CodeEntry) (read : Result CodeEntry CodeFlaw) → read ≡ Ok entry
    → list_any (λ (other : CodeEntry). other.clerk == entry.clerk) before.clerks ≡ true → entry_behind before read ≡ Err ClerkTwice
clerk_twice before entry read is there = rw (is, there) refl

pub code_twice : (before : FileEntry) (entry : CodeEntry) (read : Result CodeEntry CodeFlaw) → read ≡ Ok entry
    → list_any (λ (other : CodeEntry). other.clerk == entry.clerk) before.clerks ≡ false → has_code before entry.code ≡ true → entry_behind before read ≡ Err CodeTwice
code_twice before entry read is new there = rw (is, new, there) refl

pub clerk_once : (before : FileEntry) (entry : CodeEntry) (read : Result CodeEntry CodeFlaw) → read ≡ Ok entry
    → list_any (λ (other : CodeEntry). other.clerk == entry.clerk) before.clerks ≡ false → has_code before entry.code ≡ false → entry_behind before read ≡ Ok entry
clerk_once before entry read is new own = rw (is, new, own) refl

-- ---- a file without a line for the office

-- a clerk's entry that follows others, none of which has the same clerk or code
abbrev alone_behind : List CodeEntry → Result CodeEntry CodeFlaw → Result CodeEntry CodeFlaw
alone_behind before (Err flaw) = Err flaw
alone_behind before (Ok entry) =
    if list_any (λ other. other.clerk == entry.clerk) before then Err ClerkTwice else
    (if list_any (λ other. bytes_eq other.code entry.code) before then Err CodeTwice else Ok entry)

abbrev alone_by : (List CodeEntry → Result (List CodeEntry) CodesFault) → ℕ → List CodeEntry → Result CodeEntry CodeFlaw → Result (List CodeEntry) CodesFault
alone_by others number before (Err flaw) = Err (fault.Line number flaw)
alone_by others number before (Ok entry) = others (before ++ entry ∷ [])

-- the entries in clerks' lines
abbrev alone_from : ℕ → List CodeEntry → List (List ℕ) → Result (List CodeEntry) CodesFault
alone_from number before [] = Ok before
alone_from number before (line ∷ lines) =
    if length (without_return line) == 0 then alone_from (number + 1) before lines else
    alone_by (λ all. alone_from (number + 1) all lines) number before (alone_behind before (entry_in (without_return line)))

-- the codes of clerks, without one for the office
abbrev clerks_alone : List CodeEntry → FileEntry
clerks_alone entries = record { clerks = entries; office = None }

abbrev file_alone : Result (List CodeEntry) CodesFault → Result FileEntry CodesFault
file_alone (Err fault) = Err fault
file_alone (Ok entries) = Ok (clerks_alone entries)

or_parts : (a b : Bool) → (a || b) ≡ false → (a ≡ false) × (b ≡ false)
or_parts true b is = let no : true ≡ false = is in absurd (cc)
or_parts false b is = (refl, is)

none_more : (b : Bool) → (b || false) ≡ b
none_more true = refl
none_more false = refl

behind_alone : (before : List CodeEntry) (read : Result CodeEntry CodeFlaw) → entry_behind (clerks_alone before) read ≡ alone_behind before read
behind_alone before (Err flaw) = refl
behind_alone before (Ok entry) = rw (none_more (list_any (λ (other : CodeEntry). bytes_eq other.code entry.code) before)) refl

by_alone : (others : FileEntry → Result FileEntry CodesFault) (alone : List CodeEntry → Result (List CodeEntry) CodesFault)
    (number : ℕ) (before : List CodeEntry) (found : Result CodeEntry CodeFlaw)
    → ((all : List CodeEntry) → others (clerks_alone all) ≡ file_alone (alone all))
    → file_by others number (with_clerk (clerks_alone before) found) ≡ file_alone (alone_by alone number before found)
by_alone others alone number before (Err flaw) more = refl
by_alone others alone number before (Ok entry) more = more (before ++ entry ∷ [])

line_alone : (skipped : Bool) (others : FileEntry → Result FileEntry CodesFault) (alone : List CodeEntry → Result (List CodeEntry) CodesFault)
    (number : ℕ) (before : List CodeEntry) (line : List ℕ)
    → is_office_line line ≡ false → ((all : List CodeEntry) → others (clerks_alone all) ≡ file_alone (alone all))
    → (if skipped then others (clerks_alone before) else file_by others number (with_line (clerks_alone before) line))
    ≡ file_alone (if skipped then alone before else alone_by alone number before (alone_behind before (entry_in line)))
line_alone true others alone number before line other more = more before
line_alone false others alone number before line other more =
    rw (other, behind_alone before (entry_in line)) (by_alone others alone number before (alone_behind before (entry_in line)) more)

lines_alone : (number : ℕ) (before : List CodeEntry) (lines : List (List ℕ)) → list_any (λ (line : List ℕ). is_office_line (without_return line)) lines ≡ false
    → file_from number (clerks_alone before) lines ≡ file_alone (alone_from number before lines)
lines_alone number before [] none = refl
lines_alone number before (line ∷ lines) none =
    let parts = or_parts (is_office_line (without_return line)) (list_any (λ (l : List ℕ). is_office_line (without_return l)) lines) none in
    line_alone (length (without_return line) == 0) (λ all. file_from (number + 1) all lines) (λ all. alone_from (number + 1) all lines) number before (without_return line) parts.0
    (λ all. lines_alone (number + 1) all lines parts.1)

clerks_of_alone : (found : Result (List CodeEntry) CodesFault) → clerks_by (file_alone found) ≡ found
clerks_of_alone (Err fault) = refl
clerks_of_alone (Ok entries) = refl

office_of_alone : (found : Result (List CodeEntry) CodesFault) → office_by (file_alone found) ≡ None
office_of_alone (Err fault) = refl
office_of_alone (Ok entries) = refl

-- without a line for the office, a file contains exactly what its clerks' lines contain on their own, and has the same first invalid line; and the office has no
-- code
pub text_alone : (text : List ℕ) → list_any (λ (line : List ℕ). is_office_line (without_return line)) (lines_from [] text) ≡ false
    → (codes_in text ≡ alone_from 1 [] (lines_from [] text)) × (office_in text ≡ None)
text_alone text none =
    let alone = lines_alone 1 [] (lines_from [] text) none in
    (ap clerks_by alone ∙ clerks_of_alone (alone_from 1 [] (lines_from [] text)), ap office_by alone ∙ office_of_alone (alone_from 1 [] (lines_from [] text)))
