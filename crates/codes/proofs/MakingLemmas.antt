-- A new file that was read back.
use Rattle.std.proofs.Common.{◌≡◌, ◌+◌, ◌==◌, Bool, true, false, List, [], ◌∷◌, Ok, Option, None, Some, Err, Result, ap, arith, length, refl, ℕ}
use Rattle.std.specs.Prelude.{bytes_eq}
use Rattle.std.specs.List.{list_all, list_any}
use Rattle.std.proofs.lemmas.Bool.{and_parts}
use Rattle.std.proofs.lemmas.Slice.Eq.{bytes_eq-Decides}
use Rattle.codes.specs.Files.{CodeEntry, FileEntry, clerks_by, file_in, office_by}
use Rattle.codes.specs.Making.{IsMadeFor, IsMadeWithOffice, are_from, clerks_of, is_file_for, is_made, is_made_at, is_made_for_office}
use Rattle.codes.specs.declared.fault.CodesFault.{CodesFault}
use Rattle.codes.specs.declared.range.ClerkRange.{ClerkRange}
use Rattle.codes.proofs.NumberLemmas.{from_numbers, same_number}

-- ---- no clerk has a code as long as the office's

pub not_true : (b : Bool) → (b ≡ true → ⊥) → b ≡ false
not_true true is = absurd (is refl)
not_true false is = refl

unlike : (a b : List ℕ) → length a ≡ 14 → length b ≡ 19 → bytes_eq a b ≡ false
unlike a b short long =
    not_true (bytes_eq a b)
    (λ same.
    let lengths : length a ≡ length b = ap (λ (xs : List ℕ). length xs) ((bytes_eq-Decides a b).0 same) in
    omega (arith, short, long, lengths))

clerks_apart : (code : List ℕ) (entries : List CodeEntry) → length code ≡ 19 → list_all (λ (e : CodeEntry). is_made e.code) entries ≡ true
    → list_any (λ (e : CodeEntry). bytes_eq e.code code) entries ≡ false
clerks_apart code [] long made = refl
clerks_apart code (e ∷ entries) long made =
    let parts = and_parts (is_made e.code) (list_all (λ (f : CodeEntry). is_made f.code) entries) made in
    let short : length e.code ≡ 14 = same_number (length e.code) 14 (and_parts (length e.code == 14) _ parts.0).0 in
    rw (unlike e.code code short long) (clerks_apart code entries long parts.1)

-- ---- what it means for a file to pass the test

-- a text that passes the test is a codes file for the given clerks,
of_clerks : (clerks : ClerkRange) (office : Bool) (text : List ℕ) (file : FileEntry) → file_in text ≡ Ok file
    → is_file_for clerks office (Ok file) ≡ true → IsMadeFor (clerks_of clerks) text
of_clerks clerks office text file same is =
    let parts = and_parts (are_from clerks.first (clerks.last + 1) file.clerks) _ is in
    record {
      entries = file.clerks;
      is = ap clerks_by same;
      each = from_numbers clerks.first (clerks.last + 1) file.clerks parts.0;
      made = (and_parts (list_all (λ (e : CodeEntry). is_made e.code) file.clerks) (is_made_at office file.office) parts.1).0;
    }

read_for : (clerks : ClerkRange) (office : Bool) (text : List ℕ) (found : Result FileEntry CodesFault)
    → file_in text ≡ found → is_file_for clerks office found ≡ true → IsMadeFor (clerks_of clerks) text
read_for clerks office text (Err fault) same is = let no : false ≡ true = is in absurd (cc)
read_for clerks office text (Ok file) same is = of_clerks clerks office text file same is

pub file_for : (clerks : ClerkRange) (office : Bool) (text : List ℕ) → is_file_for clerks office (file_in text) ≡ true → IsMadeFor (clerks_of clerks) text
file_for clerks office text is = read_for clerks office text (file_in text) refl is

-- and also for the office, if a code was made for it
with_code : (clerks : ClerkRange) (text : List ℕ) (entries : List CodeEntry) (office : Option (List ℕ)) → file_in text ≡ Ok (record { clerks = entries; office = office })
    → is_file_for clerks true (Ok (record { clerks = entries; office = office })) ≡ true → IsMadeWithOffice (clerks_of clerks) text
unfolding of_clerks
with_code clerks text entries None same is =
    let parts = and_parts (are_from clerks.first (clerks.last + 1) entries) _ is in
    let no : false ≡ true = (and_parts (list_all (λ (e : CodeEntry). is_made e.code) entries) false parts.1).1 in
    absurd (cc)
with_code clerks text entries (Some code) same is =
    let parts = and_parts (are_from clerks.first (clerks.last + 1) entries) _ is in
    let others = and_parts (list_all (λ (e : CodeEntry). is_made e.code) entries) (is_made_for_office code) parts.1 in
    let long : length code ≡ 19 = same_number (length code) 19 (and_parts (length code == 19) _ others.1).0 in
    record {
      of_clerks = of_clerks clerks true text (record { clerks = entries; office = Some code }) same is;
      code = code;
      is = ap office_by same;
      made = others.1;
      own = clerks_apart code entries long others.0;
    }

read_with : (clerks : ClerkRange) (text : List ℕ) (found : Result FileEntry CodesFault)
    → file_in text ≡ found → is_file_for clerks true found ≡ true → IsMadeWithOffice (clerks_of clerks) text
read_with clerks text (Err fault) same is = let no : false ≡ true = is in absurd (cc)
read_with clerks text (Ok file) same is = with_code clerks text file.clerks file.office same is

pub file_with_office : (clerks : ClerkRange) (text : List ℕ) → is_file_for clerks true (file_in text) ≡ true → IsMadeWithOffice (clerks_of clerks) text
file_with_office clerks text is = read_with clerks text (file_in text) refl is
