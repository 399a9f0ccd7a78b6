-- The files of a folder have different names.
use Rattle.std.proofs.Common.{◌≡◌, ℕ, ◌+◌, ◌^◌, ◌<◌, ◌≤◌, ◌==◌, Bool, true, false, codes, decimal, List, [], ◌∷◌, ◌++◌, map, drop}
use Rattle.std.proofs.Common.{nat_lt, Option, Some, None, refl, sym, ◌∙◌, ap, append_assoc, arith, subst}
use Rattle.std.specs.Prelude.{bytes_eq}
use Rattle.std.specs.Char.{is_digit}
use Rattle.std.specs.List.{AllByRecursion, IsDistinct, flat_map, take_while}
use Rattle.std.specs.Str.Parse.{AllDigits}
use Rattle.std.proofs.lemmas.Bool.{and_parts, cond-false, cond-true, eqb-false, leb-true, lt-ltb, ltb-true, ne_eqb}
use Rattle.std.proofs.lemmas.Bool.Decides.{not_from_Decides}
use Rattle.std.proofs.lemmas.Fmt.{decimal_injective, decimal_is_IsNumeral}
use Rattle.std.proofs.lemmas.List.{append_cancel_left, map-append}
use Rattle.std.proofs.lemmas.List.Sums.{take_while-cons}
use Rattle.std.proofs.lemmas.Slice.Eq.{bytes_eq-Decides}
use Rattle.publication.specs.CheckPage.{check_page}
use Rattle.publication.specs.Election.{ElectionEntry, WardEntry, are_in_order, ascend_from, numbers}
use Rattle.publication.specs.Files.{FileEntry, file, names}
use Rattle.publication.specs.Folder.{part_file, published, summed_files, ward_files}
use Rattle.publication.specs.Parts.{ballots_part, declaration_part, sheet_part, table_part, ward_file}
use Rattle.publication.specs.Results.{all_results}
use Rattle.publication.specs.Sums.{sums}
use Rattle.sheet.specs.Lines.{joined}

-- ---- lists of different names

is_false : (r : Bool) → (r ≡ true → ⊥) → r ≡ false
is_false true h = absurd (h refl)
is_false false h = refl

-- texts that aren't equal
unequal : (a b : List ℕ) → (a ≡ b → ⊥) → bytes_eq a b ≡ false
unequal a b ne = is_false (bytes_eq a b) (λ e. ne ((bytes_eq-Decides a b).0 e))

all_append : {X : Type 0} (P : X → Type 0) (xs ys : List X) → AllByRecursion P xs → AllByRecursion P ys → AllByRecursion P (xs ++ ys)
all_append P [] ys one two = two
all_append P (x ∷ xs) ys one two = (one.0, all_append P xs ys one.1 two)

all_like : {X : Type 0} (P Q : X → Type 0) → ((x : X) → P x → Q x) → (xs : List X) → AllByRecursion P xs → AllByRecursion Q xs
all_like P Q like [] all = tt
all_like P Q like (x ∷ xs) all = (like x all.0, all_like P Q like xs all.1)

-- no name of a list is in another list
abbrev AreApart : List (List ℕ) → List (List ℕ) → Type 0
AreApart xs ys = AllByRecursion (λ x. AllByRecursion (λ y. bytes_eq x y ≡ false) ys) xs

distinct_append : (xs ys : List (List ℕ)) → IsDistinct bytes_eq xs → IsDistinct bytes_eq ys → AreApart xs ys → IsDistinct bytes_eq (xs ++ ys)
unfolding IsDistinct
distinct_append [] ys one two apart = two
distinct_append (x ∷ xs) ys one two apart = (all_append (λ y. bytes_eq x y ≡ false) xs ys one.0 apart.0, distinct_append xs ys one.1 two apart.1)

-- ---- the number in a name

abbrev is_number_digit : ℕ → Bool
is_number_digit c = is_digit c 10

-- the digits after the first five bytes, which are `ward-`
abbrev number_in : List ℕ → List ℕ
number_in name = take_while is_number_digit (drop 5 name)

digits_first : (ds : List ℕ) (y : ℕ) (zs : List ℕ) → AllDigits 10 ds → is_number_digit y ≡ false → take_while is_number_digit (ds ++ y ∷ zs) ≡ ds
digits_first [] y zs digits ends = take_while-cons is_number_digit y zs ∙ cond-false (is_number_digit y) _ _ ends
digits_first (d ∷ ds) y zs digits ends =
    take_while-cons is_number_digit d (ds ++ y ∷ zs) ∙ cond-true (is_number_digit d) _ _ (lt-ltb _ _ digits.0)
    ∙ ap (λ l. d ∷ l) (digits_first ds y zs digits.1 ends)

-- a name begins with a w, and has the given number
abbrev IsOfWard : ℕ → List ℕ → Type 0
IsOfWard n name = (number_in name ≡ decimal n) × ((rest : List ℕ) × (name ≡ 119 ∷ rest))

of_ward : (n y : ℕ) (ys : List ℕ) → n < 2 ^ 64 → is_number_digit y ≡ false → IsOfWard n (ward_file n (y ∷ ys))
unfolding joined
of_ward n y ys small ends = (digits_first (decimal n) y (ys ++ []) (decimal_is_IsNumeral n small).0.1 ends, (_, refl))

-- names with different numbers
other_number : (n m : ℕ) (a b : List ℕ) → n < 2 ^ 64 → m < 2 ^ 64 → (n == m) ≡ false → IsOfWard n a → IsOfWard m b → bytes_eq a b ≡ false
other_number n m a b small_n small_m ne is_a is_b =
    unequal a b (λ e. eqb-false n m ne (decimal_injective n m small_n small_m (sym is_a.0 ∙ ap number_in e ∙ is_b.0)))

-- names with different endings
other_ending : (n : ℕ) (e f : List ℕ) → bytes_eq (e ++ []) (f ++ []) ≡ false → bytes_eq (ward_file n e) (ward_file n f) ≡ false
unfolding joined
other_ending n e f ne = unequal (ward_file n e) (ward_file n f) (λ same.
    let own : decimal n ++ (e ++ []) ≡ decimal n ++ (f ++ []) = append_cancel_left (codes "ward-") (decimal n ++ (e ++ [])) (decimal n ++ (f ++ [])) same in
    not_from_Decides (bytes_eq (e ++ []) (f ++ [])) (bytes_eq-Decides (e ++ []) (f ++ [])) ne (append_cancel_left (decimal n) (e ++ []) (f ++ []) own))

-- ---- the names of a ward's files

abbrev name_of : FileEntry → List ℕ
name_of file = file.name

abbrev names_with : ℕ → List ℕ → Option (List ℕ) → List ℕ → Option (List ℕ) → List (List ℕ)
names_with n sheet d table b = ward_file n (codes ".html") ∷ map name_of (map (part_file n) (sheet_part sheet ∷ declaration_part d ++ table_part table ∷ ballots_part b))

are_of_ward : (n : ℕ) → n < 2 ^ 64 → (sheet : List ℕ) (d : Option (List ℕ)) (table : List ℕ) (b : Option (List ℕ)) → AllByRecursion (IsOfWard n) (names_with n sheet d table b)
are_of_ward n small sheet d table b = by_cases d b
  where
    page : IsOfWard n (ward_file n (codes ".html"))
    page = of_ward n 46 (codes "html") small refl

    own_sheet : IsOfWard n (ward_file n (codes "-sheet.txt"))
    own_sheet = of_ward n 45 (codes "sheet.txt") small refl

    declaration : IsOfWard n (ward_file n (codes "-declaration.txt"))
    declaration = of_ward n 45 (codes "declaration.txt") small refl

    own_table : IsOfWard n (ward_file n (codes "-table.csv"))
    own_table = of_ward n 45 (codes "table.csv") small refl

    ballots : IsOfWard n (ward_file n (codes "-ballots.txt"))
    ballots = of_ward n 45 (codes "ballots.txt") small refl

    by_cases : (d b : Option (List ℕ)) → AllByRecursion (IsOfWard n) (names_with n sheet d table b)
    by_cases None None = (page, (own_sheet, (own_table, tt)))
    by_cases None (Some y) = (page, (own_sheet, (own_table, (ballots, tt))))
    by_cases (Some x) None = (page, (own_sheet, (declaration, (own_table, tt))))
    by_cases (Some x) (Some y) = (page, (own_sheet, (declaration, (own_table, (ballots, tt)))))

ward_distinct : (n : ℕ) (sheet : List ℕ) (d : Option (List ℕ)) (table : List ℕ) (b : Option (List ℕ)) → IsDistinct bytes_eq (names_with n sheet d table b)
unfolding IsDistinct
ward_distinct n sheet d table b = by_cases d b
  where
    page_sheet : bytes_eq (ward_file n (codes ".html")) (ward_file n (codes "-sheet.txt")) ≡ false
    page_sheet = other_ending n (codes ".html") (codes "-sheet.txt") refl

    page_declaration : bytes_eq (ward_file n (codes ".html")) (ward_file n (codes "-declaration.txt")) ≡ false
    page_declaration = other_ending n (codes ".html") (codes "-declaration.txt") refl

    page_table : bytes_eq (ward_file n (codes ".html")) (ward_file n (codes "-table.csv")) ≡ false
    page_table = other_ending n (codes ".html") (codes "-table.csv") refl

    page_ballots : bytes_eq (ward_file n (codes ".html")) (ward_file n (codes "-ballots.txt")) ≡ false
    page_ballots = other_ending n (codes ".html") (codes "-ballots.txt") refl

    sheet_declaration : bytes_eq (ward_file n (codes "-sheet.txt")) (ward_file n (codes "-declaration.txt")) ≡ false
    sheet_declaration = other_ending n (codes "-sheet.txt") (codes "-declaration.txt") refl

    sheet_table : bytes_eq (ward_file n (codes "-sheet.txt")) (ward_file n (codes "-table.csv")) ≡ false
    sheet_table = other_ending n (codes "-sheet.txt") (codes "-table.csv") refl

    sheet_ballots : bytes_eq (ward_file n (codes "-sheet.txt")) (ward_file n (codes "-ballots.txt")) ≡ false
    sheet_ballots = other_ending n (codes "-sheet.txt") (codes "-ballots.txt") refl

    declaration_table : bytes_eq (ward_file n (codes "-declaration.txt")) (ward_file n (codes "-table.csv")) ≡ false
    declaration_table = other_ending n (codes "-declaration.txt") (codes "-table.csv") refl

    declaration_ballots : bytes_eq (ward_file n (codes "-declaration.txt")) (ward_file n (codes "-ballots.txt")) ≡ false
    declaration_ballots = other_ending n (codes "-declaration.txt") (codes "-ballots.txt") refl

    table_ballots : bytes_eq (ward_file n (codes "-table.csv")) (ward_file n (codes "-ballots.txt")) ≡ false
    table_ballots = other_ending n (codes "-table.csv") (codes "-ballots.txt") refl

    by_cases : (d b : Option (List ℕ)) → IsDistinct bytes_eq (names_with n sheet d table b)
    by_cases None None = ((page_sheet, (page_table, tt)), ((sheet_table, tt), (tt, tt)))
    by_cases None (Some y) = ((page_sheet, (page_table, (page_ballots, tt))), ((sheet_table, (sheet_ballots, tt)), ((table_ballots, tt), (tt, tt))))
    by_cases (Some x) None =
        ((page_sheet, (page_declaration, (page_table, tt))), ((sheet_declaration, (sheet_table, tt)), ((declaration_table, tt), (tt, tt))))
    by_cases (Some x) (Some y) = (
      (page_sheet, (page_declaration, (page_table, (page_ballots, tt)))),
      ((sheet_declaration, (sheet_table, (sheet_ballots, tt))), ((declaration_table, (declaration_ballots, tt)), ((table_ballots, tt), (tt, tt)))),
    )

-- ---- the names of all files

abbrev IsSmall : WardEntry → Type 0
IsSmall ward = ward.number < 2 ^ 64

-- the names of the files of wards
abbrev ward_names : List WardEntry → List (List ℕ)
ward_names wards = map name_of (flat_map ward_files wards)

-- a name of one ward's file isn't that of a file of the others
apart_from : (n : ℕ) (a : List ℕ) → n < 2 ^ 64 → IsOfWard n a → (wards : List WardEntry) → AllByRecursion IsSmall wards →
    AllByRecursion (λ m. (n == m) ≡ false) (numbers wards) → AllByRecursion (λ b. bytes_eq a b ≡ false) (ward_names wards)
apart_from n a small is [] smalls others = tt
apart_from n a small is (ward ∷ wards) smalls others =
    let own = all_like (IsOfWard ward.number) (λ b. bytes_eq a b ≡ false) (λ b is_b. other_number n ward.number a b small smalls.0 others.0 is is_b) (map name_of (ward_files ward))
    (are_of_ward ward.number smalls.0 ward.sheet ward.declaration ward.table ward.ballots) in
    subst (AllByRecursion (λ b. bytes_eq a b ≡ false)) (sym (map-append name_of (ward_files ward) (flat_map ward_files wards)))
    (all_append (λ b. bytes_eq a b ≡ false) (map name_of (ward_files ward)) (ward_names wards) own (apart_from n a small is wards smalls.1 others.1))

wards_distinct : (wards : List WardEntry) → AllByRecursion IsSmall wards → IsDistinct (λ n m. n == m) (numbers wards) → IsDistinct bytes_eq (ward_names wards)
unfolding IsDistinct
wards_distinct [] smalls others = tt
wards_distinct (ward ∷ wards) smalls others =
    let own = are_of_ward ward.number smalls.0 ward.sheet ward.declaration ward.table ward.ballots in
    let apart = all_like (IsOfWard ward.number) (λ a. AllByRecursion (λ b. bytes_eq a b ≡ false) (ward_names wards))
    (λ a is. apart_from ward.number a smalls.0 is wards smalls.1 others.0) (map name_of (ward_files ward)) own in
    subst (IsDistinct bytes_eq) (sym (map-append name_of (ward_files ward) (flat_map ward_files wards)))
    (distinct_append (map name_of (ward_files ward)) (ward_names wards) (ward_distinct ward.number ward.sheet ward.declaration ward.table ward.ballots)
    (wards_distinct wards smalls.1 others.1) apart)

-- a name that begins with a w
abbrev BeginsAsWard : List ℕ → Type 0
BeginsAsWard name = (rest : List ℕ) × (name ≡ 119 ∷ rest)

wards_begin : (wards : List WardEntry) → AllByRecursion IsSmall wards → AllByRecursion BeginsAsWard (ward_names wards)
wards_begin [] smalls = tt
wards_begin (ward ∷ wards) smalls =
    let own = all_like (IsOfWard ward.number) BeginsAsWard (λ a is. is.1) (map name_of (ward_files ward))
    (are_of_ward ward.number smalls.0 ward.sheet ward.declaration ward.table ward.ballots) in
    subst (AllByRecursion BeginsAsWard) (sym (map-append name_of (ward_files ward) (flat_map ward_files wards)))
    (all_append BeginsAsWard (map name_of (ward_files ward)) (ward_names wards) own (wards_begin wards smalls.1))

-- the names of the files that aren't of a ward
abbrev last_names : List (List ℕ)
last_names = codes "results.json" ∷ codes "check.html" ∷ codes "SHA256SUMS" ∷ []

last_distinct : IsDistinct bytes_eq last_names
unfolding IsDistinct
last_distinct = ((refl, (refl, tt)), ((refl, tt), (tt, tt)))

before_last : (a : List ℕ) → BeginsAsWard a → AllByRecursion (λ b. bytes_eq a b ≡ false) last_names
before_last a is = subst (λ name. AllByRecursion (λ b. bytes_eq name b ≡ false) last_names) (sym is.1) (refl, (refl, (refl, tt)))

after_index : (b : List ℕ) → BeginsAsWard b → bytes_eq (codes "index.html") b ≡ false
after_index b is = subst (λ name. bytes_eq (codes "index.html") name ≡ false) (sym is.1) refl

names_whole : (election : ElectionEntry) → names (published election) ≡ codes "index.html" ∷ (ward_names election.wards ++ last_names)
names_whole election =
    let wards = flat_map ward_files election.wards in
    let two = file (codes "results.json") (all_results election) ∷ file (codes "check.html") (check_page election.title) ∷ [] in
    let sum = file (codes "SHA256SUMS") (sums (summed_files election)) ∷ [] in
    ap (λ l. codes "index.html" ∷ l) (
    map-append name_of (wards ++ two) sum
    ∙ ap (λ l. l ++ codes "SHA256SUMS" ∷ []) (map-append name_of wards two)
    ∙ append_assoc (ward_names election.wards) (codes "results.json" ∷ codes "check.html" ∷ []) (codes "SHA256SUMS" ∷ []))

-- the names of all files
all_distinct : (election : ElectionEntry) → AllByRecursion IsSmall election.wards → IsDistinct (λ n m. n == m) (numbers election.wards) →
    IsDistinct bytes_eq (names (published election))
unfolding IsDistinct
all_distinct election smalls others =
    let wards = ward_names election.wards in
    let begin = wards_begin election.wards smalls in
    let first = all_append (λ b. bytes_eq (codes "index.html") b ≡ false) wards last_names
    (all_like BeginsAsWard (λ b. bytes_eq (codes "index.html") b ≡ false) after_index wards begin) (refl, (refl, (refl, tt))) in
    let rest = distinct_append wards last_names (wards_distinct election.wards smalls others) last_distinct
    (all_like BeginsAsWard (λ a. AllByRecursion (λ b. bytes_eq a b ≡ false) last_names) before_last wards begin) in
    subst (IsDistinct bytes_eq) (sym (names_whole election)) (first, rest)

-- ---- wards in order

numbers_small : (least : ℕ) (wards : List WardEntry) → ascend_from least (numbers wards) ≡ true → AllByRecursion IsSmall wards
numbers_small least [] e = tt
numbers_small least (ward ∷ wards) e =
    let p = and_parts _ _ e in
    let q = and_parts _ _ p.1 in
    let small : ward.number < 256 = ltb-true _ _ q.0 in
    (omega (arith, small), numbers_small (ward.number + 1) wards q.1)

-- a number below the least one isn't among them
later_differ : (n least : ℕ) (ns : List ℕ) → n < least → ascend_from least ns ≡ true → AllByRecursion (λ m. (n == m) ≡ false) ns
later_differ n least [] below e = tt
later_differ n least (m ∷ ms) below e =
    let p = and_parts _ _ e in
    let q = and_parts _ _ p.1 in
    let from : least ≤ m = leb-true _ _ p.0 in
    (ne_eqb n m (λ same. omega (arith, same, from, below)), later_differ n (m + 1) ms (omega (arith, from, below)) q.1)

numbers_distinct : (least : ℕ) (ns : List ℕ) → ascend_from least ns ≡ true → IsDistinct (λ n m. n == m) ns
unfolding IsDistinct
numbers_distinct least [] e = tt
numbers_distinct least (n ∷ ns) e =
    let p = and_parts _ _ e in
    let q = and_parts _ _ p.1 in
    (later_differ n (n + 1) ns (omega arith) q.1, numbers_distinct (n + 1) ns q.1)

-- the names of all files, if the wards are in order
pub names_distinct : (election : ElectionEntry) → are_in_order election.wards ≡ true → IsDistinct bytes_eq (names (published election))
names_distinct election e = all_distinct election (numbers_small 0 election.wards e) (numbers_distinct 0 (numbers election.wards) e)
