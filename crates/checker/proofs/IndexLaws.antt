-- The page of all wards, read back.
use Rattle.std.proofs.Common.{◌≡◌, ◌∙◌, ℕ, ◌≤◌, Bool, true, false, List, [], ◌∷◌, ◌++◌, length, map}
use Rattle.std.proofs.Common.{refl, sym, ap, arith, append_assoc, Ok, Some}
use Rattle.std.specs.Prelude.{◌==◌, codes, if◌then◌else◌}
use Rattle.std.specs.Fmt.{decimal}
use Rattle.std.specs.List.{AllByRecursion, flat_map, range_with_len}
use Rattle.std.specs.Option.{option_map}
use Rattle.std.proofs.lemmas.Bool.{eqb-false, ne_eqb}
use Rattle.sheet.specs.Index.{ListedEntry, elected_name, empty_in, index_heads, index_opening, index_row, row_opening, standing_words}
use Rattle.sheet.specs.Lines.{line, named, plain}
use Rattle.sheet.specs.Look.{style}
use Rattle.sheet.specs.Page.{empty_seat, empty_seats, title_line, title_mark}
use Rattle.sheet.specs.declared.index.WardStanding.{WardStanding}
use Rattle.sheet.specs.declared.index.WardStanding.TheVariants.{Nominations, Keying, Sealed, Declared}
use Rattle.checker.specs.FolderWards.{row_listed}
use Rattle.checker.specs.IndexPage.{behind_first, field, page_in, row_at, row_with, rows_in, standing_at, title_in, until, with_row}
use Rattle.checker.specs.Numbers.{number_in}
use Rattle.checker.specs.Tokens.{Text}
use Rattle.checker.proofs.LackLaws.{Lacks, field_back, number_lacks, plain_lacks, until_there}
use Rattle.checker.proofs.NumberLaws.{number_back}

-- ---- what is passed over before a row

-- a text in which no row and no end of the rows begins, whatever follows it
abbrev pub Passes : Text → Type 0
Passes xs = (rest : Text) → rows_in (xs ++ rest) ≡ rows_in rest

passes-nothing : Passes []
passes-nothing rest = refl

passes-append : (xs ys : Text) → Passes xs → Passes ys → Passes (xs ++ ys)
passes-append xs ys a b rest = ap rows_in (append_assoc xs ys rest) ∙ (a (ys ++ rest) ∙ b rest)

passes_lacking : (xs : Text) → Lacks 60 xs → Passes xs
passes_lacking [] none rest = refl
passes_lacking (x ∷ xs) none rest =
    let other : (60 == x) ≡ false = ne_eqb 60 x (λ e. eqb-false x 60 none.0 (sym e)) in
    rw other (passes_lacking xs none.1 rest)

passes_parts : (parts : List Text) → AllByRecursion Passes parts → Passes (flat_map (λ part. part) parts)
passes_parts [] all = passes-nothing
passes_parts (part ∷ parts) all = passes-append part (flat_map (λ part. part) parts) all.0 (passes_parts parts all.1)

newline_passes : Passes (codes "\n")
newline_passes rest = refl

passes_line : (parts : List Text) → AllByRecursion Passes parts → Passes (line parts)
unfolding line
passes_line parts all = passes-append (flat_map (λ part. part) parts) (codes "\n") (passes_parts parts all) newline_passes

passes_each : {X : Type 0} (f : X → Text) → ((x : X) → Passes (f x)) → (xs : List X) → Passes (flat_map f xs)
passes_each f all [] = passes-nothing
passes_each f all (x ∷ xs) = passes-append (f x) (flat_map f xs) (all x) (passes_each f all xs)

number_passes : (n : ℕ) → Passes (decimal n)
number_passes n = passes_lacking (decimal n) (number_lacks 60 n (λ low high. omega (arith, high)))

plain_passes : (text : Text) → Passes (plain text)
plain_passes text = passes_lacking (plain text) (plain_lacks text)

named_passes : (n : ℕ) (name : Text) → Passes (named n name)
named_passes n name =
    passes-append (decimal n ++ codes " <bdi>" ++ plain name) (codes "</bdi>")
    (passes-append (decimal n ++ codes " <bdi>") (plain name) (passes-append (decimal n) (codes " <bdi>") (number_passes n) (λ rest. refl)) (plain_passes name)) (λ rest. refl)

-- ---- the row of a ward

line_split : (part : Text) (parts : List Text) (rest : Text) → line (part ∷ parts) ++ rest ≡ part ++ (line parts ++ rest)
unfolding line
line_split part parts rest =
    ap (λ t. t ++ rest) (append_assoc part (flat_map (λ p. p) parts) (codes "\n")) ∙ append_assoc part (flat_map (λ p. p) parts ++ codes "\n") rest

named_split : (n : ℕ) (name rest : Text) → named n name ++ rest ≡ decimal n ++ (codes " <bdi>" ++ (plain name ++ (codes "</bdi>" ++ rest)))
named_split n name rest =
    append_assoc (decimal n ++ codes " <bdi>" ++ plain name) (codes "</bdi>") rest
    ∙ (append_assoc (decimal n ++ codes " <bdi>") (plain name) (codes "</bdi>" ++ rest)
    ∙ append_assoc (decimal n) (codes " <bdi>") (plain name ++ (codes "</bdi>" ++ rest)))

-- a row from its number on, followed by a text
abbrev row_text : ListedEntry → Text → Text
row_text e after =
    decimal e.number ++ (codes " <bdi>" ++ (plain e.name ++ (codes "</bdi></th><td>" ++ (decimal e.seats ++ (codes "</td><td>" ++ (standing_words e.standing e.is_contested ++ after))))))

-- what follows the status in a row, and a text after it
abbrev row_end : ListedEntry → Text → Text
row_end e rest =
    line (codes "</td><td>\n<ul>" ∷ []) ++ (flat_map elected_name e.elected ++ (empty_seats (empty_in e.standing e.seats (length e.elected)) ++ (line (codes "</ul>\n</td></tr>" ∷ []) ++ rest)))

abbrev after_status : List Text
after_status = codes "</td><td>\n<ul>" ∷ []

abbrev status_on : ListedEntry → List Text
status_on e = standing_words e.standing e.is_contested ∷ after_status

abbrev after_seats : ListedEntry → List Text
after_seats e = codes "</td><td>" ∷ status_on e

abbrev seats_on : ListedEntry → List Text
seats_on e = decimal e.seats ∷ after_seats e

abbrev after_name : ListedEntry → List Text
after_name e = codes "</th><td>" ∷ seats_on e

opening_split : (e : ListedEntry) (rest : Text) → row_opening e ++ rest ≡ codes "<tr><th scope=\"row\">" ++ row_text e (line (codes "</td><td>\n<ul>" ∷ []) ++ rest)
opening_split e rest =
    line_split (codes "<tr><th scope=\"row\">") (named e.number e.name ∷ after_name e) rest
    ∙ ap (λ t. codes "<tr><th scope=\"row\">" ++ t)
    (line_split (named e.number e.name) (after_name e) rest
    ∙ (ap (λ t. named e.number e.name ++ t)
    (line_split (codes "</th><td>") (seats_on e) rest
    ∙ ap (λ t. codes "</th><td>" ++ t)
    (line_split (decimal e.seats) (after_seats e) rest
    ∙ ap (λ t. decimal e.seats ++ t)
    (line_split (codes "</td><td>") (status_on e) rest
    ∙ ap (λ t. codes "</td><td>" ++ t) (line_split (standing_words e.standing e.is_contested) after_status rest))))
    ∙ named_split e.number e.name (codes "</th><td>" ++ (decimal e.seats ++ (codes "</td><td>" ++ (standing_words e.standing e.is_contested ++ (line after_status ++ rest)))))))

row_split : (e : ListedEntry) (rest : Text) → index_row e ++ rest ≡ codes "<tr><th scope=\"row\">" ++ row_text e (row_end e rest)
row_split e rest =
    let a = flat_map elected_name e.elected in
    let b = empty_seats (empty_in e.standing e.seats (length e.elected)) in
    let c = line (codes "</ul>\n</td></tr>" ∷ []) in
    append_assoc (row_opening e ++ a ++ b) c rest ∙ (append_assoc (row_opening e ++ a) b (c ++ rest) ∙ (append_assoc (row_opening e) a (b ++ (c ++ rest)) ∙ opening_split e (a ++ (b ++ (c ++ rest)))))

words_read : (standing : WardStanding) (contested : Bool) (rest : Text) → standing_at (standing_words standing contested ++ rest) ≡ Some standing
words_read Nominations contested rest = refl
words_read Keying contested rest = refl
words_read Sealed true rest = refl
words_read Sealed false rest = refl
words_read Declared true rest = refl
words_read Declared false rest = refl

words_pass : (standing : WardStanding) (contested : Bool) → Passes (standing_words standing contested)
words_pass Nominations contested rest = refl
words_pass Keying contested rest = refl
words_pass Sealed true rest = refl
words_pass Sealed false rest = refl
words_pass Declared true rest = refl
words_pass Declared false rest = refl

row_by : (text number name seats after others rest : Text) → field 32 (codes " <bdi>") text ≡ Some (number, others) → field 60 (codes "</bdi></th><td>") others ≡ Some (name, rest)
    → field 60 (codes "</td><td>") rest ≡ Some (seats, after) → row_at text ≡ row_with number name seats after
row_by text number name seats after others rest first second third =
    rw first (rw second (rw third refl))

with_by : (number name seats after : Text) (n : ℕ) (standing : WardStanding) → number_in 255 number ≡ Ok n → standing_at after ≡ Some standing
    → row_with number name seats after ≡ Some (record { number = n; name = name; seats = seats; standing = standing })
with_by number name seats after n standing is says = rw is (rw says refl)

row_back : (e : ListedEntry) (after : Text) → e.number ≤ 255 → row_at (row_text e after) ≡ Some (row_listed e)
row_back e after few =
    let words = standing_words e.standing e.is_contested ++ after in
    let seats = decimal e.seats ++ (codes "</td><td>" ++ words) in
    let name = plain e.name ++ (codes "</bdi></th><td>" ++ seats) in
    row_by (row_text e after) (decimal e.number) (plain e.name) (decimal e.seats) words name seats
    (field_back 32 (decimal e.number) (codes "<bdi>") name (number_lacks 32 e.number (λ low high. omega (arith, low))) (refl, (refl, (refl, (refl, (refl, (refl, tt)))))))
    (field_back 60 (plain e.name) (codes "/bdi></th><td>") seats (plain_lacks e.name)
    (refl, (refl, (refl, (refl, (refl, (refl, (refl, (refl, (refl, (refl, (refl, (refl, (refl, (refl, (refl, tt))))))))))))))))
    (field_back 60 (decimal e.seats) (codes "/td><td>") words (number_lacks 60 e.seats (λ low high. omega (arith, high))) (refl, (refl, (refl, (refl, (refl, (refl, (refl, (refl, (refl, tt))))))))))
    ∙ with_by (decimal e.number) (plain e.name) (decimal e.seats) words e.number e.standing (number_back 255 e.number (omega arith) few) (words_read e.standing e.is_contested after)

name_passes : (candidate : ℕ × Text) → Passes (elected_name candidate)
name_passes candidate = passes_line (codes "<li>" ∷ named candidate.0 candidate.1 ∷ codes "</li>" ∷ []) ((λ rest. refl), (named_passes candidate.0 candidate.1, ((λ rest. refl), tt)))

seat_passes : (k : ℕ) → Passes empty_seat
seat_passes k = passes_line (codes "<li class=\"empty\">empty seat</li>" ∷ []) ((λ rest. refl), tt)

row_passes : (e : ListedEntry) (rest : Text) → rows_in (row_text e (row_end e rest)) ≡ rows_in rest
row_passes e rest =
    let left = range_with_len 0 (empty_in e.standing e.seats (length e.elected)) in
    let d = line (codes "</ul>\n</td></tr>" ∷ []) ++ rest in
    let c = flat_map (λ (k : ℕ). empty_seat) left ++ d in
    let b = flat_map elected_name e.elected ++ c in
    let a = line (codes "</td><td>\n<ul>" ∷ []) ++ b in
    number_passes e.number _ ∙ (plain_passes e.name _ ∙ (number_passes e.seats _ ∙ (words_pass e.standing e.is_contested a
    ∙ (passes_line (codes "</td><td>\n<ul>" ∷ []) ((λ rest. refl), tt) b
    ∙ (passes_each elected_name name_passes e.elected c ∙ (passes_each (λ k. empty_seat) seat_passes left d
    ∙ passes_line (codes "</ul>\n</td></tr>" ∷ []) ((λ rest. refl), tt) rest))))))

row_reads : (e : ListedEntry) (rest : Text) → e.number ≤ 255 → rows_in (index_row e ++ rest) ≡ with_row (Some (row_listed e)) (rows_in rest)
row_reads e rest few =
    let text = row_text e (row_end e rest) in
    let begun : rows_in (codes "<tr><th scope=\"row\">" ++ text) ≡ with_row (row_at text) (rows_in text) = refl in
    ap rows_in (row_split e rest) ∙ (begun ∙ (ap (λ r. with_row r (rows_in text)) (row_back e (row_end e rest) few) ∙ ap (with_row (Some (row_listed e))) (row_passes e rest)))

rows_read : (es : List ListedEntry) (rest : Text) → AllByRecursion (λ (e : ListedEntry). e.number ≤ 255) es → rows_in (flat_map index_row es ++ (codes "</tbody>" ++ rest)) ≡ Some (map row_listed es)
rows_read [] rest few = refl
rows_read (e ∷ es) rest few =
    ap rows_in (append_assoc (index_row e) (flat_map index_row es) (codes "</tbody>" ++ rest))
    ∙ (row_reads e (flat_map index_row es ++ (codes "</tbody>" ++ rest)) few.0 ∙ ap (with_row (Some (row_listed e))) (rows_read es rest few.1))

-- ---- the page

style_passes : Passes style
unfolding style
style_passes rest = refl

mark_passes : (title : Text) → Passes (title_mark title)
mark_passes title = by (length title == 0)
  where
    by : (b : Bool) → Passes (if b then [] else codes ", ")
    by true rest = refl
    by false rest = refl

abbrev before_title : Text
before_title = codes "<!DOCTYPE html>\n<html lang=\"en\">\n<head>\n<meta charset=\"utf-8\">\n<meta name=\"viewport\" content=\"width=device-width, initial-scale=1\">\n<title>Wards"

abbrev before_shown : Text
before_shown = codes "</style>\n</head>\n<body class=\"wards\">\n<p class=\"running\" aria-hidden=\"true\"><span>Wards</span> <bdi>"

-- the parts of the page's first line, from the style on, and from the title in its head on
abbrev from_style : Text → List Text
from_style title = style ∷ before_shown ∷ plain title ∷ codes "</bdi></p>" ∷ []

abbrev from_title : Text → List Text
from_title title = title_mark title ∷ plain title ∷ codes "</title>\n<style>\n" ∷ from_style title

opening_passes : (title : Text) → Passes (index_opening title)
opening_passes title =
    passes_line (before_title ∷ from_title title)
    ((λ rest. refl), (mark_passes title, (plain_passes title, ((λ rest. refl), (style_passes, ((λ rest. refl), (plain_passes title, ((λ rest. refl), tt))))))))

title_line_passes : (title : Text) → Passes (title_line title)
title_line_passes title = by (length title == 0)
  where
    by : (b : Bool) → Passes (if b then [] else line (codes "<p class=\"title\" dir=\"auto\">" ∷ plain title ∷ codes "</p>" ∷ []))
    by true rest = refl
    by false rest = passes_line (codes "<p class=\"title\" dir=\"auto\">" ∷ plain title ∷ codes "</p>" ∷ []) ((λ rest. refl), (plain_passes title, ((λ rest. refl), tt))) rest

heads_pass : Passes index_heads
heads_pass =
    passes_line (
    codes "<h1>Wards</h1>\n<table class=\"index\">\n<thead>\n<tr><th scope=\"col\">Ward</th><th scope=\"col\">Seats</th>"
    ∷ codes "<th scope=\"col\">Status</th><th scope=\"col\">Elected</th></tr>\n</thead>\n<tbody>" ∷ [])
    ((λ rest. refl), ((λ rest. refl), tt))

-- the page up to the end of its rows
abbrev pub page_front : Text → List ListedEntry → Text
page_front title es = index_opening title ++ title_line title ++ index_heads ++ flat_map index_row es

-- the rows of a page are read back
rows_back : (title : Text) (es : List ListedEntry) (rest : Text) → AllByRecursion (λ (e : ListedEntry). e.number ≤ 255) es
    → rows_in (page_front title es ++ (codes "</tbody>" ++ rest)) ≡ Some (map row_listed es)
rows_back title es rest few =
    let tail = codes "</tbody>" ++ rest in
    ap rows_in (append_assoc (index_opening title ++ title_line title ++ index_heads) (flat_map index_row es) tail)
    ∙ (passes-append (index_opening title ++ title_line title) index_heads
    (passes-append (index_opening title) (title_line title) (opening_passes title) (title_line_passes title)) heads_pass (flat_map index_row es ++ tail)
    ∙ rows_read es rest few)

-- a text in which what precedes the title doesn't begin, whatever follows it
abbrev Skips : Text → Type 0
Skips xs = (rest : Text) → behind_first (codes "<span>Wards</span> <bdi>") (xs ++ rest) ≡ behind_first (codes "<span>Wards</span> <bdi>") rest

skips_lacking : (xs : Text) → Lacks 60 xs → Skips xs
skips_lacking [] none rest = refl
skips_lacking (x ∷ xs) none rest =
    let other : (60 == x) ≡ false = ne_eqb 60 x (λ e. eqb-false x 60 none.0 (sym e)) in
    rw other (skips_lacking xs none.1 rest)

style_skips : Skips style
unfolding style
style_skips rest = refl

mark_skips : (title : Text) → Skips (title_mark title)
mark_skips title = by (length title == 0)
  where
    by : (b : Bool) → Skips (if b then [] else codes ", ")
    by true rest = refl
    by false rest = refl

front_skips : Skips before_title
front_skips rest = refl

head_skips : Skips (codes "</title>\n<style>\n")
head_skips rest = refl

title_follows : (rest : Text) → behind_first (codes "<span>Wards</span> <bdi>") (before_shown ++ rest) ≡ Some rest
title_follows rest = refl

-- the page from its title on
abbrev shown_title : Text → Text → Text
shown_title title rest = plain title ++ (codes "</bdi></p>" ++ (line [] ++ rest))

style_split : (title rest : Text) → line (from_style title) ++ rest ≡ style ++ (before_shown ++ shown_title title rest)
style_split title rest =
    line_split style (before_shown ∷ plain title ∷ codes "</bdi></p>" ∷ []) rest
    ∙ ap (λ t. style ++ t)
    (line_split before_shown (plain title ∷ codes "</bdi></p>" ∷ []) rest
    ∙ ap (λ t. before_shown ++ t)
    (line_split (plain title) (codes "</bdi></p>" ∷ []) rest
    ∙ ap (λ t. plain title ++ t) (line_split (codes "</bdi></p>") [] rest)))

opening_split_at : (title rest : Text) → index_opening title ++ rest
    ≡ before_title ++ (title_mark title ++ (plain title ++ (codes "</title>\n<style>\n" ++ (style ++ (before_shown ++ shown_title title rest)))))
opening_split_at title rest =
    line_split before_title (from_title title) rest
    ∙ ap (λ t. before_title ++ t)
    (line_split (title_mark title) (plain title ∷ codes "</title>\n<style>\n" ∷ from_style title) rest
    ∙ ap (λ t. title_mark title ++ t)
    (line_split (plain title) (codes "</title>\n<style>\n" ∷ from_style title) rest
    ∙ ap (λ t. plain title ++ t)
    (line_split (codes "</title>\n<style>\n") (from_style title) rest ∙ ap (λ t. codes "</title>\n<style>\n" ++ t) (style_split title rest))))

title_found : (title rest : Text) → behind_first (codes "<span>Wards</span> <bdi>") (index_opening title ++ rest) ≡ Some (shown_title title rest)
title_found title rest =
    let e = before_shown ++ shown_title title rest in
    let d = style ++ e in
    let c = codes "</title>\n<style>\n" ++ d in
    let b = plain title ++ c in
    ap (behind_first (codes "<span>Wards</span> <bdi>")) (opening_split_at title rest)
    ∙ (front_skips (title_mark title ++ b) ∙ (mark_skips title b ∙ (skips_lacking (plain title) (plain_lacks title) c
    ∙ (head_skips d ∙ (style_skips e ∙ title_follows (shown_title title rest))))))

-- the title of a page is read back
title_back : (title rest : Text) → title_in (index_opening title ++ rest) ≡ Some (plain title)
title_back title rest =
    ap (option_map (until 60)) (title_found title rest) ∙ ap Some (until_there 60 (plain title) (codes "/bdi></p>" ++ (line [] ++ rest)) (plain_lacks title) refl)

-- a page is read back, whatever follows its rows
pub page_back : (title : Text) (es : List ListedEntry) (rest : Text) → AllByRecursion (λ (e : ListedEntry). e.number ≤ 255) es
    → page_in (page_front title es ++ (codes "</tbody>" ++ rest)) ≡ Some (record { title = plain title; rows = map row_listed es })
page_back title es rest few =
    let tail = codes "</tbody>" ++ rest in
    let whole = page_front title es ++ tail in
    let front : whole ≡ index_opening title ++ (title_line title ++ (index_heads ++ (flat_map index_row es ++ tail))) =
    append_assoc (index_opening title ++ title_line title ++ index_heads) (flat_map index_row es) tail
    ∙ (append_assoc (index_opening title ++ title_line title) index_heads (flat_map index_row es ++ tail)
    ∙ append_assoc (index_opening title) (title_line title) (index_heads ++ (flat_map index_row es ++ tail))) in
    let titled : title_in whole ≡ Some (plain title) = ap title_in front ∙ title_back title (title_line title ++ (index_heads ++ (flat_map index_row es ++ tail))) in
    rw titled (rw (rows_back title es rest few) refl)
