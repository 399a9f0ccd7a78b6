-- What is read of an office at a state can be published: each page ends as pages do, and the wards are in order.
use Rattle.std.proofs.Common.{◌≡◌, ◌∙◌, ◌++◌, ◌+◌, ◌<◌, ◌≤◌, ℕ, Bool, true, false, List, [], ◌∷◌, codes, map, refl, sym, ap, arith, append_assoc}
use Rattle.std.specs.Prelude.{◌&&◌, nat_le}
use Rattle.std.specs.List.{AllByRecursion, flat_map, list_all}
use Rattle.std.specs.List.Sorted.{IsStrictlySortedBy}
use Rattle.std.specs.declared.cmp.Ordering.TheVariants.{Less}
use Rattle.std.proofs.lemmas.Bool.{and_parts, le-leb, leb-true, lt-ltb}
use Rattle.std.proofs.lemmas.Bool.Decides.{Decides-eqb}
use Rattle.std.proofs.lemmas.List.Kept.{IsStrictlySortedBy-filter}
use Rattle.std.proofs.lemmas.Map.Keys.{sorted_head, sorted_tail}
use Rattle.std.proofs.lemmas.Slice.Eq.{ends_is}
use Rattle.clap.specs.Words.{Text}
use Rattle.count.specs.declared.stages.Stage.{Stage}
use Rattle.register.specs.Elections.{ElectionEntry, election_of, is_counted, is_declared}
use Rattle.register.specs.Offices.{OfficeState, WardEntry, ward_cmp}
use Rattle.register.specs.Ranges.{is_name, is_seat_number, is_ward_number}
use Rattle.register.specs.StateConditions.{IsState, is_ward}
use Rattle.register.proofs.MapLemmas.{kept_all}
use Rattle.rowcheck.proofs.SideBySideLemmas.{below_from}
use Rattle.tables.proofs.ListLemmas.{mapped_twice}
use Rattle.sheet.specs.Entries.{SheetEntry}
use Rattle.sheet.specs.Lines.{line, named}
use Rattle.sheet.specs.Index.{index_heads, index_opening, index_row}
use Rattle.sheet.specs.declared.surpluses.PassedOn.{PassedOn}
use Rattle.sheet.specs.Page.{elected_items, elected_text, empty_seats, foot, grounds, left_in, page, page_head, title_line}
use Rattle.store.specs.Overviews.{ward_views}
use Rattle.office.specs.Index.{index_of, listed_shown}
use Rattle.office.specs.Sheets.{election_shown, lots_shown, result_page_of, stages_shown, surpluses_shown}
use Rattle.publication.specs.Election.{WardEntry as PublishedWard, are_in_order, ascend_from}
use Rattle.publication.specs.Pages.{is_page, page_end}
use Rattle.published_office.specs.OfficeFolder.{election_published, sealed_wards, texts_of, wards_published}
use Rattle.desk.specs.Publications.{can_be_published}

both_true : {a b : Bool} → a ≡ true → b ≡ true → (a && b) ≡ true
both_true {a = a} {b = b} one two = rw (one, two) refl

-- ---- pages

-- what ends with the end of a page is a page
ends_so : (front more end : Text) → end ≡ more ++ page_end → is_page (front ++ end) ≡ true
ends_so front more end is =
    (ends_is Decides-eqb (front ++ end) page_end (is_page (front ++ end)) refl).1 (front ++ more) (ap (λ (text : Text). front ++ text) is ∙ sym (append_assoc front more page_end))

-- the text before the end of a ward's page, from its signatures on
before_end : SheetEntry → Bool → List Stage → Text
before_end ward true stages =
    line (codes "<div class=\"sign\">\n<h2>Ward " ∷ named ward.number ward.name ∷ codes ": elected</h2>\n<ul>" ∷ [])
    ++ elected_items ward ward.poll stages
    ++ empty_seats (left_in ward ward.poll stages)
    ++ codes "</ul>\n<h2>Signed</h2>\n<p>Date</p>\n<p>Returning officer</p>\n<p>First witness</p>\n<p>Second witness</p>\n</div>\n"
before_end ward false stages = []

foot_ends : (ward : SheetEntry) (is_declared : Bool) (stages : List Stage) → foot ward is_declared stages ≡ before_end ward is_declared stages ++ page_end
unfolding before_end
foot_ends ward true stages = sym (append_assoc _ _ page_end)
foot_ends ward false stages = refl

page_ends : (ward : SheetEntry) (title : Text) (is_declared : Bool) (stages : List Stage) (lots : List (ℕ × ℕ)) (surpluses : List PassedOn)
    → is_page (page ward title is_declared stages lots surpluses) ≡ true
page_ends ward title is_declared stages lots surpluses =
    ends_so (page_head ward title is_declared ++ elected_text ward is_declared stages ++ grounds ward ward.poll stages lots surpluses) (before_end ward is_declared stages)
    (foot ward is_declared stages) (foot_ends ward is_declared stages)

result_page_ends : (title : Text) (e : ElectionEntry) → is_page (result_page_of title e) ≡ true
result_page_ends title e = page_ends (election_shown e) title (is_declared e.ward.phase) (stages_shown e) (lots_shown e) (surpluses_shown e)

index_ends : (title : Text) (s : OfficeState) → is_page (index_of title s) ≡ true
index_ends title s =
    ends_so (index_opening title ++ title_line title ++ index_heads ++ flat_map index_row (map listed_shown (ward_views s))) (codes "</tbody>\n</table>\n")
    (codes "</tbody>\n</table>\n</body>\n</html>\n") refl

ward_pages_end : (title : Text) (with_ballots : Bool) (s : OfficeState) (ws : List WardEntry)
    → list_all (λ (w : PublishedWard). is_page w.page) (map (λ (w : WardEntry). texts_of title with_ballots (election_of s w)) ws) ≡ true
ward_pages_end title with_ballots s [] = refl
ward_pages_end title with_ballots s (w ∷ ws) = both_true (result_page_ends title (election_of s w)) (ward_pages_end title with_ballots s ws)

-- ---- the order of wards

above_all : (w : WardEntry) (ws : List WardEntry) → AllByRecursion (λ (v : WardEntry). ward_cmp w v ≡ Less) ws → AllByRecursion (λ (v : WardEntry). w.number + 1 ≤ v.number) ws
above_all w [] above = tt
above_all w (v ∷ ws) above = (let less = below_from w.number v.number above.0 in omega (arith, less), above_all w ws above.1)

ward_small : (w : WardEntry) → is_ward w ≡ true → w.number < 256
unfolding is_ward
ward_small w is =
    let number : is_ward_number w.number ≡ true = (and_parts (is_ward_number w.number) (is_seat_number w.seats && is_name w.name) is).0 in
    let most = leb-true w.number 99 (and_parts (nat_le 1 w.number) (nat_le w.number 99) number).1 in
    omega (arith, most)

-- the numbers of sorted wards ascend
ascending : (ws : List WardEntry) (least : ℕ) → IsStrictlySortedBy ward_cmp ws → AllByRecursion (λ (w : WardEntry). least ≤ w.number) ws → list_all is_ward ws ≡ true
    → ascend_from least (map (λ (w : WardEntry). w.number) ws) ≡ true
ascending [] least up above all = refl
ascending (w ∷ ws) least up above all =
    let wards = and_parts (is_ward w) (list_all is_ward ws) all in
    both_true (le-leb least w.number above.0)
    (both_true (lt-ltb w.number 256 (ward_small w wards.0)) (ascending ws (w.number + 1) (sorted_tail ward_cmp w ws up) (above_all w ws (sorted_head ward_cmp w ws up)) wards.1))

at_least_none : (ws : List WardEntry) → AllByRecursion (λ (w : WardEntry). 0 ≤ w.number) ws
at_least_none [] = tt
at_least_none (w ∷ ws) = (omega arith, at_least_none ws)

-- ---- what is published

wards_in_order : (title : Text) (with_ballots : Bool) (s : OfficeState) → IsState s → are_in_order (wards_published title with_ballots s) ≡ true
wards_in_order title with_ballots s is =
    let wards : List WardEntry = sealed_wards s in
    let sealed : WardEntry → Bool = λ w. is_counted w.phase in
    ap (ascend_from 0) (mapped_twice (λ (w : WardEntry). texts_of title with_ballots (election_of s w)) (λ (w : PublishedWard). w.number) wards)
    ∙ ascending wards 0 (IsStrictlySortedBy-filter ward_cmp sealed s.wards is.rise.wards) (at_least_none wards) (kept_all is_ward sealed s.wards (and_parts _ _ is.in_range).0)

-- what is published of an office at a state can be published
pub publishable_at : (title : Text) (with_ballots : Bool) (s : OfficeState) → IsState s → can_be_published (election_published title with_ballots s) ≡ true
publishable_at title with_ballots s is =
    both_true (both_true (index_ends title s) (ward_pages_end title with_ballots s (sealed_wards s))) (wards_in_order title with_ballots s is)
