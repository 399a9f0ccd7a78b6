-- What an office publishes with its ballots at a state are the files of a published election, as it may occur in an office.
use Rattle.std.proofs.Common.{◌≡◌, ℕ, ◌+◌, ◌<◌, ◌≤◌, nat_le, ◌&&◌, Bool, true, false, List, [], ◌∷◌, ◌++◌, map, filter, Some, refl, sym, ap, ◌∙◌, codes, arith}
use Rattle.std.specs.List.{AllByRecursion, flat_map, list_all}
use Rattle.std.specs.List.Sorted.{IsStrictlySortedBy}
use Rattle.std.specs.Str.{is_utf8}
use Rattle.std.specs.declared.cmp.Ordering.TheVariants.{Less}
use Rattle.std.proofs.lemmas.Bool.{and_from, and_parts, cond-false, cond-true, le-leb, leb-true, lt-ltb}
use Rattle.std.proofs.lemmas.Cmp.{ranked}
use Rattle.std.proofs.lemmas.List.Elements.{All-from_recursion}
use Rattle.std.proofs.lemmas.Map.Keys.{sorted_head, sorted_tail}
use Rattle.sheet.specs.Index.{ListedEntry, index, index_heads, index_opening, index_row}
use Rattle.sheet.specs.Page.{title_line}
use Rattle.publication.specs.Election.{ElectionEntry as PublishedEntry, WardEntry as PublishedWard, ascend_from}
use Rattle.publication.specs.Folder.{published}
use Rattle.checker.specs.BallotsRoundTrip.{AreReadBack, CanBeReadBack}
use Rattle.checker.specs.Folders.{FolderWard, IsOfficeFolder, IsSealed, IsUnsealedText}
use Rattle.checker.specs.Folders.{election_of as made_election, is_sealed, is_unsealed, listed_of, sealed_in, texts_of, unsealed_in}
use Rattle.register.specs.Marks.{columns_of}
use Rattle.register.specs.Offices.{OfficeState, WardEntry, candidates_of, ward_at, ward_cmp}
use Rattle.register.specs.Elections.{ElectionEntry, election_of, is_counted, is_declared}
use Rattle.register.specs.Ranges.{is_name, is_seat_number, is_ward_number}
use Rattle.register.specs.StateConditions.{IsState, is_ward}
use Rattle.store.specs.Overviews.{ward_view_of}
use Rattle.store.proofs.DoneLemmas.{wards_there}
use Rattle.office.specs.Index.{index_of, listed_shown}
use Rattle.office.specs.Sheets.{IsTextual, bundles_shown, election_shown, lots_shown}
use Rattle.published_office.specs.OfficeFolder.{election_published, published_of, texts_of as office_texts, wards_published}
use Rattle.sheet_round_trip.proofs.BallotLemmas.{can_be_read_back, own_lots_small, own_numbers}
use Rattle.sheet_round_trip.proofs.CountedLemmas.{count_of}
use Rattle.sheet_round_trip.proofs.SealedLemmas.{IsMadeOf, made_of}
use Rattle.sheet_round_trip.proofs.StateLemmas.{as_many_done, counted_right, declared_is_finished, drawn_and_ended, no_stages}
use Rattle.sheet_round_trip.proofs.UnsealedLemmas.{same_row, unsealed_of}

-- ---- the order of wards

above_all : (w : WardEntry) (ws : List WardEntry) → AllByRecursion (λ (v : WardEntry). ward_cmp w v ≡ Less) ws → AllByRecursion (λ (v : WardEntry). w.number + 1 ≤ v.number) ws
above_all w [] above = tt
above_all w (v ∷ ws) above = (let less : w.number < v.number = ranked w.number v.number Less (sym above.0) in omega (arith, less), above_all w ws above.1)

ward_small : (w : WardEntry) → is_ward w ≡ true → w.number < 256
unfolding is_ward
ward_small w is =
    let number : is_ward_number w.number ≡ true = (and_parts (is_ward_number w.number) (is_seat_number w.seats && is_name w.name) is).0 in
    let most = leb-true w.number 99 (and_parts (nat_le 1 w.number) (nat_le w.number 99) number).1 in
    omega (arith, most)

-- the numbers of sorted wards ascend
ascending : (ws : List WardEntry) (least : ℕ) → IsStrictlySortedBy ward_cmp ws → AllByRecursion (λ (w : WardEntry). least ≤ w.number) ws → list_all is_ward ws ≡ true
    → ascend_from least (map (λ (w : WardEntry). w.number) ws) ≡ true
ascending [] least up above all = refl
ascending (w ∷ ws) least up above all =
    let wards = and_parts (is_ward w) (list_all is_ward ws) all in
    and_from _ _ (le-leb least w.number above.0)
    (and_from _ _ (lt-ltb w.number 256 (ward_small w wards.0)) (ascending ws (w.number + 1) (sorted_tail ward_cmp w ws up) (above_all w ws (sorted_head ward_cmp w ws up)) wards.1))

at_least_none : (ws : List WardEntry) → AllByRecursion (λ (w : WardEntry). 0 ≤ w.number) ws
at_least_none [] = tt
at_least_none (w ∷ ws) = (omega arith, at_least_none ws)

-- ---- the wards

-- wards of a state as the checker makes them
record HasWards (title : List ℕ) (s : OfficeState) (ws : List WardEntry) : Type 0 where
  wards : List FolderWard
  counted : AllByRecursion IsSealed (sealed_in wards)
  unsealed : AllByRecursion IsUnsealedText (unsealed_in wards)
  numbers : map (λ (ward : FolderWard). (listed_of ward).number) wards ≡ map (λ (w : WardEntry). w.number) ws
  rows : flat_map index_row (map listed_of wards) ≡ flat_map index_row (map listed_shown (map (ward_view_of s) ws))
  texts : map (texts_of title) (sealed_in wards) ≡ map (λ (w : WardEntry). office_texts title true (election_of s w)) (filter (λ (w : WardEntry). is_counted w.phase) ws)

-- another ward, which is sealed
with_sealed : (title : List ℕ) (s : OfficeState) (w : WardEntry) (ws : List WardEntry) → is_counted w.phase ≡ true → IsMadeOf title s w → HasWards title s ws → HasWards title s (w ∷ ws)
with_sealed title s w ws sealed made later =
    let texts = λ (v : WardEntry). office_texts title true (election_of s v) in
    let others : List WardEntry = filter (λ (v : WardEntry). is_counted v.phase) ws in
    record {
      wards = is_sealed made.ward ∷ later.wards;
      counted = (made.so, later.counted);
      unsealed = later.unsealed;
      numbers = ap (λ (listed : ListedEntry). listed.number ∷ map (λ (ward : FolderWard). (listed_of ward).number) later.wards) made.listed_is
          ∙ ap (λ (ns : List ℕ). w.number ∷ ns) later.numbers;
      rows = ap (λ (listed : ListedEntry). index_row listed ++ flat_map index_row (map listed_of later.wards)) made.listed_is
          ∙ ap (λ (rows : List ℕ). index_row (listed_shown (ward_view_of s w)) ++ rows) later.rows;
      texts = ap (λ (own : PublishedWard). own ∷ map (texts_of title) (sealed_in later.wards)) made.texts_are
          ∙ ap (λ (all : List PublishedWard). texts w ∷ all) later.texts
          ∙ ap (map texts) (sym (cond-true (is_counted w.phase) (w ∷ others) others sealed));
    }

-- another ward, which isn't
with_unsealed : (title : List ℕ) (s : OfficeState) (w : WardEntry) (ws : List WardEntry) → is_counted w.phase ≡ false → IsUnsealedText (unsealed_of w) → HasWards title s ws
    → HasWards title s (w ∷ ws)
with_unsealed title s w ws unsealed text later =
    let texts = λ (v : WardEntry). office_texts title true (election_of s v) in
    let others : List WardEntry = filter (λ (v : WardEntry). is_counted v.phase) ws in
    record {
      wards = is_unsealed (unsealed_of w) ∷ later.wards;
      counted = later.counted;
      unsealed = (text, later.unsealed);
      numbers = ap (λ (ns : List ℕ). w.number ∷ ns) later.numbers;
      rows = ap (λ (row : List ℕ). row ++ flat_map index_row (map listed_of later.wards)) (sym (same_row s w unsealed))
          ∙ ap (λ (rows : List ℕ). index_row (listed_shown (ward_view_of s w)) ++ rows) later.rows;
      texts = later.texts ∙ ap (map texts) (sym (cond-false (is_counted w.phase) (w ∷ others) others unsealed));
    }

-- ---- the folder

-- given the laws of reading back, of the texts, and of a ward's columns, at a state
module _
    (read_back : AreReadBack) (textual : (s : OfficeState) (w : WardEntry) → IsState s → ward_at s w.number ≡ Some w → IsTextual (election_of s w))
    (columns : (s : OfficeState) (ward : ℕ) → IsState s → columns_of (candidates_of s ward) ≡ map (λ c. c.number) (candidates_of s ward)) (s : OfficeState) (title : List ℕ) (is : IsState s)
  where
    can : (w : WardEntry) → ward_at s w.number ≡ Some w → CanBeReadBack (election_shown (election_of s w)) (bundles_shown (election_of s w)) (lots_shown (election_of s w))
    can w there = can_be_read_back s w is there (columns s w.number is) (textual s w is there)

    -- a sealed ward
    sealed_made : (w : WardEntry) → ward_at s w.number ≡ Some w → is_counted w.phase ≡ true → IsMadeOf title s w
    sealed_made w there sealed =
        let e : ElectionEntry = election_of s w in
        let fine = textual s w is there in
        let own = own_numbers s w is there (columns s w.number is) fine in
        let small = own_lots_small s w is there (columns s w.number is) fine in
        let right = counted_right s w is there in
        let back = read_back _ _ _ (can w there) in
        let counted = count_of e own back.reading (is_declared w.phase) (declared_is_finished e sealed right) fine.counted
        (λ contested. (drawn_and_ended e sealed right contested).0) (as_many_done e sealed right) small in
        made_of title s w sealed back own (no_stages e sealed right) counted

    -- a ward that isn't sealed
    unsealed_text : (w : WardEntry) → ward_at s w.number ≡ Some w → IsUnsealedText (unsealed_of w)
    unsealed_text w there = record { name = (can w there).name.text; seats = omega (arith, (can w there).seats_in_range) }

    wards_for : (ws : List WardEntry) → AllByRecursion (λ (w : WardEntry). ward_at s w.number ≡ Some w) ws → HasWards title s ws
    wards_for [] there = record { wards = []; counted = tt; unsealed = tt; numbers = refl; rows = refl; texts = refl }
    wards_for (w ∷ ws) there = go (is_counted w.phase) refl (wards_for ws there.1) (sealed_made w there.0) (unsealed_text w there.0)
      where
        go : (b : Bool) → is_counted w.phase ≡ b → HasWards title s ws → (is_counted w.phase ≡ true → IsMadeOf title s w) → IsUnsealedText (unsealed_of w) → HasWards title s (w ∷ ws)
        go true sealed later made text = with_sealed title s w ws sealed (made sealed) later
        go false unsealed later made text = with_unsealed title s w ws unsealed text later

    all_wards : HasWards title s s.wards
    all_wards = wards_for s.wards (wards_there s.wards is.rise.wards)

    same_index : index_of title s ≡ index title (map listed_of all_wards.wards)
    same_index = ap (λ (rows : List ℕ). index_opening title ++ title_line title ++ index_heads ++ rows ++ codes "</tbody>\n</table>\n</body>\n</html>\n") (sym all_wards.rows)

    same_election : election_published title true s ≡ made_election title all_wards.wards
    same_election =
        ap (λ (page : List ℕ). let e : PublishedEntry = record { title = title; index = page; wards = wards_published title true s } in e) same_index
        ∙ ap (λ (wards : List PublishedWard). let e : PublishedEntry = record { title = title; index = index title (map listed_of all_wards.wards); wards = wards } in e) (sym all_wards.texts)

    pub office_folder : is_utf8 title ≡ true → IsOfficeFolder (published_of title true s)
    office_folder text = record {
      title = title;
      wards = all_wards.wards;
      so = record {
        counted = All-from_recursion IsSealed (sealed_in all_wards.wards) all_wards.counted;
        ordered = ap (ascend_from 0) all_wards.numbers ∙ ascending s.wards 0 is.rise.wards (at_least_none s.wards) (and_parts _ _ is.in_range).0;
        are = ap published same_election;
      };
      title_text = text;
      unsealed = All-from_recursion IsUnsealedText (unsealed_in all_wards.wards) all_wards.unsealed;
    }
