-- What is published of the wards of an office is in its folder, and can be published again.
use Rattle.std.proofs.Common.{◌≡◌, ◌∙◌, ℕ, ◌+◌, ◌-◌, ◌≤◌, Bool, true, false, List, [], ◌∷◌, ◌++◌, drop, length, map, take, refl, sym, ap, subst, arith, append_assoc, length-append, Some, None}
use Rattle.std.specs.Prelude.{◌&&◌, nat_eq, nat_le, nat_lt, codes, if◌then◌else◌, Option}
use Rattle.std.specs.List.{All, AllByRecursion, flat_map, list_all}
use Rattle.std.specs.Cmp.Lexicographic.{pointwise}
use Rattle.std.proofs.lemmas.Bool.{leb-true, ltb-true, le-leb}
use Rattle.std.proofs.lemmas.List.{drop_at, take_at}
use Rattle.std.proofs.lemmas.List.Elements.{All-cons, All-nil, recursion_from_All}
use Rattle.publication.specs.Election.{WardEntry, are_in_order, ascend_from}
use Rattle.publication.specs.Files.{FileEntry, file}
use Rattle.publication.specs.Folder.{part_file, published, summed_files, ward_files}
use Rattle.publication.specs.Links.{index_links}
use Rattle.publication.specs.Pages.{are_pages, is_page, linked, page_end}
use Rattle.publication.specs.Parts.{ballots_part, declaration_part, sheet_part, table_part, ward_file}
use Rattle.sheet.specs.Entries.{SheetEntry}
use Rattle.sheet.specs.Index.{ListedEntry, index, listed}
use Rattle.sheet.specs.Lines.{joined, line, named, plain}
use Rattle.sheet.specs.Page.{elected_items, elected_text, empty_seats, foot, grounds, left_in, page, page_head}
use Rattle.count.specs.declared.stages.Stage.{Stage}
use Rattle.sheet.specs.declared.surpluses.PassedOn.{PassedOn}
use Rattle.sheet.specs.declared.index.ListedWard.{ListedWard}
use Rattle.checker.specs.FolderViews.{AreFound, bytes_named}
use Rattle.checker.specs.Folders.{FolderWard, IsOfficeFolder, IsSealed, IsUnsealedText, SealedEntry}
use Rattle.checker.specs.Folders.{ballots_of, election_of, is_sealed, is_unsealed, listed_of, sealed_in, texts_of, unsealed_in, ward_of}
use Rattle.checker.specs.FolderWards.{AreMadeAs, IsGiven, made_election, page_of, row_listed, told_texts}
use Rattle.checker.specs.IndexPage.{page_in}
use Rattle.checker.specs.Tokens.{Text}
use Rattle.checker.specs.declared.folder_election.FolderElection.{FolderElection}
use Rattle.checker.specs.declared.folder_files.FolderFile.{FolderFile}
use Rattle.checker.proofs.FolderLemmas.{map_twice}
use Rattle.checker.proofs.IndexLaws.{page_back, page_front}
use Rattle.checker.proofs.LineLaws.{and_both, and_parts}

-- ---- pages

-- a text before the end of pages is a page
ends_so : (front : Text) → is_page (front ++ page_end) ≡ true
ends_so front =
    let rest : drop (length (front ++ page_end) - length page_end) (front ++ page_end) ≡ page_end = drop_at front page_end _ (omega (arith, length-append front page_end)) in
    ap (pointwise nat_eq page_end) rest

ends_behind : (front more : Text) → is_page (front ++ (more ++ page_end)) ≡ true
ends_behind front more = ap is_page (sym (append_assoc front more page_end)) ∙ ends_so (front ++ more)

index_is_page : (title : Text) (es : List ListedEntry) → is_page (index title es) ≡ true
index_is_page title es = ends_behind (page_front title es) (codes "</tbody>\n</table>\n")

foot_ends : (ward : SheetEntry) (is_declared : Bool) (stages : List Stage) → (front : Text) × (foot ward is_declared stages ≡ front ++ page_end)
foot_ends ward true stages =
    let a = line (codes "<div class=\"sign\">\n<h2>Ward " ∷ named ward.number ward.name ∷ codes ": elected</h2>\n<ul>" ∷ []) ++ elected_items ward ward.poll stages
    ++ empty_seats (left_in ward ward.poll stages) in
    let b = codes "</ul>\n<h2>Signed</h2>\n<p>Date</p>\n<p>Returning officer</p>\n<p>First witness</p>\n<p>Second witness</p>\n</div>\n" in
    (a ++ b, sym (append_assoc a b page_end))
foot_ends ward false stages = ([], refl)

page_is_page : (ward : SheetEntry) (title : Text) (is_declared : Bool) (stages : List Stage) (lots : List (ℕ × ℕ)) (surpluses : List PassedOn)
    → is_page (page ward title is_declared stages lots surpluses) ≡ true
page_is_page ward title is_declared stages lots surpluses =
    let front = page_head ward title is_declared ++ elected_text ward is_declared stages ++ grounds ward ward.poll stages lots surpluses in
    let last = foot_ends ward is_declared stages in
    ap (λ t. is_page (front ++ t)) last.1 ∙ ends_behind front last.0

wards_are_pages : (title : Text) (ws : List SealedEntry) → list_all (λ (ward : WardEntry). is_page ward.page) (map (texts_of title) ws) ≡ true
wards_are_pages title [] = refl
wards_are_pages title (w ∷ ws) = and_both _ _ (page_is_page (ward_of w) title w.is_declared w.stages _ _) (wards_are_pages title ws)

-- all pages of an office's election are pages
pub election_is_pages : (title : Text) (wards : List FolderWard) → are_pages (election_of title wards) ≡ true
election_is_pages title wards = and_both _ _ (index_is_page title (map listed_of wards)) (wards_are_pages title (sealed_in wards))

-- ---- the order of the wards

ascend_lower : (low high : ℕ) (ns : List ℕ) → low ≤ high → ascend_from high ns ≡ true → ascend_from low ns ≡ true
ascend_lower low high [] le up = refl
ascend_lower low high (n ∷ ns) le up =
    let parts = and_parts (nat_le high n) (nat_lt n 256 && ascend_from (n + 1) ns) up in
    and_both _ _ (le-leb low n (omega (arith, le, leb-true high n parts.0))) parts.1

sealed_ascend : (title : Text) (low : ℕ) (wards : List FolderWard) → ascend_from low (map (λ ward. (listed_of ward).number) wards) ≡ true
    → ascend_from low (map (λ (ward : WardEntry). ward.number) (map (texts_of title) (sealed_in wards))) ≡ true
sealed_ascend title low [] up = refl
sealed_ascend title low (is_sealed w ∷ wards) up =
    let n = (ward_of w).number in
    let parts = and_parts (nat_le low n) (nat_lt n 256 && ascend_from (n + 1) (map (λ ward. (listed_of ward).number) wards)) up in
    let more = and_parts (nat_lt n 256) (ascend_from (n + 1) (map (λ ward. (listed_of ward).number) wards)) parts.1 in
    and_both _ _ parts.0 (and_both _ _ more.0 (sealed_ascend title (n + 1) wards more.1))
sealed_ascend title low (is_unsealed w ∷ wards) up =
    let n = w.number in
    let parts = and_parts (nat_le low n) (nat_lt n 256 && ascend_from (n + 1) (map (λ ward. (listed_of ward).number) wards)) up in
    let more = and_parts (nat_lt n 256) (ascend_from (n + 1) (map (λ ward. (listed_of ward).number) wards)) parts.1 in
    ascend_lower low (n + 1) _ (omega (arith, leb-true low n parts.0)) (sealed_ascend title (n + 1) wards more.1)

numbers_few : (low : ℕ) (wards : List FolderWard) → ascend_from low (map (λ ward. (listed_of ward).number) wards) ≡ true
    → AllByRecursion (λ (e : ListedEntry). e.number ≤ 255) (map listed_of wards)
numbers_few low [] up = tt
numbers_few low (ward ∷ wards) up =
    let n = (listed_of ward).number in
    let parts = and_parts (nat_le low n) (nat_lt n 256 && ascend_from (n + 1) (map (λ w. (listed_of w).number) wards)) up in
    let more = and_parts (nat_lt n 256) (ascend_from (n + 1) (map (λ w. (listed_of w).number) wards)) parts.1 in
    (omega (arith, ltb-true n 256 more.0), numbers_few (n + 1) wards more.1)

-- ---- the page of all wards

-- a page with links begins as the page without them
front_cases : (b : Bool) (front : Text) →
    (rest : Text) × ((if b then take (length (front ++ codes "</tbody>\n</table>\n</body>\n</html>\n") - length page_end) (front ++ codes "</tbody>\n</table>\n</body>\n</html>\n")
    else front ++ codes "</tbody>\n</table>\n</body>\n</html>\n") ≡ front ++ (codes "</tbody>" ++ rest))
front_cases true front =
    let before = front ++ codes "</tbody>\n</table>\n" in
    let whole : front ++ codes "</tbody>\n</table>\n</body>\n</html>\n" ≡ before ++ page_end = sym (append_assoc front (codes "</tbody>\n</table>\n") page_end) in
    (codes "\n</table>\n", ap (λ t. take (length t - length page_end) t) whole ∙ take_at before page_end _ (omega (arith, length-append before page_end)))
front_cases false front = (codes "\n</table>\n</body>\n</html>\n", refl)

linked_begins : (links title : Text) (es : List ListedEntry) → (rest : Text) × (linked links (index title es) ≡ page_front title es ++ (codes "</tbody>" ++ rest))
unfolding joined
linked_begins links title es =
    let front = page_front title es in
    let at = front_cases (is_page (index title es)) front in (
      at.0 ++ (links ++ (page_end ++ [])),
      ap (λ t. t ++ (links ++ (page_end ++ []))) at.1
          ∙ (append_assoc front (codes "</tbody>" ++ at.0) (links ++ (page_end ++ [])) ∙ ap (λ t. front ++ t) (append_assoc (codes "</tbody>") at.0 (links ++ (page_end ++ [])))),
    )

-- the page of all wards is read back
page_read : (links title : Text) (wards : List FolderWard) → ascend_from 0 (map (λ ward. (listed_of ward).number) wards) ≡ true
    → page_in (linked links (index title (map listed_of wards))) ≡ Some (page_of title wards)
page_read links title wards ordered =
    let at = linked_begins links title (map listed_of wards) in
    ap page_in at.1 ∙ (page_back title (map listed_of wards) at.0 (numbers_few 0 wards ordered)
    ∙ ap (λ rows. Some (record { title = plain title; rows = rows })) (map_twice row_listed listed_of wards))

-- ---- the files of an office are found

-- a file is found by its name
abbrev Named : List FolderFile → FileEntry → Type 0
Named found file = bytes_named file.name found ≡ Some file.text

first_part : {X : Type 0} (P : X → Type 0) (xs ys : List X) → AllByRecursion P (xs ++ ys) → AllByRecursion P xs × AllByRecursion P ys
first_part P [] ys all = (tt, all)
first_part P (x ∷ xs) ys all = let rest = first_part P xs ys all.1 in ((all.0, rest.0), rest.1)

-- the sheet and the ballots are among the files of a ward
own_texts : (found : List FolderFile) (number : ℕ) (text table ballots : Text) (declaration : Option Text)
    → AllByRecursion (Named found) (map (part_file number) (sheet_part text ∷ declaration_part declaration ++ table_part table ∷ ballots_part (Some ballots)))
    → (bytes_named (ward_file number (codes "-ballots.txt")) found ≡ Some ballots) × (bytes_named (ward_file number (codes "-sheet.txt")) found ≡ Some text)
own_texts found number text table ballots None all = (all.1.1.0, all.0)
own_texts found number text table ballots (Some told) all = (all.1.1.1.0, all.0)

wards_given : (found : List FolderFile) (title : Text) (wards : List FolderWard) → AllByRecursion IsSealed (sealed_in wards) → AllByRecursion IsUnsealedText (unsealed_in wards)
    → AllByRecursion (Named found) (flat_map ward_files (map (texts_of title) (sealed_in wards))) → All (IsGiven found) wards
wards_given found title [] so text all = All-nil (IsGiven found)
wards_given found title (is_sealed w ∷ wards) so text all =
    let entry = texts_of title w in
    let parts = first_part (Named found) (ward_files entry) (flat_map ward_files (map (texts_of title) (sealed_in wards))) all in
    let own = own_texts found entry.number entry.sheet entry.table (ballots_of w) entry.declaration parts.0.1 in
    All-cons (IsGiven found) (is_sealed w) wards (record { so = so.0; ballots = own.0; sheet_is = own.1 }) (wards_given found title wards so.1 text parts.1)
wards_given found title (is_unsealed w ∷ wards) so text all =
    All-cons (IsGiven found) (is_unsealed w) wards text.0 (wards_given found title wards so text.1 all)

-- the files of an office, one by one
office_named : (found : List FolderFile) (files : List FileEntry) → AreFound found files → (office : IsOfficeFolder files)
    → AllByRecursion (Named found) (published (election_of office.title office.wards))
office_named found files are office = recursion_from_All (Named found) (published (election_of office.title office.wards)) (subst (All (Named found)) office.so.are are.each)

-- each ward of an office can be made again from its folder
pub office_given : (found : List FolderFile) (files : List FileEntry) → AreFound found files → (office : IsOfficeFolder files) → All (IsGiven found) office.wards
office_given found files are office =
    let entry = election_of office.title office.wards in
    let named = office_named found files are office in
    let wards = first_part (Named found) (flat_map ward_files entry.wards) _ (first_part (Named found) (summed_files entry) _ named).0.1 in
    wards_given found office.title office.wards (recursion_from_All IsSealed (sealed_in office.wards) office.so.counted)
    (recursion_from_All IsUnsealedText (unsealed_in office.wards) office.unsealed) wards.0

-- and its page of all wards is read back
pub office_page : (found : List FolderFile) (files : List FileEntry) → AreFound found files → (office : IsOfficeFolder files) → (bytes : Text)
    → Some bytes ≡ bytes_named (codes "index.html") found → page_in bytes ≡ Some (page_of office.title office.wards)
office_page found files are office bytes read =
    let entry = election_of office.title office.wards in
    let there = (office_named found files are office).0 in
    ap page_in (some_once (read ∙ there)) ∙ page_read (index_links entry.wards) office.title office.wards office.so.ordered
  where
    some_once : {x y : Text} → Some x ≡ Some y → x ≡ y
    some_once e = cc

pub office_index : (found : List FolderFile) (files : List FileEntry) → AreFound found files → IsOfficeFolder files → None ≡ bytes_named (codes "index.html") found → ⊥
office_index found files are office none = none_some (none ∙ (office_named found files are office).0)
  where
    none_some : {x : Text} → None ≡ Some x → ⊥
    none_some e = absurd (cc)

-- ---- the election, made again

pub same_election : (title : Text) (wards : List FolderWard) (election : FolderElection) → AreMadeAs title wards election → made_election title election ≡ election_of title wards
same_election title wards election made =
    ap (λ (es : List ListedEntry). record { title = title; index = index title es; wards = map told_texts election.sealed.items }) made.listed_are
    ∙ ap (λ (ts : List WardEntry). record { title = title; index = index title (map listed_of wards); wards = ts }) made.texts_are

pub same_pages : (title : Text) (wards : List FolderWard) (election : FolderElection) → AreMadeAs title wards election → are_pages (made_election title election) ≡ true
same_pages title wards election made = ap are_pages (same_election title wards election made) ∙ election_is_pages title wards

pub same_order : (title : Text) (wards : List FolderWard) (election : FolderElection) → AreMadeAs title wards election
    → ascend_from 0 (map (λ ward. (listed_of ward).number) wards) ≡ true → are_in_order (map told_texts election.sealed.items) ≡ true
same_order title wards election made ordered = ap are_in_order made.texts_are ∙ sealed_ascend title 0 wards ordered

pub same_listing : (title : Text) (wards : List FolderWard) (election : FolderElection) → AreMadeAs title wards election
    → ascend_from 0 (map (λ ward. (listed_of ward).number) wards) ≡ true → ascend_from 0 (map (λ (ward : ListedWard). (listed ward).number) election.listed.items) ≡ true
same_listing title wards election made ordered =
    ap (ascend_from 0) (sym (map_twice (λ (ward : ListedEntry). ward.number) listed election.listed.items)
    ∙ (ap (map (λ (ward : ListedEntry). ward.number)) made.listed_are ∙ map_twice (λ (ward : ListedEntry). ward.number) listed_of wards)) ∙ ordered
