-- A folder whose files were read and compared, and its wards one by one.
use Rattle.std.proofs.Common.{◌≡◌, ◌∙◌, ℕ, ◌<◌, Bool, true, false, String, Global, List, [], ◌∷◌, ◌++◌, length, map, refl, sym, ap, subst, arith}
use Rattle.std.specs.Prelude.{if◌then◌else◌, Ok, Option, Some, bytes_eq, string_bytes}
use Rattle.std.specs.Option.{unwrap_or}
use Rattle.std.specs.List.{All, Contains, list_all}
use Rattle.std.proofs.lemmas.List.{get_or-map, length-map, take_all}
use Rattle.std.proofs.lemmas.List.Elements.{All-contains, All-map, All-nil, All-push, All-weaker}
use Rattle.std.proofs.lemmas.List.Folds.{Any-from_list_any}
use Rattle.std.proofs.lemmas.List.Sums.{AllPass-from_list_all}
use Rattle.publication.specs.Election.{WardEntry, ascend_from}
use Rattle.publication.specs.Files.{FileEntry, file_entry, names}
use Rattle.publication.specs.declared.files.PublishedFile.{PublishedFile}
use Rattle.publication.specs.Folder.{published}
use Rattle.count.specs.Bundles.{Bundle}
use Rattle.count.specs.declared.stages.Stage.{Stage}
use Rattle.sheet.specs.Entries.{SheetEntry}
use Rattle.sheet.specs.Index.{ListedEntry, elected_shown, index, listed}
use Rattle.sheet.specs.Sheet.{sheet}
use Rattle.sheet.specs.declared.index.WardStanding.{WardStanding}
use Rattle.sheet.specs.declared.index.WardStanding.TheVariants.{Keying, Nominations}
use Rattle.sheet.specs.declared.index.ListedWard.{ListedWard}
use Rattle.checker.specs.FolderChecks.{IsFoundConfirmed}
use Rattle.checker.specs.FolderViews.{IsContent, IsFileIn, are_same, has_name, has_text, is_file, is_found, is_named, name_of}
use Rattle.checker.specs.FolderWards.{AreWardsMade, IsElectionMade, IsMadeAs, IsMadeFrom, IsReadingMade, IsUnsealedMade, IsWardMade, MayShow, made_election, told_texts}
use Rattle.checker.specs.Folders.{AreShown, FolderWard, HasExactly, IsConfirmedFolder, IsPublishedFolder, IsSealed, MayEnd, SealedEntry, UnsealedEntry}
use Rattle.checker.specs.Folders.{ballots_of, is_sealed, is_unsealed, listed_as, listed_of, lots_of, passed_of, sealed_in, texts_as, texts_of, ward_of}
use Rattle.checker.specs.Counts.{IsWardCount, lots_in, surpluses_in}
use Rattle.checker.specs.Wards.{ward_told}
use Rattle.checker.specs.InputFiles.{InputFiles, HoldsInside, HoldsNames}
use Rattle.checker.specs.Reading.{ReaderEntry, read}
use Rattle.checker.specs.Tokens.{Text}
use Rattle.checker.specs.declared.folder_election.FolderElection.{FolderElection}
use Rattle.checker.specs.declared.folder_files.FileContent.{FileContent}
use Rattle.checker.specs.declared.folder_files.FileContent.TheVariants.{Bytes, Unread}
use Rattle.checker.specs.declared.folder_files.FolderFile.{FolderFile}
use Rattle.checker.specs.declared.folder_texts.SealedTexts.{SealedTexts}
use Rattle.checker.specs.declared.folder_wards.SealedWard.{SealedWard}
use Rattle.checker.specs.declared.counting.WardCount.{WardCount}
use Rattle.checker.proofs.CountLemmas.{AreSameCount, ward_once}
use Rattle.checker.proofs.LineLaws.{and_parts}
use Rattle.checker.proofs.NumberLaws.{pointwise_same}

-- ---- the comparison

-- an element's value is among the values of all
Contains-map : {X Y : Type 0} (f : X → Y) (xs : List X) (x : X) → Contains xs x → Contains (map f xs) (f x)
Contains-map f xs x has =
    (has.0, (let within : has.0 < length xs = has.1 in omega (arith, length-map xs f)), get_or-map f xs has.0 x (f x) has.1 ∙ ap f has.2)

-- a file that was read and has the given text is held with it
held_text : (held : InputFiles) (path name text : Text) (content : FileContent) → IsContent held path name content → has_text text content ≡ true → HoldsInside held path name text
held_text held path name text (Bytes bytes) is same = subst (HoldsInside held path name) (pointwise_same bytes.items text same) is
held_text held path name text (Unread why) is same = absurd (cc)

-- a file that was found is in the folder, with its text
held_found : (held : InputFiles) (path : Text) (found : List FolderFile) (file : FileEntry) → All (IsFileIn held path) found → is_found found file ≡ true
    → HoldsInside held path file.name file.text × Contains (map name_of found) file.name
held_found held path found file all so =
    let some = Any-from_list_any (is_file file) found so in
    let f = some.1 in
    let at : Contains found f = (some.0, some.2, some.3) in
    let parts = and_parts (bytes_eq (name_of f) file.name) (has_text file.text f.content) some.4 in
    let same : name_of f ≡ file.name = pointwise_same (name_of f) file.name parts.0 in
    let there = held_text held path (name_of f) file.text f.content (All-contains (IsFileIn held path) found f all at) parts.1 in
    (subst (λ name. HoldsInside held path name file.text) same there, subst (Contains (map name_of found)) same (Contains-map name_of found f at))

-- a file of a folder with the name of one of the given files
named_among : (files : List FileEntry) (f : FolderFile) → is_named files f ≡ true → Contains (names files) (name_of f)
named_among files f so =
    let some = Any-from_list_any (has_name (name_of f)) files so in
    let same : some.1.name ≡ name_of f = pointwise_same some.1.name (name_of f) some.4 in
    subst (Contains (names files)) same (Contains-map (λ (file : FileEntry). file.name) files some.1 (some.0, some.2, some.3))

-- files that were read and are the same as given ones are exactly these
exactly_same : (held : InputFiles) (path : Text) (inside : List Text) (found : List FolderFile) (files : List FileEntry) → HoldsNames held path inside
    → map name_of found ≡ inside → All (IsFileIn held path) found → are_same found files ≡ true → HasExactly held path files
exactly_same held path inside found files listed read all same =
    let parts = and_parts (list_all (is_found found) files) (list_all (is_named files) found) same in
    let each = AllPass-from_list_all (is_found found) files parts.0 in
    let named = AllPass-from_list_all (is_named files) found parts.1 in
    record {
      inside = inside;
      listed = listed;
      there = All-weaker (λ file. is_found found file ≡ true) (λ (file : FileEntry). Contains inside file.name)
          (λ file so. subst (λ ns. Contains ns file.name) read (held_found held path found file all so).1) files each;
      same = All-weaker (λ file. is_found found file ≡ true) (λ (file : FileEntry). HoldsInside held path file.name file.text)
          (λ file so. (held_found held path found file all so).0) files each;
      alone = subst (All (Contains (names files))) read
          (All-map (Contains (names files)) name_of found
          (All-weaker (λ f. is_named files f ≡ true) (λ f. Contains (names files) (name_of f)) (λ f so. named_among files f so) found named));
    }

pub folder_confirmed : (held : InputFiles) (path : Text) (inside : List Text) (found : List FolderFile) (count : ℕ) → HoldsNames held path inside
    → map name_of found ≡ inside → All (IsFileIn held path) found → IsFoundConfirmed found count → IsConfirmedFolder held path count
folder_confirmed held path inside found count listed read all confirmed = record {
  files = confirmed.files;
  has = exactly_same held path inside found confirmed.files listed read all confirmed.same;
  is = confirmed.is;
  many = confirmed.many;
}

-- ---- the wards

pub sealed_in-append : (wards more : List FolderWard) → sealed_in (wards ++ more) ≡ sealed_in wards ++ sealed_in more
sealed_in-append [] more = refl
sealed_in-append (is_sealed w ∷ wards) more = ap (λ ws. w ∷ ws) (sealed_in-append wards more)
sealed_in-append (is_unsealed w ∷ wards) more = sealed_in-append wards more

pub map-push : {X Y : Type 0} (f : X → Y) (xs : List X) (x : X) → map f (xs ++ x ∷ []) ≡ map f xs ++ f x ∷ []
map-push f [] x = refl
map-push f (y ∷ ys) x = ap (λ zs. f y ∷ zs) (map-push f ys x)

pub append_none : {X : Type 0} (xs : List X) → xs ++ [] ≡ xs
append_none [] = refl
append_none (x ∷ xs) = ap (λ ys. x ∷ ys) (append_none xs)

-- no wards
pub no_wards_made : (title : Text) → AreWardsMade title [] []
no_wards_made title = record { wards = []; so = All-nil IsSealed; listed_are = refl; texts_are = refl }

-- another ward that isn't sealed
pub unsealed_made : (title : Text) (listed : List ListedEntry) (texts : List WardEntry) (ward : UnsealedEntry) → AreWardsMade title listed texts
    → AreWardsMade title (listed ++ listed_of (is_unsealed ward) ∷ []) texts
unsealed_made title listed texts ward made =
    let same : sealed_in (made.wards ++ is_unsealed ward ∷ []) ≡ sealed_in made.wards = sealed_in-append made.wards (is_unsealed ward ∷ []) ∙ append_none (sealed_in made.wards) in
    record {
      wards = made.wards ++ is_unsealed ward ∷ [];
      so = subst (All IsSealed) (sym same) made.so;
      listed_are = ap (λ ws. ws ++ listed_of (is_unsealed ward) ∷ []) made.listed_are ∙ sym (map-push listed_of made.wards (is_unsealed ward));
      texts_are = made.texts_are ∙ ap (map (texts_of title)) (sym same);
    }

-- another sealed ward
pub sealed_made : (title : Text) (listed : List ListedEntry) (texts : List WardEntry) (ward : SealedEntry) → IsSealed ward → AreWardsMade title listed texts
    → AreWardsMade title (listed ++ listed_of (is_sealed ward) ∷ []) (texts ++ texts_of title ward ∷ [])
sealed_made title listed texts ward so made =
    let same : sealed_in (made.wards ++ is_sealed ward ∷ []) ≡ sealed_in made.wards ++ ward ∷ [] = sealed_in-append made.wards (is_sealed ward ∷ []) in
    record {
      wards = made.wards ++ is_sealed ward ∷ [];
      so = subst (All IsSealed) (sym same) (All-push IsSealed (sealed_in made.wards) ward made.so so);
      listed_are = ap (λ ws. ws ++ listed_of (is_sealed ward) ∷ []) made.listed_are ∙ sym (map-push listed_of made.wards (is_sealed ward));
      texts_are = ap (λ ts. ts ++ texts_of title ward ∷ []) made.texts_are ∙ (sym (map-push (texts_of title) (sealed_in made.wards) ward) ∙ ap (map (texts_of title)) (sym same));
    }

-- ---- the files

pub map_twice : {X Y Z : Type 0} (f : Y → Z) (g : X → Y) (xs : List X) → map f (map g xs) ≡ map (λ x. f (g x)) xs
map_twice f g [] = refl
map_twice f g (x ∷ xs) = ap (λ zs. f (g x) ∷ zs) (map_twice f g xs)

-- the files that are published of such wards, in order
pub files_published : (title : Text) (listed : List ListedEntry) (texts : List WardEntry) (files : List FileEntry) → AreWardsMade title listed texts
    → ascend_from 0 (map (λ (ward : ListedEntry). ward.number) listed) ≡ true → files ≡ published (record { title = title; index = index title listed; wards = texts }) → IsPublishedFolder files
files_published title listed texts files made ordered are = record {
  title = title;
  wards = made.wards;
  so = record {
    counted = made.so;
    ordered = ap (ascend_from 0) (sym (map_twice (λ (ward : ListedEntry). ward.number) listed_of made.wards) ∙ ap (map (λ (ward : ListedEntry). ward.number)) (sym made.listed_are)) ∙ ordered;
    are = are ∙ (ap (λ (ls : List ListedEntry). published (record { title = title; index = index title ls; wards = texts })) made.listed_are
        ∙ ap (λ (ts : List WardEntry). published (record { title = title; index = index title (map listed_of made.wards); wards = ts })) made.texts_are);
  };
}

-- ---- for the functions

-- another ward that isn't sealed was appended
pub unsealed_pushed : (title : Text) (old new : List ListedWard) (ward : ListedWard) (texts : List WardEntry) → new ≡ old ++ ward ∷ [] → IsUnsealedMade (listed ward)
    → AreWardsMade title (map listed old) texts → AreWardsMade title (map listed new) texts
unsealed_pushed title old new ward texts more is made =
    let same : map listed new ≡ map listed old ++ listed_of (is_unsealed is.ward) ∷ [] =
    ap (map listed) more ∙ (map-push listed old ward ∙ ap (λ (l : ListedEntry). map listed old ++ l ∷ []) is.listed_is) in
    subst (λ ls. AreWardsMade title ls texts) (sym same) (unsealed_made title (map listed old) texts is.ward made)

-- another sealed ward was appended
pub sealed_pushed : (title : Text) (old new : List ListedWard) (old_texts new_texts : List SealedTexts) (ward : SealedWard) → new ≡ old ++ ward.listed ∷ [] → new_texts ≡ old_texts ++ ward.texts ∷ []
    → IsWardMade title ward → AreWardsMade title (map listed old) (map told_texts old_texts) → AreWardsMade title (map listed new) (map told_texts new_texts)
sealed_pushed title old new old_texts new_texts ward more more_texts is made =
    let same : map listed new ≡ map listed old ++ listed_of (is_sealed is.ward) ∷ [] =
    ap (map listed) more ∙ (map-push listed old ward.listed ∙ ap (λ (l : ListedEntry). map listed old ++ l ∷ []) is.listed_is) in
    let same_texts : map told_texts new_texts ≡ map told_texts old_texts ++ texts_of title is.ward ∷ [] =
    ap (map told_texts) more_texts ∙ (map-push told_texts old_texts ward.texts ∙ ap (λ (t : WardEntry). map told_texts old_texts ++ t ∷ []) is.texts_are) in
    subst (λ ts. AreWardsMade title (map listed new) ts) (sym same_texts)
    (subst (λ ls. AreWardsMade title ls (map told_texts old_texts ++ texts_of title is.ward ∷ [])) (sym same)
    (sealed_made title (map listed old) (map told_texts old_texts) is.ward is.so made))

-- a ward that was counted from ballots is sealed, if these are the ballots that it prints
pub ward_made : (title ballots : Text) (is_declared : Bool) (text : Option Text) (reading : ReaderEntry) (made : SealedWard) → read ballots ≡ Ok reading
    → IsReadingMade title reading is_declared text made → string_bytes made.texts.ballots ≡ ballots → IsWardMade title made
ward_made title ballots is_declared text reading made understood is same =
    let w : SealedEntry = record { reading = reading; count = is.count; stages = is.stages; is_declared = is_declared } in
    let own : string_bytes made.texts.ballots ≡ ballots_of w = ap (λ (t : WardEntry). unwrap_or t.ballots []) is.texts_are in
    record {
      ward = w;
      so = record { understood = ap read (sym own ∙ same) ∙ understood; counted = is.counted; ends = is.ends; shows = is.shows.shows; drawn = is.drawn };
      texts_are = is.texts_are;
      listed_is = is.listed_is;
    }

-- the files of wards that were made again, in order
pub election_published : (title : Text) (election : FolderElection) (files : List FileEntry) → IsElectionMade title election
    → ascend_from 0 (map (λ ward. (listed ward).number) election.listed.items) ≡ true → files ≡ published (made_election title election) → IsPublishedFolder files
election_published title election files made ordered are =
    files_published title (map listed election.listed.items) (map told_texts election.sealed.items) files made
    (ap (ascend_from 0) (map_twice (λ (ward : ListedEntry). ward.number) listed election.listed.items) ∙ ordered) are

-- files that were read and are those of a published election
pub found_confirmed : (found : List FolderFile) (files : List PublishedFile) (count : ℕ) → are_same found (map file_entry files) ≡ true → IsPublishedFolder (map file_entry files)
    → count ≡ length files → IsFoundConfirmed found count
found_confirmed found files count same is many = record { files = map file_entry files; same = same; is = is; many = many ∙ sym (length-map files file_entry) }

-- the texts of a ward show its whole count
pub all_shown : (is_declared : Bool) (all : List Stage) → AreShown is_declared all all
all_shown is_declared all = record { done = length all; first = sym (take_all (length all) all (omega arith)); whole = λ so. refl }

-- the texts of a ward may show the same of another count with the same stages and end
pub shown_alike : (lots : List (ℕ × ℕ)) (is_declared : Bool) (one other : WardCount) (stages : List Stage) → AreSameCount one other → MayShow lots is_declared other stages
    → MayShow lots is_declared one stages
shown_alike lots is_declared one other stages same is = record {
  ends = subst (MayEnd is_declared) (sym same.end) is.ends;
  shows = subst (λ all. AreShown is_declared all stages) (sym same.stages) is.shows;
  drawn = is.drawn;
}

-- what follows from what the texts of a ward may show, for the ward of an office with the given ballots
pub office_shows : (reading : ReaderEntry) (ward : SealedEntry) (entry : SheetEntry) (bundles : List Bundle) (lots : List (ℕ × ℕ)) (is_declared : Bool) (text : Option Text) (P : Type 0)
    → IsSealed ward → ward.reading ≡ reading → entry ≡ ward_told reading → bundles ≡ reading.papers.bundles → lots ≡ reading.remarks.lots → is_declared ≡ ward.is_declared
    → text ≡ Some (sheet (ward_of ward) ward.stages)
    → ((count : WardCount) (stages : List Stage) → IsWardCount entry.poll entry bundles lots count → MayShow (lots_in entry.poll lots) is_declared count stages
    → text ≡ Some (sheet entry stages) → P) → P
office_shows reading ward entry bundles lots is_declared text P so same told packed drawn declared sheet_is follows =
    let w : entry ≡ ward_of ward = told ∙ ap ward_told (sym same) in
    let bs : bundles ≡ ward.reading.papers.bundles = packed ∙ ap (λ (r : ReaderEntry). r.papers.bundles) (sym same) in
    let ls : lots ≡ ward.reading.remarks.lots = drawn ∙ ap (λ (r : ReaderEntry). r.remarks.lots) (sym same) in
    let shows : MayShow (lots_of ward) ward.is_declared ward.count ward.stages = record { ends = so.ends; shows = so.shows; drawn = so.drawn } in
    follows ward.count ward.stages
    (subst (λ v. IsWardCount v.poll v bundles lots ward.count) (sym w)
    (subst (λ b. IsWardCount (ward_of ward).poll (ward_of ward) b lots ward.count) (sym bs)
    (subst (λ l. IsWardCount (ward_of ward).poll (ward_of ward) ward.reading.papers.bundles l ward.count) (sym ls) so.counted)))
    (subst (λ v. MayShow (lots_in v.poll lots) is_declared ward.count ward.stages) (sym w)
    (subst (λ l. MayShow (lots_in (ward_of ward).poll l) is_declared ward.count ward.stages) (sym ls)
    (subst (λ d. MayShow (lots_of ward) d ward.count ward.stages) (sym declared) shows)))
    (sheet_is ∙ ap (λ v. Some (sheet v ward.stages)) (sym w))

-- a ward that isn't sealed, as it is listed
pub unsealed_listed : (number seats : ℕ) (name : Text) (is_keying : Bool) (standing : WardStanding) (elected : List (ℕ × String Global))
    → standing ≡ (if is_keying then Keying else Nominations) → elected ≡ []
    → IsUnsealedMade (record { number = number; name = name; seats = seats; standing = standing; is_contested = false; elected = map elected_shown elected })
unsealed_listed number seats name is_keying standing elected so none =
    let listed_so : WardStanding → List (ℕ × String Global) → ListedEntry =
    λ s es. record { number = number; name = name; seats = seats; standing = s; is_contested = false; elected = map elected_shown es } in
    record {
      ward = record { number = number; name = name; seats = seats; is_keying = is_keying };
      listed_is = ap (λ s. listed_so s elected) so ∙ ap (λ es. listed_so (if is_keying then Keying else Nominations) es) none;
    }

-- a ward that isn't sealed, as it is listed, given that it was read back
pub unsealed_again : (number seats : ℕ) (name : Text) (is_keying : Bool) (standing : WardStanding) (elected : List (ℕ × String Global)) (ward : UnsealedEntry)
    → standing ≡ (if is_keying then Keying else Nominations) → elected ≡ [] → number ≡ ward.number → name ≡ ward.name → seats ≡ ward.seats → is_keying ≡ ward.is_keying
    → record { number = number; name = name; seats = seats; standing = standing; is_contested = false; elected = map elected_shown elected } ≡ listed_of (is_unsealed ward)
unsealed_again number seats name is_keying standing elected ward so none numbered named seated keying =
    let entry : ℕ → ℕ → Text → WardStanding → List (ℕ × String Global) → ListedEntry =
    λ n k t s es. record { number = n; name = t; seats = k; standing = s; is_contested = false; elected = map elected_shown es } in
    ap (λ n. entry n seats name standing elected) numbered ∙ (ap (λ t. entry ward.number seats t standing elected) named
    ∙ (ap (λ k. entry ward.number k ward.name standing elected) seated ∙ (ap (λ s. entry ward.number ward.seats ward.name s elected) (so ∙ ap (λ k. if k then Keying else Nominations) keying)
    ∙ ap (λ es. entry ward.number ward.seats ward.name (if ward.is_keying then Keying else Nominations) es) none)))

-- ---- a ward that was made again from the ballots of an office

read_once : (text : Text) (one other : ReaderEntry) → read text ≡ Ok one → read text ≡ Ok other → one ≡ other
read_once text one other is also = cc

made_again : (title : Text) (text : Option Text) (made : SealedWard) (ward : SealedEntry) → IsSealed ward → text ≡ Some (sheet (ward_of ward) ward.stages)
    → IsReadingMade title ward.reading ward.is_declared text made → IsMadeAs title ward made
made_again title text made ward so sheet_is is =
    let w = ward_of ward in
    let bundles = ward.reading.papers.bundles in
    let lots = ward.reading.remarks.lots in
    let count = ward_once w.poll w bundles lots is.count ward.count is.counted so.counted in
    let stages : is.stages ≡ ward.stages = is.shows.alone ward.stages (subst (λ all. AreShown ward.is_declared all ward.stages) (sym count.stages) so.shows) sheet_is in
    record {
      texts_are = is.texts_are
          ∙ (ap (λ ss. texts_as title w bundles (lots_of ward) ss (surpluses_in w.poll w bundles lots (length ss)) is.count.elected ward.is_declared) stages
          ∙ ap (λ elected. texts_as title w bundles (lots_of ward) ward.stages (passed_of ward) elected ward.is_declared) count.elected);
      listed_is = is.listed_is ∙ ap (λ elected. listed_as w elected ward.is_declared) count.elected;
    }

-- the ward of an office is made again from its ballots and its sheet
pub made_from : (title ballots : Text) (is_declared : Bool) (text : Option Text) (reading : ReaderEntry) (made : SealedWard) (ward : SealedEntry) → read ballots ≡ Ok reading
    → IsReadingMade title reading is_declared text made → IsMadeFrom ward ballots is_declared text → IsMadeAs title ward made
made_from title ballots is_declared text reading made ward understood is from =
    let same : reading ≡ ward.reading = read_once ballots reading ward.reading understood (ap read from.ballots_are ∙ from.so.understood) in
    let own = subst (λ d. IsReadingMade title ward.reading d text made) from.declared_is (subst (λ r. IsReadingMade title r is_declared text made) same is) in
    made_again title text made ward from.so from.sheet_is own

-- and its ballots are written as they were
pub made_ballots : (title ballots : Text) (is_declared : Bool) (text : Option Text) (made : SealedWard) (ward : SealedEntry) → IsMadeAs title ward made
    → IsMadeFrom ward ballots is_declared text → string_bytes made.texts.ballots ≡ ballots
made_ballots title ballots is_declared text made ward told from = ap (λ (t : WardEntry). unwrap_or t.ballots []) told.texts_are ∙ sym from.ballots_are
