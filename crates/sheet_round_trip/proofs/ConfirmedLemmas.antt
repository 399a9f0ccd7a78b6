-- The outcome of checking a folder that is known to have exactly the files of an office's folder: it is confirmed, with the number of these files.
use Rattle.std.proofs.Common.{◌≡◌, ℕ, ◌+◌, ◌≤◌, ◌&&◌, nat_le, nat_lt, true, List, [], ◌∷◌, length, map, Some, refl, sym, ap, subst, ◌∙◌, arith}
use Rattle.std.specs.Prelude.{IfSome, Ok, bytes_eq}
use Rattle.std.specs.List.{All, Contains, IsDistinct, list_any}
use Rattle.std.proofs.lemmas.Bool.{and_from, and_parts, le-leb, leb-true}
use Rattle.std.proofs.lemmas.Cmp.{nat_list_eq_equiv}
use Rattle.std.proofs.lemmas.List.{length-map}
use Rattle.std.proofs.lemmas.List.Elements.{All-contains, All-map}
use Rattle.std.proofs.lemmas.Map.Made.{length-le_from_is_member}
use Rattle.std.proofs.lemmas.Map.Views.{Contains-from_any, list_any-from_Contains}
use Rattle.std.proofs.lemmas.Slice.Eq.{bytes_eq-Decides}
use Rattle.publication.specs.Election.{ascend_from, numbers}
use Rattle.publication.specs.Files.{FileEntry, names}
use Rattle.publication.proofs.FileNames.{names_distinct}
use Rattle.checker.specs.FolderChecks.{IsFolderChecked, IsKnownFolder}
use Rattle.checker.specs.Folders.{ArePublished, FolderWard, IsConfirmedFolder, IsOfficeFolder, election_of, is_sealed, is_unsealed, listed_of, sealed_in, texts_of}
use Rattle.checker.specs.InputFiles.{AreNamesUnreadBy, Folder, InputFiles}
use Rattle.checker.specs.declared.folder_checking.FolderChecked.{FolderChecked}
use Rattle.checker.specs.declared.folder_checking.FolderChecked.TheVariants.{Confirmed, Differs}
use Rattle.checker.specs.declared.input_files.NotRead.{NotRead}
use Rattle.checker.specs.declared.input_files.NotRead.TheVariants as unread
use Rattle.published_office.specs.OfficeFolder.{published_of}
use Rattle.sheet_round_trip.specs.OwnFolders.{IsFolderConfirmed, OwnFoldersAreConfirmed, OwnFoldersAreOfficeFolders}

-- ---- the names of the files

-- numbers that ascend from one number on ascend from any lower one
from_lower : (low high : ℕ) (ns : List ℕ) → low ≤ high → ascend_from high ns ≡ true → ascend_from low ns ≡ true
from_lower low high [] lower ascend = refl
from_lower low high (n ∷ ns) lower ascend =
    let parts = and_parts (nat_le high n) (nat_lt n 256 && ascend_from (n + 1) ns) ascend in
    let least = leb-true high n parts.0 in
    and_from _ _ (le-leb low n (omega (arith, lower, least))) parts.1

-- if the numbers of wards ascend, so do those of the sealed ones
sealed_ascend : (title : List ℕ) (least : ℕ) (wards : List FolderWard) → ascend_from least (map (λ (ward : FolderWard). (listed_of ward).number) wards) ≡ true
    → ascend_from least (numbers (map (texts_of title) (sealed_in wards))) ≡ true
sealed_ascend title least [] ascend = refl
sealed_ascend title least (is_sealed w ∷ wards) ascend =
    let parts = and_parts _ _ ascend in
    let others = and_parts _ _ parts.1 in
    and_from _ _ parts.0 (and_from _ _ others.0 (sealed_ascend title ((listed_of (is_sealed w)).number + 1) wards others.1))
sealed_ascend title least (is_unsealed w ∷ wards) ascend =
    let parts = and_parts (nat_le least w.number) _ ascend in
    let others = and_parts (nat_lt w.number 256) _ parts.1 in
    let above = leb-true least w.number parts.0 in
    from_lower least (w.number + 1) (numbers (map (texts_of title) (sealed_in wards))) (omega (arith, above)) (sealed_ascend title (w.number + 1) wards others.1)

-- the files of a published election have different names
distinct_names : (title : List ℕ) (wards : List FolderWard) (files : List FileEntry) → ArePublished title wards files → IsDistinct bytes_eq (names files)
distinct_names title wards files so =
    subst (λ (fs : List FileEntry). IsDistinct bytes_eq (names fs)) (sym so.are) (names_distinct (election_of title wards) (sealed_ascend title 0 wards so.ordered))

-- names that are all among others, and differ, are at most as many
at_most : (xs ys : List (List ℕ)) → IsDistinct bytes_eq xs → ((q : List ℕ) → list_any (bytes_eq q) xs ≡ true → list_any (bytes_eq q) ys ≡ true) → length xs ≤ length ys
at_most xs ys distinct among = length-le_from_is_member nat_list_eq_equiv xs ys distinct among

-- a name that is in a list is in another list that has all its names
still_in : (xs ys : List (List ℕ)) → All (Contains ys) xs → (q : List ℕ) → list_any (bytes_eq q) xs ≡ true → list_any (bytes_eq q) ys ≡ true
still_in xs ys all q among =
    list_any-from_Contains nat_list_eq_equiv q ys (All-contains (Contains ys) xs q all (Contains-from_any (λ (a b : List ℕ) same. (bytes_eq-Decides a b).0 same) q xs among))

-- a folder with exactly the names of some files and exactly the names of others has as many of both
module _ (one other : List FileEntry) (inside : List (List ℕ)) where
  abbrev Has : List FileEntry → Type 0
  Has files = All (λ (file : FileEntry). Contains inside file.name) files × All (Contains (names files)) inside

  no_more : (files others : List FileEntry) → IsDistinct bytes_eq (names files) → Has files → Has others → length files ≤ length others
  no_more files others distinct has had =
      let there : All (Contains inside) (names files) = All-map (Contains inside) (λ (file : FileEntry). file.name) files has.0 in
      let most = at_most (names files) (names others) distinct
      (λ q among. still_in inside (names others) had.1 q (still_in (names files) inside there q among)) in
      omega (arith, most, length-map files (λ (file : FileEntry). file.name), length-map others (λ (file : FileEntry). file.name))

  as_many : IsDistinct bytes_eq (names one) → IsDistinct bytes_eq (names other) → Has one → Has other → length one ≡ length other
  as_many distinct_one distinct_other has_one has_other =
      omega (arith, no_more one other distinct_one has_one has_other, no_more other one distinct_other has_other has_one)

-- ---- the outcome

-- the names in a folder that are known are the only ones
same_inside : (folder : Folder) (one other : List (List ℕ)) → folder ≡ Ok one → folder ≡ Ok other → other ≡ one
same_inside folder one other is_one is_other = let same : Ok other ≡ Ok one = sym is_other ∙ is_one in cc

module _ (held : InputFiles) (path : List ℕ) (files : List FileEntry) (office : IsOfficeFolder files) (known : IsKnownFolder held path files) where
  -- the number of files of a folder that is confirmed
  right_count : (count : ℕ) → IsConfirmedFolder held path count → count ≡ length files
  right_count count is =
      let listed : IfSome (Some (Ok known.inside)) (λ folder. folder ≡ Ok is.has.inside) = subst (λ folder. IfSome folder (λ f. f ≡ Ok is.has.inside)) known.listed is.has.listed in
      let inside : is.has.inside ≡ known.inside = same_inside (Ok known.inside) known.inside is.has.inside refl listed in
      let there : All (λ (file : FileEntry). Contains known.inside file.name) is.files = subst (λ ns. All (λ (file : FileEntry). Contains ns file.name) is.files) inside is.has.there in
      let alone : All (Contains (names is.files)) known.inside = subst (All (Contains (names is.files))) inside is.has.alone in
      is.many
      ∙ as_many is.files files known.inside (distinct_names is.is.title is.is.wards is.files is.is.so) (distinct_names office.title office.wards files office.so) (there, alone)
      (known.there, known.alone)

  alone : (checked : FolderChecked) → IsFolderChecked held path checked → checked ≡ Confirmed (length files)
  alone (Confirmed count) is = ap Confirmed (right_count count is)
  alone (Differs lines) is = absurd (is files known office)

  unhindered : (why : NotRead) → AreNamesUnreadBy held path why → why ≡ unread.Memory
  unhindered unread.Memory is = refl
  unhindered (unread.Because why) is = absurd (let e = rw known.listed at is in cc)

  -- a folder that is known to have exactly the files of an office's folder is confirmed
  pub folder_confirmed : IsFolderConfirmed held path (length files)
  folder_confirmed = record { alone = alone; unhindered = unhindered }

pub own_confirmed : OwnFoldersAreOfficeFolders → OwnFoldersAreConfirmed
own_confirmed office s title held path is text known = folder_confirmed held path (published_of title true s) (office s title is text) known
