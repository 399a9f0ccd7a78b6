-- The files of a folder of which everything is known are found.
use Rattle.std.proofs.Common.{◌≡◌, ◌∙◌, Bool, true, false, List, [], ◌∷◌, get_or, map, refl, sym, ap, subst, Some, None, Ok, Err}
use Rattle.std.specs.Prelude.{◌||◌, if◌then◌else◌, Option, IfSome, bytes_eq, string_bytes}
use Rattle.std.specs.List.{All, AllByRecursion, Contains, list_any}
use Rattle.std.proofs.lemmas.Bool.{false≢true}
use Rattle.std.proofs.lemmas.List.Elements.{All-from_recursion, All-weaker, recursion_from_All}
use Rattle.std.proofs.lemmas.List.Folds.{list_any_at}
use Rattle.std.proofs.lemmas.List.Sums.{list_all-from_AllPass}
use Rattle.publication.specs.Files.{FileEntry, names}
use Rattle.checker.specs.FolderChecks.{IsFolderChecked, IsFoundChecked, IsKnownFolder}
use Rattle.checker.specs.FolderViews.{AreFound, IsContent, IsFileIn, bytes_named, bytes_or, has_text, is_file, is_found, is_named, name_of}
use Rattle.checker.specs.InputFiles.{File, Folder, InputFiles, HoldsNames}
use Rattle.checker.specs.Tokens.{Text}
use Rattle.checker.specs.declared.folder_checking.FolderChecked.{FolderChecked}
use Rattle.checker.specs.declared.folder_checking.FolderChecked.TheVariants.{Confirmed, Differs}
use Rattle.checker.specs.declared.folder_files.FileContent.{FileContent}
use Rattle.checker.specs.declared.folder_files.FileContent.TheVariants.{Bytes, Unread}
use Rattle.checker.specs.declared.folder_files.FolderFile.{FolderFile}
use Rattle.checker.proofs.FolderLemmas.{folder_confirmed}
use Rattle.checker.proofs.LineLaws.{and_both}
use Rattle.checker.proofs.NumberLaws.{pointwise_same}
use Rattle.checker.proofs.StageLaws.{bytes_same}

-- ---- what is known is what is held

known_names : (folder : Option Folder) (inside names : List Text) → IfSome folder (λ f. f ≡ Ok names) → folder ≡ Some (Ok inside) → names ≡ inside
known_names None inside names held known = absurd (cc)
known_names (Some folder) inside names held known = cc

known_text : (file : Option File) (text bytes : Text) → IfSome file (λ f. f ≡ Ok bytes) → file ≡ Some (Ok text) → bytes ≡ text
known_text None text bytes held known = absurd (cc)
known_text (Some file) text bytes held known = cc

known_read : (file : Option File) (text why : Text) → IfSome file (λ f. f ≡ Err why) → file ≡ Some (Ok text) → ⊥
known_read None text why held known = absurd (cc)
known_read (Some file) text why held known = absurd (cc)

-- a file whose text is known was read, and has it
pub has_known : (held : InputFiles) (path name text : Text) (content : FileContent) → IsContent held path name content → held.inside path name ≡ Some (Ok text) → has_text text content ≡ true
has_known held path name text (Bytes bytes) is known = bytes_same bytes.items text (known_text (held.inside path name) text bytes.items is known)
has_known held path name text (Unread why) is known = absurd (known_read (held.inside path name) text (string_bytes why) is known)

has_bytes : (held : InputFiles) (path name text : Text) (content : FileContent) (others : Option Text) → IsContent held path name content → held.inside path name ≡ Some (Ok text)
    → bytes_or content others ≡ Some text
has_bytes held path name text (Bytes bytes) others is known = ap Some (known_text (held.inside path name) text bytes.items is known)
has_bytes held path name text (Unread why) others is known = absurd (known_read (held.inside path name) text (string_bytes why) is known)

-- ---- files by their names

any_map : {X Y : Type 0} (p : Y → Bool) (f : X → Y) (xs : List X) → list_any p (map f xs) ≡ list_any (λ x. p (f x)) xs
any_map p f [] = refl
any_map p f (x ∷ xs) = ap (λ b. p (f x) || b) (any_map p f xs)

any_more : {X : Type 0} (p q : X → Bool) (xs : List X) → AllByRecursion (λ x. p x ≡ true → q x ≡ true) xs → list_any p xs ≡ true → list_any q xs ≡ true
any_more p q [] all any = any
any_more p q (x ∷ xs) all any = by (p x) (q x) refl refl any (any_more p q xs all.1)
  where
    by : (a b : Bool) → p x ≡ a → q x ≡ b → (a || list_any p xs) ≡ true → (list_any p xs ≡ true → list_any q xs ≡ true) → (b || list_any q xs) ≡ true
    by a true i j any rest = refl
    by true false i j any rest = absurd (false≢true (sym j ∙ all.0 i))
    by false false i j any rest = rest any

-- a name that is among those of files
has_one : {X : Type 0} (name_in : X → Text) (xs : List X) (name : Text) → Contains (map name_in xs) name → list_any (λ x. bytes_eq (name_in x) name) xs ≡ true
has_one name_in xs name has =
    sym (any_map (λ n. bytes_eq n name) name_in xs) ∙ list_any_at (λ n. bytes_eq n name) (map name_in xs) has.0 name has.1 (bytes_same _ name has.2)

named_bytes : (found : List FolderFile) (name text : Text) → AllByRecursion (λ f. bytes_eq (name_of f) name ≡ true → (others : Option Text) → bytes_or f.content others ≡ Some text) found
    → list_any (λ f. bytes_eq (name_of f) name) found ≡ true → bytes_named name found ≡ Some text
named_bytes [] name text all any = absurd (false≢true any)
named_bytes (f ∷ found) name text all any = by (bytes_eq (name_of f) name) refl any (named_bytes found name text all.1)
  where
    by : (b : Bool) → bytes_eq (name_of f) name ≡ b → (b || list_any (λ g. bytes_eq (name_of g) name) found) ≡ true
        → (list_any (λ g. bytes_eq (name_of g) name) found ≡ true → bytes_named name found ≡ Some text)
        → (if b then bytes_or f.content (bytes_named name found) else bytes_named name found) ≡ Some text
    by true is any rest = all.0 is (bytes_named name found)
    by false is any rest = rest any

-- ---- the files that were read are those that are known

-- a file that is known is found
module _ (held : InputFiles) (path : Text) (found : List FolderFile) (file : FileEntry) (all : AllByRecursion (IsFileIn held path) found)
    (here : Contains (map name_of found) file.name) (known : held.inside path file.name ≡ Some (Ok file.text)) where
  weaken : {P Q : FolderFile → Type 0} → ((f : FolderFile) → P f → Q f) → (fs : List FolderFile) → AllByRecursion P fs → AllByRecursion Q fs
  weaken so [] each = tt
  weaken so (f ∷ fs) each = (so f each.0, weaken so fs each.1)

  known_of : (f : FolderFile) → bytes_eq (name_of f) file.name ≡ true → held.inside path (name_of f) ≡ Some (Ok file.text)
  known_of f is = ap (held.inside path) (pointwise_same (name_of f) file.name is) ∙ known

  known_found : is_found found file ≡ true
  known_found =
      any_more (λ f. bytes_eq (name_of f) file.name) (is_file file) found
      (weaken (λ f is named. and_both _ _ named (has_known held path (name_of f) file.text f.content is (known_of f named))) found all) (has_one name_of found file.name here)

  known_named : bytes_named file.name found ≡ Some file.text
  known_named =
      named_bytes found file.name file.text (weaken (λ f is named others. has_bytes held path (name_of f) file.text f.content others is (known_of f named)) found all)
      (has_one name_of found file.name here)

-- a file that was read has a known name
name_known : (files : List FileEntry) (f : FolderFile) → Contains (names files) (name_of f) → is_named files f ≡ true
name_known files f has = has_one (λ (file : FileEntry). file.name) files (name_of f) has

down : (P : Text → Type 0) (fs : List FolderFile) → AllByRecursion P (map name_of fs) → AllByRecursion (λ f. P (name_of f)) fs
down P [] every = tt
down P (f ∷ fs) every = (every.0, down P fs every.1)

names_known : (files : List FileEntry) (found : List FolderFile) (ns : List Text) → map name_of found ≡ ns → All (Contains (names files)) ns → All (λ f. is_named files f ≡ true) found
names_known files found ns own alone =
    let has : Text → Type 0 = Contains (names files) in
    let each = down has found (recursion_from_All has (map name_of found) (subst (All has) (sym own) alone)) in
    All-weaker (λ f. has (name_of f)) (λ f. is_named files f ≡ true) (λ f known. name_known files f known) found (All-from_recursion (λ f. has (name_of f)) found each)

-- the files that were read are the given ones, if those are all that is known to be there
pub all_found : (held : InputFiles) (path : Text) (inside : List Text) (found : List FolderFile) (files : List FileEntry) → HoldsNames held path inside
    → map name_of found ≡ inside → All (IsFileIn held path) found → IsKnownFolder held path files → AreFound found files
all_found held path inside found files listed read all known =
    let own : map name_of found ≡ known.inside = read ∙ known_names (held.folders path) known.inside inside listed known.listed in
    let each = recursion_from_All (IsFileIn held path) found all in
    let P : FileEntry → Type 0 = λ file. Contains known.inside file.name in
    let Q : FileEntry → Type 0 = λ file. held.inside path file.name ≡ Some (Ok file.text) in
    let both : (R : FileEntry → Type 0) → ((file : FileEntry) → Contains (map name_of found) file.name → held.inside path file.name ≡ Some (Ok file.text) → R file) → All R files =
    λ R so k d within. so (get_or files k d) (subst (λ ns. Contains ns (get_or files k d).name) (sym own) (known.there k d within)) (known.same k d within) in
    record {
      same = and_both _ _ (list_all-from_AllPass (is_found found) files (both (λ file. is_found found file ≡ true) (λ file here is. known_found held path found file each here is)))
          (list_all-from_AllPass (is_named files) found (names_known files found known.inside own known.alone));
      each = both (λ file. bytes_named file.name found ≡ Some file.text) (λ file here is. known_named held path found file each here is);
    }

-- the outcome for a folder, given that for its files
pub folder_checked : (held : InputFiles) (path : Text) (inside : List Text) (found : List FolderFile) (checked : FolderChecked) → HoldsNames held path inside
    → map name_of found ≡ inside → All (IsFileIn held path) found → IsFoundChecked found checked → IsFolderChecked held path checked
folder_checked held path inside found (Confirmed count) listed read all so = folder_confirmed held path inside found count listed read all so
folder_checked held path inside found (Differs lines) listed read all so = λ files known. so files (all_found held path inside found files listed read all known)
