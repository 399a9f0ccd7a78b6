-- The wards of a folder that an office published, made again one by one.
use Rattle.std.proofs.Common.{◌≡◌, ◌∙◌, ℕ, ◌+◌, ◌<◌, ◌≤◌, Bool, true, false, List, [], ◌∷◌, ◌++◌, get_or, length, map, take, refl, sym, ap, subst, arith, Some, None}
use Rattle.std.specs.Prelude.{Option, codes, if◌then◌else◌}
use Rattle.std.specs.List.{All}
use Rattle.std.proofs.lemmas.List.{get_or-map, length-map, map-append, take_all, take_more}
use Rattle.std.proofs.lemmas.List.Elements.{All-get_or}
use Rattle.publication.specs.Election.{WardEntry}
use Rattle.publication.specs.Parts.{ward_file}
use Rattle.sheet.specs.Index.{ListedEntry, listed}
use Rattle.sheet.specs.declared.index.ListedWard.{ListedWard}
use Rattle.sheet.specs.declared.index.WardStanding.TheVariants.{Nominations, Keying, Sealed, Declared}
use Rattle.checker.specs.FolderViews.{bytes_named}
use Rattle.checker.specs.Folders.{FolderWard, IsUnsealedText, SealedEntry, UnsealedEntry, is_sealed, is_unsealed, listed_of, sealed_in, texts_of, ward_of}
use Rattle.checker.specs.FolderWards.{AreMadeAs, HasTexts, IsAppended, IsGiven, IsMadeFrom, row_listed, told_texts}
use Rattle.checker.specs.IndexPage.{RowEntry, row_entry}
use Rattle.checker.specs.Tokens.{Text}
use Rattle.checker.specs.declared.folder_election.FolderElection.{FolderElection}
use Rattle.checker.specs.declared.folder_election.MakeFault.{MakeFault}
use Rattle.checker.specs.declared.folder_election.MakeFault.TheVariants as fault
use Rattle.checker.specs.declared.folder_files.FolderFile.{FolderFile}
use Rattle.checker.specs.declared.folder_index.IndexRow.{IndexRow}
use Rattle.checker.specs.declared.folder_texts.SealedTexts.{SealedTexts}
use Rattle.checker.proofs.FolderLemmas.{append_none, map-push, sealed_in-append}

-- ---- a ward that is appended

pub listed_pushed : (old new : List ListedWard) (ward : ListedWard) (entry : ListedEntry) → new ≡ old ++ ward ∷ [] → listed ward ≡ entry → map listed new ≡ map listed old ++ entry ∷ []
listed_pushed old new ward entry more is = ap (map listed) more ∙ (map-push listed old ward ∙ ap (λ l. map listed old ++ l ∷ []) is)

pub texts_pushed : (old new : List SealedTexts) (texts : SealedTexts) (entry : WardEntry) → new ≡ old ++ texts ∷ [] → told_texts texts ≡ entry → map told_texts new ≡ map told_texts old ++ entry ∷ []
texts_pushed old new texts entry more is = ap (map told_texts) more ∙ (map-push told_texts old texts ∙ ap (λ t. map told_texts old ++ t ∷ []) is)

pub texts_kept : (texts : List WardEntry) → texts ≡ texts ++ []
texts_kept texts = sym (append_none texts)

-- ---- the texts from which a ward is made again

some_once : {X : Type 0} {x y : X} → Some x ≡ Some y → x ≡ y
some_once e = cc

pub from_texts : (found : List FolderFile) (entry : SealedEntry) (number : ℕ) (ballots : Text) (text : Option Text) (is_declared : Bool) → HasTexts found entry
    → number ≡ (ward_of entry).number → Some ballots ≡ bytes_named (ward_file number (codes "-ballots.txt")) found → text ≡ bytes_named (ward_file number (codes "-sheet.txt")) found
    → is_declared ≡ entry.is_declared → IsMadeFrom entry ballots is_declared text
from_texts found entry number ballots text is_declared has numbered read sheet_read declared = record {
  so = has.so;
  ballots_are = some_once (read ∙ (ap (λ n. bytes_named (ward_file n (codes "-ballots.txt")) found) numbered ∙ has.ballots));
  declared_is = declared;
  sheet_is = sheet_read ∙ (ap (λ n. bytes_named (ward_file n (codes "-sheet.txt")) found) numbered ∙ has.sheet_is);
}

none_some : {X : Type 0} {x : X} → None ≡ Some x → ⊥
none_some e = absurd (cc)

pub never_missing : (found : List FolderFile) (entry : SealedEntry) (number : ℕ) → HasTexts found entry → number ≡ (ward_of entry).number
    → None ≡ bytes_named (ward_file number (codes "-ballots.txt")) found → ⊥
never_missing found entry number has numbered none = none_some (none ∙ (ap (λ n. bytes_named (ward_file n (codes "-ballots.txt")) found) numbered ∙ has.ballots))

-- ---- the row of a ward

keying_same : (a b : Bool) → (if a then Keying else Nominations) ≡ (if b then Keying else Nominations) → a ≡ b
keying_same true true e = refl
keying_same false false e = refl
keying_same true false e = absurd (cc)
keying_same false true e = absurd (cc)

declared_same : (a b : Bool) → (if a then Declared else Sealed) ≡ (if b then Declared else Sealed) → a ≡ b
declared_same true true e = refl
declared_same false false e = refl
declared_same true false e = absurd (cc)
declared_same false true e = absurd (cc)

apart : (a b : Bool) → (if a then Keying else Nominations) ≡ (if b then Declared else Sealed) → ⊥
apart true true e = absurd (cc)
apart true false e = absurd (cc)
apart false true e = absurd (cc)
apart false false e = absurd (cc)

-- what is shown for the ward of a row with the status of one that isn't sealed
pub unsealed_row : (found : List FolderFile) (row : RowEntry) (R : FolderWard → Type 0) (is_keying : Bool) → row.standing ≡ (if is_keying then Keying else Nominations)
    → ((ward : UnsealedEntry) → IsUnsealedText ward → row ≡ row_listed (listed_of (is_unsealed ward)) → is_keying ≡ ward.is_keying → R (is_unsealed ward))
    → (ward : FolderWard) → IsGiven found ward → row ≡ row_listed (listed_of ward) → R ward
unsealed_row found row R is_keying stands so (is_unsealed ward) given same =
    so ward given same (keying_same is_keying ward.is_keying (sym stands ∙ ap (λ (r : RowEntry). r.standing) same))
unsealed_row found row R is_keying stands so (is_sealed ward) given same =
    absurd (apart is_keying ward.is_declared (sym stands ∙ ap (λ (r : RowEntry). r.standing) same))

-- or of a sealed one
pub sealed_row : (found : List FolderFile) (row : RowEntry) (R : FolderWard → Type 0) (is_declared : Bool) → row.standing ≡ (if is_declared then Declared else Sealed)
    → ((ward : SealedEntry) → HasTexts found ward → row.number ≡ (ward_of ward).number → is_declared ≡ ward.is_declared → R (is_sealed ward))
    → (ward : FolderWard) → IsGiven found ward → row ≡ row_listed (listed_of ward) → R ward
sealed_row found row R is_declared stands so (is_sealed ward) given same =
    so ward given (ap (λ (r : RowEntry). r.number) same) (declared_same is_declared ward.is_declared (sym stands ∙ ap (λ (r : RowEntry). r.standing) same))
sealed_row found row R is_declared stands so (is_unsealed ward) given same =
    absurd (apart ward.is_keying is_declared (sym (ap (λ (r : RowEntry). r.standing) same) ∙ stands))

-- ---- the wards so far

pub made_none : (title : Text) (election : FolderElection) (wards : List FolderWard) → election.listed.items ≡ [] → election.sealed.items ≡ [] → AreMadeAs title (take 0 wards) election
made_none title election wards none also = record {
  listed_are = ap (map listed) none;
  texts_are = ap (map told_texts) also;
}

made_more : (title : Text) (old new : FolderElection) (wards : List FolderWard) (ward : FolderWard) → AreMadeAs title wards old → IsAppended title old new ward
    → AreMadeAs title (wards ++ ward ∷ []) new
made_more title old new wards ward made more = record {
  listed_are = more.listed_are ∙ (ap (λ ls. ls ++ listed_of ward ∷ []) made.listed_are ∙ sym (map-push listed_of wards ward));
  texts_are = more.texts_are ∙ (ap (λ ts. ts ++ map (texts_of title) (sealed_in (ward ∷ []))) made.texts_are
      ∙ (sym (map-append (texts_of title) (sealed_in wards) (sealed_in (ward ∷ []))) ∙ ap (map (texts_of title)) (sym (sealed_in-append wards (ward ∷ [])))));
}

-- the ward of a row, at its place
record IsWardAt (found : List FolderFile) (wards : List FolderWard) (i : ℕ) (row : RowEntry) : Type 0 where
  ward : FolderWard
  given : IsGiven found ward
  same : row ≡ row_listed (listed_of ward)
  next : take (i + 1) wards ≡ take i wards ++ ward ∷ []

ward_at : (found : List FolderFile) (rows : List IndexRow) (wards : List FolderWard) (i : ℕ) (d : IndexRow) → All (IsGiven found) wards
    → map row_entry rows ≡ map (λ ward. row_listed (listed_of ward)) wards → i < length rows → IsWardAt found wards i (row_entry (get_or rows i d))
ward_at found rows [] i d given same within =
    absurd (omega (arith, within, length-map rows row_entry, ap (λ (xs : List RowEntry). length xs) same))
ward_at found rows (first ∷ others) i d given same within =
    let wards = first ∷ others in
    let R : FolderWard → RowEntry = λ ward. row_listed (listed_of ward) in
    let long : length rows ≡ length wards = sym (length-map rows row_entry) ∙ (ap (λ (xs : List RowEntry). length xs) same ∙ length-map wards R) in
    let also : i < length wards = omega (arith, within, long) in
    record {
      ward = get_or wards i first;
      given = All-get_or (IsGiven found) wards i first also given;
      same = sym (get_or-map row_entry rows i d (row_entry d) within) ∙ (ap (λ (xs : List RowEntry). get_or xs i (row_entry d)) same
          ∙ get_or-map R wards i first (row_entry d) also);
      next = take_more wards i first also;
    }

-- another row
pub made_next : (title : Text) (found : List FolderFile) (rows : List IndexRow) (i : ℕ) (d : IndexRow) (old new : FolderElection) → i < length rows
    → ((ward : FolderWard) → IsGiven found ward → row_entry (get_or rows i d) ≡ row_listed (listed_of ward) → IsAppended title old new ward)
    → ((wards : List FolderWard) → All (IsGiven found) wards → map row_entry rows ≡ map (λ ward. row_listed (listed_of ward)) wards → AreMadeAs title (take i wards) old)
    → (wards : List FolderWard) → All (IsGiven found) wards → map row_entry rows ≡ map (λ ward. row_listed (listed_of ward)) wards → AreMadeAs title (take (i + 1) wards) new
made_next title found rows i d old new within pushed so wards given same =
    let at = ward_at found rows wards i d given same within in
    subst (λ ws. AreMadeAs title ws new) (sym at.next) (made_more title old new (take i wards) at.ward (so wards given same) (pushed at.ward at.given at.same))

-- or a row that isn't read, since an allocation failed
pub made_stopped : (found : List FolderFile) (rows : List IndexRow) (i : ℕ) (d : IndexRow) (why : MakeFault) → i < length rows
    → ((ward : FolderWard) → IsGiven found ward → row_entry (get_or rows i d) ≡ row_listed (listed_of ward) → why ≡ fault.Memory)
    → (wards : List FolderWard) → All (IsGiven found) wards → map row_entry rows ≡ map (λ ward. row_listed (listed_of ward)) wards → why ≡ fault.Memory
made_stopped found rows i d why within stopped wards given same =
    let at = ward_at found rows wards i d given same within in
    stopped at.ward at.given at.same

-- all rows
pub made_all : (title : Text) (rows : List IndexRow) (i : ℕ) (election : FolderElection) (wards : List FolderWard) → length rows ≤ i
    → map row_entry rows ≡ map (λ ward. row_listed (listed_of ward)) wards → AreMadeAs title (take i wards) election → AreMadeAs title wards election
made_all title rows i election wards all same made =
    let R : FolderWard → RowEntry = λ ward. row_listed (listed_of ward) in
    let long : length rows ≡ length wards = sym (length-map rows row_entry) ∙ (ap (λ (xs : List RowEntry). length xs) same ∙ length-map wards R) in
    subst (λ ws. AreMadeAs title ws election) (take_all i wards (omega (arith, all, long))) made
