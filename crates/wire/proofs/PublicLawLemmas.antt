-- What is shown in public depends only on the wards and on the elections of the sealed ones.
use Rattle.std.proofs.Common.{◌≡◌, ◌∙◌, ◌&&◌, ◌==◌, Bool, true, false, ℕ, nat_lt, List, [], ◌∷◌, ◌++◌, Option, Some, None, Result, Ok, Err, ap, map, refl, sym}
use Rattle.std.specs.Prelude.{find, if◌then◌else◌, is_some, length}
use Rattle.std.specs.Ordering.{is_eq}
use Rattle.std.specs.List.{All, filter, flat_map, list_all}
use Rattle.std.proofs.lemmas.Bool.{eqb-true}
use Rattle.std.proofs.lemmas.List.Elements.{All-cons, All-head, All-nil, All-tail}
use Rattle.register.specs.Elections.{ElectionEntry, elected_of, election_of, is_counted, is_counted_right, is_declared, is_uncounted}
use Rattle.register.specs.Offices.{CandidateEntry, OfficeState, WardEntry, ward_at, ward_compared}
use Rattle.register.specs.Ranges.{is_ward_number}
use Rattle.register.specs.StateConditions.{all_counted}
use Rattle.register.specs.Status.{status_of}
use Rattle.register.specs.declared.phase.Phase.{Phase}
use Rattle.register.specs.declared.phase.Phase.TheVariants.{Nominations, Keying, Sealed, Declared}
use Rattle.register.specs.declared.refusal.Reason.{Reason}
use Rattle.register.specs.declared.refusal.Reason.TheVariants.{WrongPhase}
use Rattle.sheet.specs.Index.{ListedEntry, index_row}
use Rattle.store.specs.Overviews.{ward_view_of}
use Rattle.office.specs.Index.{is_among_elected, listed_shown, standing_in}
use Rattle.office.specs.Sheets.{candidate_shown, result_page_of}
use Rattle.wire.specs.PublicLaws.{AlikeShowAlike, AreAlikeInPublic, ListsUnsealed, RestsOnWards}
use Rattle.wire.specs.PublicReplies.{page_found, page_told, screen_data, screen_ward_data}
use Rattle.wire.specs.Responses.{printed_response}
use Rattle.wire.specs.Serving.{data_response, read_response}
use Rattle.wire.specs.declared.public_target.PublicTarget.TheVariants.{Index, Screen, Wards, Page}

-- ---- the list of wards

wards-again : (s : OfficeState) (wards : List WardEntry) → map (λ v. v.ward) (map (ward_view_of s) wards) ≡ wards
wards-again s [] = refl
wards-again s (w ∷ wards) = ap (λ ws. w ∷ ws) (wards-again s wards)

pub RestsOnWards-all : (title : List ℕ) → RestsOnWards title
RestsOnWards-all title s = ap (screen_data title) (wards-again s s.wards)

-- ---- two offices that look alike in public

-- the election of a ward is the same in both offices if the ward is sealed
abbrev IsSameOnceSealed : OfficeState → OfficeState → WardEntry → Type 0
IsSameOnceSealed s t w = is_counted w.phase ≡ true → election_of t w ≡ election_of s w

-- the elected candidates, and the candidates of the election, once its ward is declared
abbrev Told : Type 0
Told = Option (List ℕ) × List CandidateEntry

abbrev told_in : Phase → ElectionEntry → Told
told_in phase e = (if is_declared phase then Some (elected_of e) else None, if is_declared phase then e.candidates else [])

-- whether an election has more candidates than seats
abbrev contests : WardEntry → ElectionEntry → Bool
contests w e = nat_lt w.seats (length e.candidates)

-- a ward's entry in the list, given its phase, whether it is contested, and what is told of its count
abbrev listed_by : WardEntry → Phase → Bool → Told → ListedEntry
listed_by w phase contested told =
    record {
      number = w.number;
      name = w.name;
      seats = w.seats;
      standing = standing_in phase;
      is_contested = contested;
      elected = map candidate_shown (filter (is_among_elected told.0) told.1);
    }

abbrev row_by : WardEntry → Phase → ElectionEntry → List ℕ
row_by w phase e = index_row (listed_by w phase (contests w e) (told_in phase e))

row-by : (w : WardEntry) (phase : Phase) (one other : ElectionEntry) → (is_counted phase ≡ true → one ≡ other) → row_by w phase one ≡ row_by w phase other
row-by w Nominations one other same = refl
row-by w Keying one other same = refl
row-by w Sealed one other same = ap (row_by w Sealed) (same refl)
row-by w Declared one other same = ap (row_by w Declared) (same refl)

row-same : (s t : OfficeState) (w : WardEntry) → IsSameOnceSealed s t w → index_row (listed_shown (ward_view_of t w)) ≡ index_row (listed_shown (ward_view_of s w))
row-same s t w same = row-by w w.phase (election_of t w) (election_of s w) same

both-rows : (x y xs ys : List ℕ) → x ≡ y → xs ≡ ys → x ++ xs ≡ y ++ ys
both-rows x y xs ys first rest = ap (λ (z : List ℕ). z ++ xs) first ∙ ap (λ (zs : List ℕ). y ++ zs) rest

-- the rows of the page of all wards
abbrev rows_of : OfficeState → List WardEntry → List ℕ
rows_of s wards = flat_map index_row (map listed_shown (map (ward_view_of s) wards))

all-rows : (s t : OfficeState) (wards : List WardEntry) → All (IsSameOnceSealed s t) wards → rows_of t wards ≡ rows_of s wards
all-rows s t [] same = refl
all-rows s t (w ∷ wards) same =
    both-rows (index_row (listed_shown (ward_view_of t w))) (index_row (listed_shown (ward_view_of s w))) (rows_of t wards) (rows_of s wards)
    (row-same s t w (All-head (IsSameOnceSealed s t) w wards same)) (all-rows s t wards (All-tail (IsSameOnceSealed s t) w wards same))

rows-alike : (s t : OfficeState) → AreAlikeInPublic s t → rows_of t t.wards ≡ rows_of s s.wards
rows-alike s t alike = ap (λ (wards : List WardEntry). rows_of t wards) alike.wards ∙ all-rows s t s.wards alike.sealed

-- the page of a ward
abbrev page_once_sealed : List ℕ → Bool → ElectionEntry → Result (List ℕ) Reason
page_once_sealed title sealed e = if sealed then Ok (result_page_of title e) else Err WrongPhase

page-once-sealed : (title : List ℕ) (sealed : Bool) (one other : ElectionEntry) → (sealed ≡ true → one ≡ other) → page_once_sealed title sealed one ≡ page_once_sealed title sealed other
page-once-sealed title true one other same = ap (page_once_sealed title true) (same refl)
page-once-sealed title false one other same = refl

page-same : (title : List ℕ) (s t : OfficeState) (test : WardEntry → Bool) (wards : List WardEntry) → All (IsSameOnceSealed s t) wards
    → page_found title t (find test wards) ≡ page_found title s (find test wards)
page-same title s t test [] same = refl
page-same title s t test (w ∷ wards) same = by (test w) refl (page-same title s t test wards (All-tail (IsSameOnceSealed s t) w wards same))
  where
    by : (b : Bool) → test w ≡ b → page_found title t (find test wards) ≡ page_found title s (find test wards)
        → page_found title t (find test (w ∷ wards)) ≡ page_found title s (find test (w ∷ wards))
    by true is rest = rw is (page-once-sealed title (is_counted w.phase) (election_of t w) (election_of s w) (All-head (IsSameOnceSealed s t) w wards same))
    by false is rest = rw is rest

page-alike : (title : List ℕ) (ward : ℕ) (s t : OfficeState) → AreAlikeInPublic s t → page_told title t ward ≡ page_told title s ward
page-alike title ward s t alike = by (is_ward_number ward) refl
  where
    found : page_found title t (ward_at t ward) ≡ page_found title s (ward_at s ward)
    found =
        ap (λ (wards : List WardEntry). page_found title t (find (λ w. is_eq (ward_compared ward w)) wards)) alike.wards
        ∙ page-same title s t (λ w. is_eq (ward_compared ward w)) s.wards alike.sealed

    by : (b : Bool) → is_ward_number ward ≡ b → page_told title t ward ≡ page_told title s ward
    by true is = rw is found
    by false is = rw is refl

pub AlikeShowAlike-all : AlikeShowAlike
AlikeShowAlike-all its Index s t alike = rw (rows-alike s t alike) refl
AlikeShowAlike-all its Screen s t alike = refl
AlikeShowAlike-all its Wards s t alike =
    ap data_response (RestsOnWards-all its.title t ∙ ap (screen_data its.title) alike.wards ∙ sym (RestsOnWards-all its.title s))
AlikeShowAlike-all its (Page ward) s t alike = ap (read_response printed_response) (page-alike its.title ward s t alike)

-- ---- a ward before it is sealed

first-true : (a b : Bool) → (a && b) ≡ true → a ≡ true
first-true true b is = refl
first-true false b is = is

second-true : (a b : Bool) → (a && b) ≡ true → b ≡ true
second-true true b is = is
second-true false b is = let no : ⊥ = cc in absurd no

-- none of its stages has been counted
none-done : (e : ElectionEntry) → is_counted_right e ≡ true → is_counted e.ward.phase ≡ false → e.ward.done ≡ 0
none-done e right unsealed =
    let still : is_uncounted e ≡ true = rw unsealed at right in
    eqb-true e.ward.done 0 (first-true (e.ward.done == 0) (length e.lots == 0) still)

abbrev IsListedUnsealed : WardEntry → Type 0
IsListedUnsealed w = is_counted w.phase ≡ false → screen_ward_data w ≡ screen_ward_data (record w { done = 0 })

all-unsealed : (s : OfficeState) (wards : List WardEntry) → list_all (λ w. is_counted_right (election_of s w)) wards ≡ true → All IsListedUnsealed wards
all-unsealed s [] right = All-nil IsListedUnsealed
all-unsealed s (w ∷ wards) right =
    All-cons IsListedUnsealed w wards
    (λ unsealed. ap (λ n. screen_ward_data (record w { done = n })) (none-done (election_of s w) (first-true (is_counted_right (election_of s w)) _ right) unsealed))
    (all-unsealed s wards (second-true (is_counted_right (election_of s w)) _ right))

pub ListsUnsealed-all : ListsUnsealed
unfolding all_counted
ListsUnsealed-all s state = all-unsealed s s.wards (second-true (list_all (λ l. is_some (ward_at s l.ward)) s.lots) _ state.counted)
