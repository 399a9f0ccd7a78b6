-- Proof that the overviews are those of the state.
use Rattle.std.proofs.Common.{◌≡◌, ◌<◌, ◌==◌, ℕ, Bool, true, false, cond, not, ◌&&◌, ◌||◌}
use Rattle.std.proofs.Common.{List, [], ◌∷◌, ◌++◌, map, filter, length, get_or, drop, suc, ◌+◌, Option, Some, None, option_map, refl, sym, ap, subst, ◌∙◌, append_assoc, add-one, drop-cons}
use Rattle.std.proofs.Math.Bool.{or-false}
use Rattle.std.proofs.lemmas.Bool.{cond-true, eqb-true}
use Rattle.std.proofs.lemmas.List.{map-append}
use Rattle.std.specs.List.{AllByRecursion, flat_map}
use Rattle.sqlite_trees.proofs.ListLemmas.{all-get_or}
use Rattle.register.specs.declared.elections.CountedWard.{CountedWard}
use Rattle.register.specs.declared.phase.Phase.{Phase}
use Rattle.register.specs.declared.phase.Phase.TheVariants.{Nominations, Keying, Sealed, Declared}
use Rattle.register.specs.declared.wards.Ward.{Ward}
use Rattle.register.specs.Offices.{WardEntry, CandidateEntry, BatchEntry, KeyedEntry, JudgedEntry, OfficeState, candidate_entry, candidates_of, ward_entry, ward_at, verdicts_of}
use Rattle.register.specs.Marks.{columns_of}
use Rattle.register.specs.Agreement.{is_keyed, of_three, agreed, keyings_now, batches_of}
use Rattle.register.specs.Polls.{Pile, pile_of, judgements_in, judgements}
use Rattle.register.specs.declared.polls.Judgement.{Judgement}
use Rattle.register.specs.Elections.{ElectionEntry, election_of, elected_of, is_counted, is_declared}
use Rattle.register.specs.StateConditions.{IsState}
use Rattle.register.specs.Tabulated.{IsCountedWard}
use Rattle.tables.proofs.ListLemmas.{get_mapped, mapped_length, mapped_twice}
use Rattle.store.specs.Elections.{IsCountedIn, IsCountedInFor}
use Rattle.store.specs.Overviews.{WardView, candidates_told, declared_in, PaperView, paper_view_of, papers_by, papers_of, judgements_told}
use Rattle.store.specs.Overviews.{DoubtfulView, DoubtfulPapersView, doubtful_among, doubtful_in, doubtful_papers, has_alike, differs_in, differing_among, differing_papers}
use Rattle.store.specs.Overviews.{earlier_shift, shift_among, shift_between}
use Rattle.store.specs.declared.overviews.differences.Shift.{Shift}
use Rattle.store.proofs.DoneLemmas.{wards_there}

-- ---- lists

-- another element, if the images of those before it are equal
pub mapped_more : {A B C : Type 0} (f : A → C) (g : B → C) (xs : List A) (x : A) (ys : List B) (y : B) → map f xs ≡ map g ys → f x ≡ g y → map f (xs ++ x ∷ []) ≡ map g (ys ++ y ∷ [])
mapped_more {C = C} f g xs x ys y before one =
    map-append f xs (x ∷ []) ∙ ap (λ (zs : List C). zs ++ f x ∷ []) before ∙ ap (λ (z : C). map g ys ++ z ∷ []) one ∙ sym (map-append g ys (y ∷ []))

-- a property that holds for the entries of all elements holds for the entry of the element at a given index
pub each_there : {A B : Type 0} (P : B → Type 0) (entry : A → B) (xs : List A) (k : ℕ) (x : A) → AllByRecursion P (map entry xs) → k < length xs → x ≡ get_or xs k x → P (entry x)
each_there P entry xs k x all within is =
    subst P (get_mapped entry xs k (entry x) x within ∙ ap entry (sym is)) (all-get_or P (map entry xs) k (entry x) all (subst (λ n. k < n) (sym (mapped_length entry xs)) within))

-- ---- wards

-- wards with the same fields are equal
pub same_ward_view : (x y : WardView) → x.ward ≡ y.ward → x.status ≡ y.status → x.elected ≡ y.elected → x.candidates ≡ y.candidates → x ≡ y
same_ward_view x y ward status elected candidates =
    ap (λ v. record x { ward = v }) ward
    ∙ ap (λ v. record x { ward = y.ward; status = v }) status
    ∙ ap (λ v. record x { ward = y.ward; status = y.status; elected = v }) elected
    ∙ ap (λ v. record y { candidates = v }) candidates

-- a ward of a state is the one found by its number
pub ward_there : (s : OfficeState) → IsState s → (ws : List Ward) → map ward_entry ws ≡ s.wards → (k : ℕ) (w : Ward) → k < length ws → w ≡ get_or ws k w → ward_at s w.number ≡ Some (ward_entry w)
ward_there s is ws are k w within at =
    each_there (λ (e : WardEntry). ward_at s e.number ≡ Some e) ward_entry ws k w (subst (AllByRecursion (λ (e : WardEntry). ward_at s e.number ≡ Some e))
    (sym are) (wards_there s.wards is.rise.wards)) within at

-- a declared ward has been sealed
declared_counted : (phase : Phase) → is_declared phase ≡ true → is_counted phase ≡ true
declared_counted Nominations is = absurd cc
declared_counted Keying is = absurd cc
declared_counted Sealed is = refl
declared_counted Declared is = refl

-- the elected candidates, from the count found for a declared ward
pub declared_told : (s : OfficeState) (w : WardEntry) (found : Option CountedWard) (counted : CountedWard) (elected : List ℕ) → found ≡ Some counted
    → IsCountedInFor (option_map (election_of s) (ward_at s w.number)) found
    → ((e : ElectionEntry) → IsCountedWard e counted → is_counted e.ward.phase ≡ true → elected ≡ elected_of e) → is_declared w.phase ≡ true
    → ward_at s w.number ≡ Some w → Some elected ≡ declared_in s w
declared_told s w found counted elected is told law declared there =
    let here : IsCountedIn (election_of s w) found = subst (λ (o : Option WardEntry). IsCountedInFor (option_map (election_of s) o) found) there told in
    let same : here.0 ≡ counted = some_same (sym here.1 ∙ is) in
    ap (λ (cs : List ℕ). Some cs) (law (election_of s w) (subst (IsCountedWard (election_of s w)) same here.2) (declared_counted w.phase declared))
    ∙ sym (cond-true (is_declared w.phase) (Some (elected_of (election_of s w))) None declared)
  where
    some_same : {a b : CountedWard} → ◌≡◌ {A = Option CountedWard} (Some a) (Some b) → a ≡ b
    some_same e = cc

-- the candidates found for a declared ward
pub candidates_found : (s : OfficeState) (w : WardEntry) (found : Option CountedWard) (counted : CountedWard) → found ≡ Some counted
    → IsCountedInFor (option_map (election_of s) (ward_at s w.number)) found
    → is_declared w.phase ≡ true → ward_at s w.number ≡ Some w → map candidate_entry counted.candidates.items ≡ candidates_told s w
candidates_found s w found counted is told declared there =
    let here : IsCountedIn (election_of s w) found = subst (λ (o : Option WardEntry). IsCountedInFor (option_map (election_of s) o) found) there told in
    let same : here.0 ≡ counted = some_same (sym here.1 ∙ is) in
    (subst (IsCountedWard (election_of s w)) same here.2).candidates_are ∙ sym (cond-true (is_declared w.phase) (candidates_of s w.number) [] declared)
  where
    some_same : {a b : CountedWard} → ◌≡◌ {A = Option CountedWard} (Some a) (Some b) → a ≡ b
    some_same e = cc

-- ---- papers as they are counted

-- the elements shown so far, followed by the remaining ones, are still all the elements after another is shown
pub told_more : {A B C D : Type 0} (view : A → D) (told : B → D) (entry : C → B) (found new : List A) (one : A) (xs : List C) (k : ℕ) (x : C) → k < length xs → x ≡ get_or xs k x
    → new ≡ found ++ one ∷ [] → view one ≡ told (entry x)
    → map view found ++ map told (map entry (drop k xs)) ≡ map told (map entry xs) → map view new ++ map told (map entry (drop (k + 1) xs)) ≡ map told (map entry xs)
told_more {C = C} {D = D} view told entry found new one xs k x within is put same so_far =
    let left : List D = map told (map entry (drop (k + 1) xs)) in
    let next : drop k xs ≡ x ∷ drop (k + 1) xs = rw add-one (drop-cons xs k x within ∙ ap (λ (y : C). y ∷ drop (suc k) xs) (sym is)) in
    ap (λ (vs : List D). vs ++ left) (ap (map view) put ∙ map-append view found (one ∷ []))
    ∙ append_assoc (map view found) (view one ∷ []) left
    ∙ ap (λ (v : D). map view found ++ v ∷ left) same
    ∙ ap (λ (ys : List C). map view found ++ map told (map entry ys)) (sym next)
    ∙ so_far

-- the papers of a batch, from the candidates and the pile read for it
pub papers_told : (s : OfficeState) (b : BatchEntry) (candidates : List CandidateEntry) (pile : Pile) → candidates ≡ candidates_of s b.ward → pile ≡ pile_of s b
    → papers_by candidates pile ≡ papers_of s b
papers_told s b candidates pile here same = ap (λ (cs : List CandidateEntry). papers_by cs pile) here ∙ ap (papers_by (candidates_of s b.ward)) same

-- the papers of a ward's batch are shown with the judgements by which the ward counts them
judged_alike : (s : OfficeState) (ward : ℕ) (b : BatchEntry) → b.ward ≡ ward → judgements_told s b ≡ judgements_in (columns_of (candidates_of s ward)) (pile_of s b)
judged_alike s ward b is =
    mapped_twice (paper_view_of (columns_of (candidates_of s b.ward)) (verdicts_of s b.number)) (λ (p : PaperView). p.judgement) (agreed (keyings_now s b))
    ∙ ap (λ (w : ℕ). judgements_in (columns_of (candidates_of s w)) (pile_of s b)) is

-- the papers of all batches of a ward, one batch after another, are shown with those judgements
pub told_counted : (s : OfficeState) (ward : ℕ) (bs : List BatchEntry)
    → flat_map (judgements_told s) (filter (λ (b : BatchEntry). b.ward == ward) bs) ≡ judgements (columns_of (candidates_of s ward)) (map (pile_of s) (filter (λ (b : BatchEntry). b.ward == ward) bs))
told_counted s ward [] = refl
told_counted s ward (b ∷ bs) = go (b.ward == ward) refl (filter (λ (c : BatchEntry). c.ward == ward) bs) (told_counted s ward bs)
  where
    go : (q : Bool) → (b.ward == ward) ≡ q → (rest : List BatchEntry) → flat_map (judgements_told s) rest ≡ judgements (columns_of (candidates_of s ward)) (map (pile_of s) rest)
        → flat_map (judgements_told s) (cond q (b ∷ rest) rest) ≡ judgements (columns_of (candidates_of s ward)) (map (pile_of s) (cond q (b ∷ rest) rest))
    go true is rest later =
        ap (λ (js : List Judgement). js ++ flat_map (judgements_told s) rest) (judged_alike s ward b (eqb-true b.ward ward is))
        ∙ ap (λ (js : List Judgement). judgements_in (columns_of (candidates_of s ward)) (pile_of s b) ++ js) later
    go false is rest later = later

-- ---- doubtful papers

-- the doubtful papers of another batch, appended
pub doubtful_put : (s : OfficeState) (columns : List ℕ) (b : BatchEntry) (before after : List DoubtfulView) (verdicts : List JudgedEntry) (papers : List KeyedEntry) (keyings : List (List KeyedEntry))
    → after ≡ before ++ doubtful_among columns verdicts papers → verdicts ≡ verdicts_of s b.number → papers ≡ agreed keyings → keyings ≡ keyings_now s b → after ≡ before ++ doubtful_in s columns b
doubtful_put s columns b before after verdicts papers keyings put judged taken are =
    put
    ∙ ap (λ (vs : List JudgedEntry). before ++ doubtful_among columns vs papers) judged
    ∙ ap (λ (ks : List KeyedEntry). before ++ doubtful_among columns (verdicts_of s b.number) ks) (taken ∙ ap agreed are)

same_doubtful : (x y : DoubtfulPapersView) → x.candidates ≡ y.candidates → x.papers ≡ y.papers → x ≡ y
same_doubtful x y candidates papers = ap (λ v. record x { candidates = v }) candidates ∙ ap (λ v. record y { papers = v }) papers

-- the doubtful papers of a ward, from the data read for it
pub doubtful_told : (s : OfficeState) (ward : ℕ) (d : DoubtfulPapersView) (columns : List ℕ) (batches : List BatchEntry) → d.candidates ≡ candidates_of s ward
    → columns ≡ columns_of d.candidates → batches ≡ batches_of s ward → d.papers ≡ flat_map (doubtful_in s columns) batches → d ≡ doubtful_papers s ward
doubtful_told s ward d columns batches here read there are =
    same_doubtful
    d
    (doubtful_papers s ward)
    here
    (are ∙ ap (λ (cs : List ℕ). flat_map (doubtful_in s cs) batches) (read ∙ ap columns_of here) ∙ ap (flat_map (doubtful_in s (columns_of (candidates_of s ward)))) there)

-- ---- differences

-- how a paper differs from two keyings, either of which may be missing
pub apart_two : (k : KeyedEntry) (second third : List KeyedEntry)
    → differs_in (filter is_keyed (second ∷ third ∷ [])) k ≡ ((is_keyed second && not (has_alike k second)) || (is_keyed third && not (has_alike k third)))
apart_two k [] [] = refl
apart_two k [] (t ∷ ts) = or-false (not (has_alike k (t ∷ ts)))
apart_two k (s ∷ ss) [] = refl
apart_two k (s ∷ ss) (t ∷ ts) = ap (λ b. not (has_alike k (s ∷ ss)) || b) (or-false (not (has_alike k (t ∷ ts))))

-- a single keying doesn't differ
apart_alone : (keying : List KeyedEntry) → differing_among [] keying ≡ []
apart_alone [] = refl
apart_alone (k ∷ ks) = apart_alone ks

-- the first shift that exists, among one and none
earlier_alone : (a : Option Shift) → earlier_shift (earlier_shift a None) None ≡ a
earlier_alone None = refl
earlier_alone (Some shift) = refl

earlier_again : (a : Option Shift) → earlier_shift (earlier_shift a None) None ≡ earlier_shift a None
earlier_again None = refl
earlier_again (Some shift) = refl

-- the first shift that exists, among three
earlier_three : (a b c : Option Shift)
    → earlier_shift (earlier_shift a (earlier_shift b None)) (earlier_shift (earlier_shift c None) None) ≡ earlier_shift a (earlier_shift b c)
earlier_three (Some shift) b c = refl
earlier_three None (Some shift) c = refl
earlier_three None None (Some shift) = refl
earlier_three None None None = refl

-- the shift among three keyings, any of which may be missing
pub shift_of_three : (first second third : List KeyedEntry)
    → shift_among (of_three first second third)
    ≡ earlier_shift (shift_between first second) (earlier_shift (shift_between first third) (shift_between second third))
shift_of_three [] [] [] = refl
shift_of_three [] [] (k ∷ ks) = refl
shift_of_three [] (j ∷ js) [] = refl
shift_of_three [] (j ∷ js) (k ∷ ks) = earlier_alone (shift_between (j ∷ js) (k ∷ ks))
shift_of_three (i ∷ is) [] [] = refl
shift_of_three (i ∷ is) [] (k ∷ ks) = earlier_again (shift_between (i ∷ is) (k ∷ ks))
shift_of_three (i ∷ is) (j ∷ js) [] = earlier_again (shift_between (i ∷ is) (j ∷ js))
shift_of_three (i ∷ is) (j ∷ js) (k ∷ ks) = earlier_three (shift_between (i ∷ is) (j ∷ js)) (shift_between (i ∷ is) (k ∷ ks)) (shift_between (j ∷ js) (k ∷ ks))

-- how three keyings differ, any of which may be missing
pub apart_three : (first second third : List KeyedEntry)
    → differing_papers (of_three first second third)
    ≡ cond (is_keyed first) (differing_among (filter is_keyed (second ∷ third ∷ [])) first) (differing_among (filter is_keyed (third ∷ [] ∷ [])) second)
apart_three (k ∷ ks) second third = refl
apart_three [] (k ∷ ks) [] = refl
apart_three [] (k ∷ ks) (t ∷ ts) = refl
apart_three [] [] [] = refl
apart_three [] [] (t ∷ ts) = apart_alone (t ∷ ts)
