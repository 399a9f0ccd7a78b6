-- The stages that a stage sheet shows.
use Rattle.std.proofs.Common.{◌≡◌, ◌∙◌, ℕ, zero, suc, ◌<◌, true, false, List, [], ◌∷◌, ◌++◌, length, take, refl, sym, ap, subst, arith, length-append, inl, inr, Some, None}
use Rattle.std.specs.Prelude.{Option, bytes_eq, nat_eq}
use Rattle.std.proofs.lemmas.Bool.{cases_lt, eq-eqb, false≢true}
use Rattle.std.proofs.lemmas.List.{append_cancel_left, take_all}
use Rattle.count.specs.Bundles.{Bundle}
use Rattle.count.specs.declared.stages.Stage.{Stage}
use Rattle.sheet.specs.Cells.{each_after}
use Rattle.sheet.specs.Entries.{SheetEntry}
use Rattle.sheet.specs.Lines.{line}
use Rattle.sheet.specs.Sheet.{below_ward, rejected_line, seats_line, sheet, stage_text, stages_text, ward_line}
use Rattle.sheet.specs.declared.ward.Poll.{Poll}
use Rattle.checker.specs.Counts.{IsWardCount}
use Rattle.checker.specs.Folders.{AreShown}
use Rattle.checker.specs.FolderWards.{AreShownBy, HasStages}
use Rattle.checker.specs.Tokens.{Text}
use Rattle.checker.specs.declared.counting.WardCount.{WardCount}
use Rattle.checker.proofs.LineLaws.{and_both}
use Rattle.checker.proofs.NumberLaws.{pointwise_same}

-- the text of a stage isn't empty
stage_some : (ward : SheetEntry) (earlier : List Stage) (stage : Stage) → 0 < length (stage_text ward earlier stage)
unfolding line
stage_some ward earlier stage = omega arith

take_none : {X : Type 0} (n : ℕ) (xs : List X) → xs ≡ [] → take n xs ≡ []
take_none {X} n xs none = ap (take n) none ∙ by n
  where
    by : (k : ℕ) → take {A = X} k [] ≡ []
    by zero = refl
    by (suc k) = refl

-- as many stages as have the same text are the same
each_alike : (text : List Stage → Stage → Text) → ((earlier : List Stage) (stage : Stage) → 0 < length (text earlier stage)) → (earlier stages : List Stage) (j k : ℕ)
    → each_after text earlier (take j stages) ≡ each_after text earlier (take k stages) → take j stages ≡ take k stages
each_alike text some earlier [] j k same = take_none j [] refl ∙ sym (take_none k [] refl)
each_alike text some earlier (stage ∷ stages) zero zero same = refl
each_alike text some earlier (stage ∷ stages) zero (suc k) same =
    let later = each_after text (earlier ++ stage ∷ []) (take k stages) in
    absurd (omega (arith, some earlier stage, ap (λ (t : Text). length t) same, length-append (text earlier stage) later))
each_alike text some earlier (stage ∷ stages) (suc j) zero same =
    let later = each_after text (earlier ++ stage ∷ []) (take j stages) in
    absurd (omega (arith, some earlier stage, ap (λ (t : Text). length t) same, length-append (text earlier stage) later))
each_alike text some earlier (stage ∷ stages) (suc j) (suc k) same =
    ap (λ ss. stage ∷ ss) (each_alike text some (earlier ++ stage ∷ []) stages j k
    (append_cancel_left (text earlier stage) (each_after text (earlier ++ stage ∷ []) (take j stages)) (each_after text (earlier ++ stage ∷ []) (take k stages)) same))

below_alike : (ward : SheetEntry) (poll : Option Poll) (all : List Stage) (j k : ℕ) → HasStages poll all → below_ward ward poll (take j all) ≡ below_ward ward poll (take k all)
    → take j all ≡ take k all
below_alike ward None all j k none same = take_none j all none ∙ sym (take_none k all none)
below_alike ward (Some poll) all j k none same =
    each_alike (stage_text ward) (stage_some ward) [] all j k
    (append_cancel_left (seats_line ward.seats poll.valid ++ rejected_line poll.rejected) (stages_text ward (take j all)) (stages_text ward (take k all)) same)

-- as many stages as have the same sheet are the same
sheets_alike : (ward : SheetEntry) (all : List Stage) (j k : ℕ) → HasStages ward.poll all → sheet ward (take j all) ≡ sheet ward (take k all) → take j all ≡ take k all
sheets_alike ward all j k none same =
    below_alike ward ward.poll all j k none (append_cancel_left (ward_line ward) (below_ward ward ward.poll (take j all)) (below_ward ward ward.poll (take k all)) same)

some_once : {X : Type 0} {x y : X} → Some x ≡ Some y → x ≡ y
some_once e = cc

-- the count of an uncontested ward has no stages
pub stages_had : (poll : Option Poll) (ward : SheetEntry) (bundles : List Bundle) (lots : List (ℕ × ℕ)) (count : WardCount) → IsWardCount poll ward bundles lots count
    → HasStages poll count.stages.items
stages_had None ward bundles lots count is = is.none
stages_had (Some poll) ward bundles lots count is = tt

-- the stages with the given sheet are those shown
pub shown_found : (ward : SheetEntry) (all stages : List Stage) (text : Text) (done : ℕ) → HasStages ward.poll all → stages ≡ take done all
    → bytes_eq (sheet ward stages) text ≡ true → AreShownBy ward false (Some text) all stages
shown_found ward all stages text done none first found = record {
  shows = record { done = done; first = first; whole = λ so. absurd (false≢true so) };
  alone = λ others shows is.
      let own : sheet ward stages ≡ sheet ward others = pointwise_same (sheet ward stages) text found ∙ some_once is in
      first ∙ (sheets_alike ward all done shows.done none (sym (ap (sheet ward) first) ∙ (own ∙ ap (sheet ward) shows.first)) ∙ sym shows.first);
}

bytes_self : (xs : Text) → bytes_eq xs xs ≡ true
bytes_self [] = refl
bytes_self (x ∷ xs) = and_both (nat_eq x x) (bytes_eq xs xs) (eq-eqb x x refl) (bytes_self xs)

pub bytes_same : (xs ys : Text) → xs ≡ ys → bytes_eq xs ys ≡ true
bytes_same xs ys same = subst (λ t. bytes_eq xs t ≡ true) same (bytes_self xs)

-- if no first stages of a count have the given sheet, whatever is shown is all that may be
pub shown_otherwise : (ward : SheetEntry) (all stages : List Stage) (text : Text) → ((k : ℕ) → k < length all → bytes_eq (sheet ward (take k all)) text ≡ false)
    → bytes_eq (sheet ward all) text ≡ false → AreShown false all stages → AreShownBy ward false (Some text) all stages
shown_otherwise ward all stages text none whole shows = record {
  shows = shows;
  alone = λ others also is. absurd (never also.done (some_once is ∙ ap (sheet ward) also.first));
}
  where
    never : (k : ℕ) → text ≡ sheet ward (take k all) → ⊥
    never k same = elim (cases_lt k (length all)) [
      | inl below ↦ false≢true (sym (none k below) ∙ bytes_same (sheet ward (take k all)) text (sym same))
      | inr above ↦ false≢true (sym whole ∙ bytes_same (sheet ward all) text (sym (same ∙ ap (sheet ward) (take_all k all above))))
    ]

-- the whole count is shown of a declared ward
pub shown_declared : (ward : SheetEntry) (text : Option Text) (all : List Stage) → AreShownBy ward true text all all
shown_declared ward text all = record {
  shows = record { done = length all; first = sym (take_all (length all) all (omega arith)); whole = λ so. refl };
  alone = λ others also is. sym (also.whole refl);
}

-- without a sheet, the whole count may be shown
pub shown_unread : (ward : SheetEntry) (all : List Stage) → AreShownBy ward false None all all
shown_unread ward all = record {
  shows = record { done = length all; first = sym (take_all (length all) all (omega arith)); whole = λ so. refl };
  alone = λ others also is. absurd (cc (is));
}
