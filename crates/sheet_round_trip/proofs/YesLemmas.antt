-- The result of checking the sheet and the declaration of a finished election against the ward that its ballots describe.
use Rattle.std.proofs.Common.{◌≡◌, ◌≢◌, ℕ, true, get_or, List, [], ◌++◌, map, reverse, Option, Some, None, refl, sym, ap, subst, ◌∙◌, append_assoc, arith}
use Rattle.std.specs.Prelude.{⊤}
use Rattle.std.specs.List.{list_all}
use Rattle.std.proofs.lemmas.List.{append_cancel_left}
use Rattle.count.specs.Bundles.{Bundle, bundled}
use Rattle.count.specs.Law.Contest.{Contest, IsContest}
use Rattle.count.specs.Law.Elected.{elected_after}
use Rattle.count.specs.declared.count_to_end.CountEnd.TheVariants as end
use Rattle.count.specs.declared.stages.Stage.{Stage}
use Rattle.sheet.specs.Ballots.{ballots}
use Rattle.sheet.specs.Entries.{SheetEntry}
use Rattle.sheet.specs.Lines.{line}
use Rattle.sheet.specs.Sheet.{below_ward, declaration, elected_heading, elected_lines, sheet, ward_line}
use Rattle.sheet.specs.declared.ward.Poll.{Poll}
use Rattle.checker.specs.Checks.{IsCountProblem, IsCountedCheck, IsWardCheck, IsWardProblem}
use Rattle.checker.specs.Differences.{IsComparison}
use Rattle.checker.specs.BallotsRoundTrip.{AreCheckedAsTold, AreHinderedAsTold, AreReadBack, AreSmall, CanBeReadBack, IsReadBack}
use Rattle.checker.specs.Wards.{contest_in, numbers_of}
use Rattle.checker.specs.declared.differences.Checked.{Checked}
use Rattle.checker.specs.declared.differences.Checked.TheVariants as checked
use Rattle.checker.specs.declared.problem.Problem.{Problem}
use Rattle.checker.specs.declared.problem.Problem.TheVariants as problem
use Rattle.register.specs.Marks.{columns_of}
use Rattle.register.specs.Elections.{ElectionEntry, contest_of, due_of, has_count, is_drawn_for, is_finished, stages_of}
use Rattle.office.specs.Sheets.{candidate_shown, shown_with}
use Rattle.sheet_round_trip.specs.OwnTexts.{IsConfirmed}
use Rattle.sheet_round_trip.proofs.ContestedLemmas.{all_drawn, fair_on_bundles}
use Rattle.sheet_round_trip.proofs.FinishedLemmas.{counted, end_alone, stages_alone}

-- ---- the sheet and the declaration

-- after the ward's line, a sheet continues with the seats
below_begins : (ward : SheetEntry) (poll : Option Poll) (stages : List Stage) → get_or (below_ward ward poll stages) 0 0 ≡ 83
unfolding line
below_begins ward None stages = refl
below_begins ward (Some poll) stages = refl

-- and a declaration with the elected candidates,
declaration_begins : (ward : SheetEntry) (elected : List ℕ) → get_or (elected_heading ++ elected_lines ward elected) 0 0 ≡ 69
unfolding line
declaration_begins ward elected = refl

-- so no sheet of a ward equals a declaration of that ward
apart : (ward : SheetEntry) (stages : List Stage) (elected : List ℕ) → sheet ward stages ≢ declaration ward elected
apart ward stages elected same =
    let rest : List ℕ = elected_heading ++ elected_lines ward elected in
    let behind : ward_line ward ++ below_ward ward ward.poll stages ≡ ward_line ward ++ rest = same ∙ append_assoc (ward_line ward) elected_heading (elected_lines ward elected) in
    let below : below_ward ward ward.poll stages ≡ rest = append_cancel_left (ward_line ward) (below_ward ward ward.poll stages) rest behind in
    let letter : get_or (below_ward ward ward.poll stages) 0 0 ≡ get_or rest 0 0 = ap (λ (l : List ℕ). get_or l 0 0) below in
    omega (arith, letter, below_begins ward ward.poll stages, declaration_begins ward elected)

-- a confirmation: a text is the sheet, or it is the declaration
abbrev pub IsYes : Checked → Type 0
IsYes checked.Sheet = ⊤
IsYes checked.Declaration = ⊤
IsYes (checked.Differs at should_be) = ⊥

-- if a text can be confirmed, no other result is possible
alone_among : (text own other : List ℕ) → own ≢ other → (answer : Checked) → IsYes answer → IsComparison text own other answer → (told : Checked) → IsComparison text own other told → told ≡ answer
alone_among text own other differ checked.Sheet _ is checked.Sheet too = refl
alone_among text own other differ checked.Sheet _ is checked.Declaration too = absurd (differ (sym is ∙ too))
alone_among text own other differ checked.Sheet _ is (checked.Differs at should_be) too = absurd (too.0 is)
alone_among text own other differ checked.Declaration _ is checked.Sheet too = absurd (differ (sym too ∙ is))
alone_among text own other differ checked.Declaration _ is checked.Declaration too = refl
alone_among text own other differ checked.Declaration _ is (checked.Differs at should_be) too = absurd (too.1 is)
alone_among text own other differ (checked.Differs at should_be) none is told too = absurd none

-- ---- a ward

-- a text of a ward is confirmed and has no other result, and only a failed allocation can prevent the check
pub record HasYes (ward : SheetEntry) (bundles : List Bundle) (lots : List (ℕ × ℕ)) (text : List ℕ) (answer : Checked) : Type 0 where
  pub told : IsWardCheck ward.poll ward bundles lots text answer
  pub alone : (other : Checked) → IsWardCheck ward.poll ward bundles lots text other → other ≡ answer
  pub unhindered : (why : Problem) → IsWardProblem ward.poll ward bundles lots why → why ≡ problem.Memory

-- a text with these properties is confirmed by the ward's ballots
pub confirmed : (ward : SheetEntry) (bundles : List Bundle) (lots : List (ℕ × ℕ)) (text : List ℕ) (answer : Checked) → AreReadBack → AreCheckedAsTold
    → AreHinderedAsTold → CanBeReadBack ward bundles lots
    → HasYes ward bundles lots text answer → IsConfirmed (ballots ward bundles lots) text answer
confirmed ward bundles lots text answer read_back checked_so hindered_so can has =
    let back : IsReadBack ward bundles lots = read_back ward bundles lots can in
    let lots_so = subst (λ ls. IsWardCheck ward.poll ward bundles ls text answer) (sym back.lots_are) has.told in
    let bundles_so = subst (λ bs. IsWardCheck ward.poll ward bs back.reading.remarks.lots text answer) (sym back.bundles_are) lots_so in
    record {
      told = record {
        reading = back.reading;
        understood = back.understood;
        compared = subst (λ (w : SheetEntry). IsWardCheck w.poll w back.reading.papers.bundles back.reading.remarks.lots text answer) (sym back.ward_is) bundles_so;
      };
      alone = λ other is. has.alone other (checked_so ward bundles lots can text other is);
      unhindered = λ why is. has.unhindered why (hindered_so ward bundles lots can why is);
    }

-- ---- an uncontested ward

pub uncontested_has : (ward : SheetEntry) (text : List ℕ) (answer : Checked) → ward.poll ≡ None → IsYes answer
    → IsComparison text (sheet ward []) (declaration ward (numbers_of ward)) answer → HasYes ward [] [] text answer
uncontested_has ward text answer none is_yes is = record {
  told = subst (λ (poll : Option Poll). IsWardCheck poll ward [] [] text answer) (sym none) is;
  alone = λ other told. alone_among text (sheet ward []) (declaration ward (numbers_of ward)) (apart ward [] (numbers_of ward)) answer is_yes is other
      (subst (λ (poll : Option Poll). IsWardCheck poll ward [] [] text other) none told);
  unhindered = λ why told. subst (λ (poll : Option Poll). IsWardProblem poll ward [] [] why) none told;
}

-- ---- a contested ward whose count is finished

module _
    (e : ElectionEntry) (poll : Poll) (own : map (λ (candidate : ℕ × List ℕ). candidate.0) (map candidate_shown e.candidates) ≡ columns_of e.candidates) (contested : has_count e ≡ true)
    (finished : is_finished (due_of e) ≡ true) (fair : IsContest (contest_of e)) (drawn : list_all (is_drawn_for e) e.lots ≡ true) (small : AreSmall e.lots)
  where
    abbrev ward : SheetEntry
    ward = shown_with (Some poll) e

    abbrev contest : Contest
    contest = contest_in ward (bundled e.ballots.papers)

    -- a comparison with the sheet and the declaration, as made by the check after the given stages
    abbrev IsCompared : List Stage → List ℕ → Checked → Type 0
    IsCompared stages text told = IsComparison text (sheet ward stages) (declaration ward (elected_after contest (reverse stages))) told

    counted_told : (text : List ℕ) (answer : Checked) → IsCompared (reverse (stages_of e)) text answer → IsCountedCheck ward (bundled e.ballots.papers) e.lots text answer
    counted_told text answer is = record {
      contest = fair_on_bundles e (Some poll) own fair;
      stages = reverse (stages_of e);
      counted = counted e (Some poll) own contested finished;
      drawn = all_drawn e (Some poll) own drawn small;
      compared = is;
    }

    counted_alone : (text : List ℕ) (answer : Checked) → IsYes answer → IsCompared (reverse (stages_of e)) text answer → (other : Checked)
        → IsCountedCheck ward (bundled e.ballots.papers) e.lots text other → other ≡ answer
    counted_alone text answer is_yes is other told =
        let same : told.stages ≡ reverse (stages_of e) = stages_alone e (Some poll) own contested finished told.stages end.Finished told.counted in
        let elected : List ℕ = elected_after contest (reverse (reverse (stages_of e))) in
        let too = subst (λ (stages : List Stage). IsCompared stages text other) same told.compared in
        alone_among text (sheet ward (reverse (stages_of e))) (declaration ward elected) (apart ward (reverse (stages_of e)) elected) answer is_yes is other too

    counted_unhindered : (why : Problem) → IsCountProblem contest e.lots why → why ≡ problem.Memory
    counted_unhindered (problem.Line line flaw) is = absurd is
    counted_unhindered problem.NoContest is = absurd (is (fair_on_bundles e (Some poll) own fair))
    counted_unhindered (problem.LotNeeded stage among) is =
        let ends : Some (end.LotNeeded stage among) ≡ Some end.Finished = end_alone e (Some poll) own contested finished is.0 (end.LotNeeded stage among) is.1 in
        absurd (cc)
    counted_unhindered (problem.LotNotAmong stage) is =
        let ends : Some (end.LotNotAmong stage) ≡ Some end.Finished = end_alone e (Some poll) own contested finished is.0 (end.LotNotAmong stage) is.1 in
        absurd (cc)
    counted_unhindered (problem.LotNotNeeded stage) is =
        let none : Some stage ≡ None = sym is ∙ all_drawn e (Some poll) own drawn small in
        absurd (cc)
    counted_unhindered problem.Memory is = refl

    pub counted_has : (text : List ℕ) (answer : Checked) → IsYes answer → IsCompared (reverse (stages_of e)) text answer → HasYes ward (bundled e.ballots.papers) e.lots text answer
    counted_has text answer is_yes is = record { told = counted_told text answer is; alone = counted_alone text answer is_yes is; unhindered = counted_unhindered }
