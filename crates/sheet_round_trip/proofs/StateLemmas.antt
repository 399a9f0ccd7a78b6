-- The texts of each finished ward of a state are confirmed by the ward's ballots.
use Rattle.std.proofs.Common.{◌≡◌, ℕ, ◌+◌, ◌||◌, ◌==◌, Bool, true, false, not, cond, List, [], length, map, reverse, Option, Some, None, refl, sym, ap, subst, ◌∙◌}
use Rattle.std.specs.List.{list_all}
use Rattle.std.proofs.lemmas.Bool.{and_parts, cond-false, cond-true, eqb-true}
use Rattle.count.specs.Bundles.{bundled}
use Rattle.count.specs.Law.Contest.{Contest, History, IsContest}
use Rattle.count.specs.Law.Count.{due_by, due_or, stages_to}
use Rattle.count.specs.Law.Due.{drawn, due_after, lot_for}
use Rattle.count.specs.declared.stages.Due.{Due}
use Rattle.count.specs.declared.stages.Due.TheVariants.{Act, Lot, Finished}
use Rattle.sheet.specs.Entries.{SheetEntry}
use Rattle.sheet.specs.Sheet.{declaration, sheet}
use Rattle.sheet.specs.declared.ward.Poll.{Poll}
use Rattle.checker.specs.Differences.{IsComparison}
use Rattle.checker.specs.BallotsRoundTrip.{AreSmall}
use Rattle.checker.specs.Wards.{numbers_of}
use Rattle.checker.specs.declared.differences.Checked.{Checked}
use Rattle.register.specs.Marks.{columns_of}
use Rattle.register.specs.Offices.{OfficeState, WardEntry, ward_at, ward_compared}
use Rattle.register.specs.Elections.{ElectionEntry, contest_of, elected_of, election_of, has_count, is_counted}
use Rattle.register.specs.Elections.{is_counted_right, is_declared, is_drawn_for, is_finished, is_in_count, is_right_so_far, is_uncounted, stages_of}
use Rattle.register.specs.StateConditions.{IsState, all_counted}
use Rattle.register.proofs.MapLemmas.{found_passes}
use Rattle.office.specs.Sheets.{bundles_shown, candidate_shown, declaration_of, election_shown, lots_shown, sheet_of, shown_with}
use Rattle.sheet_round_trip.specs.OwnTexts.{IsFinished}
use Rattle.sheet_round_trip.proofs.FinishedLemmas.{same_elected}
use Rattle.sheet_round_trip.proofs.YesLemmas.{HasYes, IsYes, counted_has, uncontested_has}

-- the count of each ward of a state is correct
pub counted_right : (s : OfficeState) (w : WardEntry) → IsState s → ward_at s w.number ≡ Some w → is_counted_right (election_of s w) ≡ true
unfolding all_counted
counted_right s w is there =
    let rights : Bool = list_all (λ x. is_counted_right (election_of s x)) s.wards in
    found_passes (ward_compared w.number) (λ x. is_counted_right (election_of s x)) w s.wards (and_parts _ rights is.counted).1 there

-- if nothing is due, nothing is due given the lots
none_by_lots : (contest : Contest) (lots : List (ℕ × ℕ)) (stages : History) → is_finished (due_after contest stages) ≡ true → is_finished (due_by contest lots stages) ≡ true
none_by_lots contest lots stages is = go (due_after contest stages) (lot_for lots (length stages + 1)) is
  where
    go : (due : Due) (lot : Option ℕ) → is_finished due ≡ true → is_finished (due_or due (drawn contest stages lot due)) ≡ true
    go (Act action) lot none = absurd (cc)
    go (Lot stage kind tied) lot none = absurd (cc)
    go Finished None none = refl
    go Finished (Some c) none = refl

-- a sealed ward whose count is correct
module _ (e : ElectionEntry) (sealed : is_counted e.ward.phase ≡ true) (right : is_counted_right e ≡ true) where
  abbrev is_ended : Bool
  is_ended = not (is_declared e.ward.phase) || is_finished (due_after (contest_of e) (stages_of e))

  -- if the ward is contested, every lot has been drawn, and once the ward is declared nothing is due
  pub drawn_and_ended : has_count e ≡ true → (list_all (is_drawn_for e) e.lots ≡ true) × (is_ended ≡ true)
  drawn_and_ended contested =
      let so_far : is_right_so_far e ≡ true = sym (cond-true (is_in_count e) _ _ (rw sealed contested)) ∙ right in
      and_parts (list_all (is_drawn_for e) e.lots) is_ended (and_parts (length (stages_of e) == e.ward.done) _ so_far).1

  -- and as many stages are completed as are recorded
  pub as_many_done : has_count e ≡ true → length (stages_of e) ≡ e.ward.done
  as_many_done contested =
      let so_far : is_right_so_far e ≡ true = sym (cond-true (is_in_count e) _ _ (rw sealed contested)) ∙ right in
      eqb-true (length (stages_of e)) e.ward.done (and_parts (length (stages_of e) == e.ward.done) _ so_far).0

  -- if the ward is uncontested, it has no stages
  pub no_stages : has_count e ≡ false → stages_of e ≡ []
  unfolding stages_to
  no_stages uncontested =
      let uncounted : is_uncounted e ≡ true = sym (cond-false (is_in_count e) _ _ (rw sealed uncontested)) ∙ right in
      ap (stages_to (contest_of e) e.lots) (eqb-true e.ward.done 0 (and_parts (e.ward.done == 0) (length e.lots == 0) uncounted).0)

  -- the count of a declared ward is finished
  pub declared_is_finished : is_declared e.ward.phase ≡ true → IsFinished e
  declared_is_finished declared = go (has_count e) refl
    where
      go : (b : Bool) → has_count e ≡ b → is_finished (cond b (due_by (contest_of e) e.lots (stages_of e)) Finished) ≡ true
      go false uncontested = refl
      go true contested = none_by_lots (contest_of e) e.lots (stages_of e) (rw declared at (drawn_and_ended contested).1)

  module _
      (columns : map (λ (candidate : ℕ × List ℕ). candidate.0) (map candidate_shown e.candidates) ≡ columns_of e.candidates) (fair : has_count e ≡ true
      → IsContest (contest_of e)) (small : AreSmall e.lots) (finished : IsFinished e)
    where
      abbrev shown_by : Bool → SheetEntry
      shown_by b = shown_with (cond b (Some (record { valid = length e.ballots.papers; rejected = e.ballots.rejected })) None) e

      abbrev IsCompared : Bool → List ℕ → Checked → Type 0
      IsCompared b text told = IsComparison text (sheet (shown_by b) (reverse (stages_of e))) (declaration (shown_by b) (elected_of e)) told

      -- the result of checking a text that is the sheet or the declaration
      by_contest : (text : List ℕ) (answer : Checked) → IsYes answer → (b : Bool) → has_count e ≡ b → IsCompared b text answer
          → HasYes (shown_by b) (cond b (bundled e.ballots.papers) []) (cond b e.lots []) text answer
      by_contest text answer is_yes true contested is =
          let poll : Poll = record { valid = length e.ballots.papers; rejected = e.ballots.rejected } in
          let elected = sym (same_elected e (Some poll) columns contested finished) in
          let own = subst (λ (cs : List ℕ). IsComparison text (sheet (shown_by true) (reverse (stages_of e))) (declaration (shown_by true) cs) answer) elected is in
          counted_has e poll columns contested finished (fair contested) (drawn_and_ended contested).0 small text answer is_yes own
      by_contest text answer is_yes false uncontested is =
          let all : elected_of e ≡ numbers_of (shown_by false) = cond-false (has_count e) _ _ uncontested ∙ sym columns in
          let own = subst (λ (h : History). IsComparison text (sheet (shown_by false) (reverse h)) (declaration (shown_by false) (elected_of e)) answer) (no_stages uncontested) is in
          uncontested_has (shown_by false) text answer refl is_yes (subst (λ (cs : List ℕ). IsComparison text (sheet (shown_by false) []) (declaration (shown_by false) cs) answer) all own)

      pub own_yes : (text : List ℕ) (answer : Checked) → IsYes answer → IsComparison text (sheet_of e) (declaration_of e) answer
          → HasYes (election_shown e) (bundles_shown e) (lots_shown e) text answer
      own_yes text answer is_yes is = by_contest text answer is_yes (has_count e) refl is
