-- A finished count has the same result if it is held on the bundles of its papers, and is their only count.
use Rattle.std.proofs.Common.{◌≡◌, ℕ, ◌+◌, true, List, length, map, reverse, Option, Some, None, refl, sym, ap, subst, ◌∙◌}
use Rattle.std.proofs.lemmas.Bool.{cond-true}
use Rattle.std.proofs.lemmas.List.{reverse-reverse}
use Rattle.std.proofs.lemmas.List.Sorted.{IsPermutation-refl}
use Rattle.count.specs.Advance.{end_after, end_of}
use Rattle.count.specs.Bundles.{bundled}
use Rattle.count.specs.Law.Contest.{Contest, History}
use Rattle.count.specs.Law.Count.{due_by, due_or}
use Rattle.count.specs.Law.Due.{due_after, lot_for, next_action}
use Rattle.count.specs.Law.Elected.{elected_after}
use Rattle.count.specs.Law.Right.{IsCount, IsWholeCount}
use Rattle.count.specs.declared.count_to_end.CountEnd.{CountEnd}
use Rattle.count.specs.declared.count_to_end.CountEnd.TheVariants as end
use Rattle.count.specs.declared.stages.Action.{Action}
use Rattle.count.specs.declared.stages.Due.{Due}
use Rattle.count.specs.declared.stages.Due.TheVariants.{Act, Lot, Finished}
use Rattle.count.specs.declared.stages.Stage.{Stage}
use Rattle.count.proofs.Law.RightLemmas.{whole_count}
use Rattle.sheet.specs.declared.ward.Poll.{Poll}
use Rattle.checker.specs.Checks.{EndsAt}
use Rattle.checker.specs.Wards.{contest_in, numbers_of}
use Rattle.register.specs.Marks.{columns_of}
use Rattle.register.specs.Elections.{ElectionEntry, contest_of, due_of, elected_of, has_count, is_finished, stages_of}
use Rattle.register.proofs.BundledLemmas.{other_order}
use Rattle.office.specs.Sheets.{candidate_shown, shown_with}
use Rattle.sheet_round_trip.proofs.ContestedLemmas.{right_so_far, same_due, same_stages}

-- if nothing is due given the lots, nothing is due
nothing_due : (contest : Contest) (lots : List (ℕ × ℕ)) (stages : History) → is_finished (due_by contest lots stages) ≡ true → due_after contest stages ≡ Finished
nothing_due contest lots stages is = go (due_after contest stages) (next_action contest lots stages) is
  where
    go : (due : Due) (next : Option Action) → is_finished (due_or due next) ≡ true → due ≡ Finished
    go Finished None none = refl
    go (Act action) None none = absurd (cc)
    go (Lot stage kind tied) None none = absurd (cc)
    go due (Some action) none = absurd (cc)

-- and the count ends there
ends_finished : (lot : Option ℕ) → end_of lot Finished ≡ Some end.Finished
ends_finished None = refl
ends_finished (Some c) = refl

-- a contested election whose count is finished, with the bundles of its papers
module _ (e : ElectionEntry) (poll : Option Poll) (own : map (λ (candidate : ℕ × List ℕ). candidate.0) (map candidate_shown e.candidates) ≡ columns_of e.candidates)
    (contested : has_count e ≡ true) (finished : is_finished (due_of e) ≡ true) where
  abbrev on_bundles : Contest
  on_bundles = contest_in (shown_with poll e) (bundled e.ballots.papers)

  due_none : due_after on_bundles (stages_of e) ≡ Finished
  due_none =
      ap (due_after on_bundles) (sym (same_stages e poll own e.ward.done))
      ∙ same_due e poll own e.ward.done
      ∙ nothing_due (contest_of e) e.lots (stages_of e) (sym (ap is_finished (cond-true (has_count e) _ _ contested)) ∙ finished)

  ended : end_after on_bundles e.lots (stages_of e) ≡ Some end.Finished
  ended = ap (end_of (lot_for e.lots (length (stages_of e) + 1))) due_none ∙ ends_finished (lot_for e.lots (length (stages_of e) + 1))

  whole : IsWholeCount on_bundles e.lots (stages_of e)
  whole = whole_count on_bundles e.lots (stages_of e) end.Finished (right_so_far e poll own) ended

  -- its count ends with the completed stages
  pub counted : EndsAt on_bundles e.lots (reverse (stages_of e)) end.Finished
  counted = record {
    whole = subst (IsWholeCount on_bundles e.lots) (sym (reverse-reverse (stages_of e))) whole;
    ended = subst (λ (h : History). end_after on_bundles e.lots h ≡ Some end.Finished) (sym (reverse-reverse (stages_of e))) ended;
  }

  -- any count of the election that has ended has these stages,
  only_stages : (stages : List Stage) (why : CountEnd) → EndsAt on_bundles e.lots stages why → stages_of e ≡ reverse stages
  only_stages stages why is =
      let count : IsCount on_bundles e.lots (stages_of e) = whole.ended in
      is.whole.equals_each on_bundles.papers (stages_of e) (IsPermutation-refl on_bundles.papers) count

  pub stages_alone : (stages : List Stage) (why : CountEnd) → EndsAt on_bundles e.lots stages why → stages ≡ reverse (stages_of e)
  stages_alone stages why is = sym (reverse-reverse stages) ∙ ap (λ (h : History). reverse h) (sym (only_stages stages why is))

  -- and has ended for this reason
  pub end_alone : (stages : List Stage) (why : CountEnd) → EndsAt on_bundles e.lots stages why → Some why ≡ Some end.Finished
  end_alone stages why is = sym is.ended ∙ ap (λ (h : History). end_after on_bundles e.lots h) (sym (only_stages stages why is)) ∙ ended

  -- the same candidates are elected
  pub same_elected : elected_after on_bundles (reverse (reverse (stages_of e))) ≡ elected_of e
  same_elected =
      ap (elected_after on_bundles) (reverse-reverse (stages_of e))
      ∙ ap (λ (c : Contest). elected_after c (stages_of e)) (other_order e (numbers_of (shown_with poll e)) e.ward.seats (bundled e.ballots.papers) own refl refl e.lots refl on_bundles refl)
      ∙ sym (cond-true (has_count e) _ _ contested)
