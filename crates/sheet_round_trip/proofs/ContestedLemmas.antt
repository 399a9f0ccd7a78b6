-- A contested election and the contest of its bundles: both have the same stages, the same is due, and each recorded lot is drawn.
use Rattle.std.proofs.Common.{◌≡◌, ℕ, ◌+◌, ◌-◌, ◌≤◌, nat_le, nat_lt, true, false, not, get_or, List, [], ◌∷◌, length, map, Option, None, refl, ap, subst, ◌∙◌, arith}
use Rattle.std.specs.List.{find, list_all, range_with_len}
use Rattle.std.specs.Option.{option_map}
use Rattle.std.proofs.lemmas.Bool.{and_from, and_parts, le-ltb, leb-true}
use Rattle.std.proofs.lemmas.List.FromFn.{get_or-map-range_with_len}
use Rattle.count.specs.Bundles.{bundled}
use Rattle.count.specs.Law.Contest.{Contest, IsContest}
use Rattle.count.specs.Law.Count.{stages_to}
use Rattle.count.specs.Law.Due.{due_after}
use Rattle.count.specs.Law.Right.{IsRight}
use Rattle.count.specs.declared.stages.Due.{Due}
use Rattle.count.specs.declared.stages.Due.TheVariants.{Act, Lot, Finished}
use Rattle.count.specs.declared.stages.Stage.{Stage}
use Rattle.count.proofs.Law.CountLemmas.{stages_right}
use Rattle.sheet.specs.declared.ward.Poll.{Poll}
use Rattle.checker.specs.Checks.{dues_of, is_drawn_by, is_lot, undrawn}
use Rattle.checker.specs.BallotsRoundTrip.{AreSmall}
use Rattle.checker.specs.Folders.{early_lot}
use Rattle.checker.specs.Wards.{contest_in, numbers_of}
use Rattle.register.specs.Marks.{columns_of}
use Rattle.register.specs.Elections.{ElectionEntry, contest_of, is_drawn_for, is_tied, stages_of}
use Rattle.register.proofs.BundledLemmas.{due-alike, fair-alike, stages-alike}
use Rattle.office.specs.Sheets.{candidate_shown, shown_with}
use Rattle.sheet_round_trip.proofs.EndLemmas.{names_tied}

-- if a candidate is tied, a lot is due
tied_is_lot : (due : Due) (c : ℕ) → is_tied due c ≡ true → is_lot due ≡ true
tied_is_lot (Act action) c is = absurd (cc)
tied_is_lot (Lot stage kind tied) c is = refl
tied_is_lot Finished c is = absurd (cc)

module _ (e : ElectionEntry) (poll : Option Poll) (own : map (λ (candidate : ℕ × List ℕ). candidate.0) (map candidate_shown e.candidates) ≡ columns_of e.candidates) where
  abbrev on_bundles : Contest
  on_bundles = contest_in (shown_with poll e) (bundled e.ballots.papers)

  pub same_stages : (k : ℕ) → stages_to on_bundles e.lots k ≡ stages_to (contest_of e) e.lots k
  same_stages k = stages-alike e (numbers_of (shown_with poll e)) e.ward.seats (bundled e.ballots.papers) own refl refl e.lots refl on_bundles refl k

  pub same_due : (k : ℕ) → due_after on_bundles (stages_to on_bundles e.lots k) ≡ due_after (contest_of e) (stages_to (contest_of e) e.lots k)
  same_due k = due-alike e (numbers_of (shown_with poll e)) e.ward.seats (bundled e.ballots.papers) own refl refl e.lots refl on_bundles refl k

  -- the completed stages are correct
  pub right_so_far : IsRight on_bundles e.lots (stages_of e)
  right_so_far = subst (IsRight on_bundles e.lots) (same_stages e.ward.done) (stages_right on_bundles e.lots e.ward.done)

  -- each recorded lot is drawn
  drawn : (lot : ℕ × ℕ) → is_drawn_for e lot ≡ true → lot.0 ≤ 255 → is_drawn_by (dues_of on_bundles e.lots) lot.0 ≡ true
  unfolding dues_of
  drawn lot was small =
      let at : ℕ → Due = λ k. due_after on_bundles (stages_to on_bundles e.lots k) in
      let found : get_or (map at (range_with_len 0 256)) (lot.0 - 1) Finished ≡ at (lot.0 - 1) = get_or-map-range_with_len at 0 256 (lot.0 - 1)
      (lot.0 - 1) Finished (omega (arith, small)) (omega arith) in
      let tied = (and_parts (nat_le lot.0 (e.ward.done + 1)) _ was).1 in
      ap is_lot (found ∙ same_due (lot.0 - 1)) ∙ tied_is_lot (due_after (contest_of e) (stages_to (contest_of e) e.lots (lot.0 - 1))) lot.1 tied

  none_undrawn : (ls : List (ℕ × ℕ)) → list_all (is_drawn_for e) ls ≡ true → AreSmall ls → find (λ (lot : ℕ × ℕ). not (is_drawn_by (dues_of on_bundles e.lots) lot.0)) ls ≡ None
  none_undrawn [] all small = refl
  none_undrawn (lot ∷ ls) all small =
      let parts = and_parts (is_drawn_for e lot) (list_all (is_drawn_for e) ls) all in
      rw (drawn lot parts.0 small.0.0) (none_undrawn ls parts.1 small.1)

  pub all_drawn : list_all (is_drawn_for e) e.lots ≡ true → AreSmall e.lots → undrawn on_bundles e.lots ≡ None
  all_drawn all small = ap (option_map (λ (lot : ℕ × ℕ). lot.0)) (none_undrawn e.lots all small)

  -- and is for one of the completed stages, or for the next
  soon : (stages : List Stage) (ls : List (ℕ × ℕ)) → length stages ≡ e.ward.done → list_all (is_drawn_for e) ls ≡ true
      → find (λ (lot : ℕ × ℕ). nat_lt (length stages + 1) lot.0) ls ≡ None
  soon stages [] many all = refl
  soon stages (lot ∷ ls) many all =
      let parts = and_parts (is_drawn_for e lot) (list_all (is_drawn_for e) ls) all in
      let least : lot.0 ≤ e.ward.done + 1 = leb-true lot.0 (e.ward.done + 1) (and_parts (nat_le lot.0 (e.ward.done + 1)) _ parts.0).0 in
      let not_later : nat_lt (length stages + 1) lot.0 ≡ false = le-ltb (length stages + 1) lot.0 (omega (arith, least, many)) in
      rw not_later (soon stages ls many parts.1)

  pub none_early : (stages : List Stage) → length stages ≡ e.ward.done → list_all (is_drawn_for e) e.lots ≡ true → early_lot stages e.lots ≡ None
  none_early stages many all = ap (option_map (λ (lot : ℕ × ℕ). lot.0)) (soon stages e.lots many all)

  -- and names one of the candidates who are tied at its stage
  pub all_tied : (ls : List (ℕ × ℕ)) → list_all (is_drawn_for e) ls ≡ true → list_all (names_tied on_bundles e.lots) ls ≡ true
  all_tied [] all = refl
  all_tied (lot ∷ ls) all =
      let parts = and_parts (is_drawn_for e lot) (list_all (is_drawn_for e) ls) all in
      let tied = (and_parts (nat_le lot.0 (e.ward.done + 1)) _ parts.0).1 in
      and_from _ _ (ap (λ (due : Due). is_tied due lot.1) (same_due (lot.0 - 1)) ∙ tied) (all_tied ls parts.1)

  -- a count can be held on the bundles
  pub fair_on_bundles : IsContest (contest_of e) → IsContest on_bundles
  fair_on_bundles fair = fair-alike e (numbers_of (shown_with poll e)) e.ward.seats (bundled e.ballots.papers) own refl refl fair
