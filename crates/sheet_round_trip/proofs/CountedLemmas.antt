-- The count that the checker makes of a sealed ward from its ballots: the completed stages are its first ones, and all of them if the ward is declared.
use Rattle.std.proofs.Common.{◌≡◌, ℕ, ◌<◌, ◌^◌, Bool, true, false, cond, List, [], length, map, reverse, Option, Some, None, refl, sym, subst, ◌∙◌, arith}
use Rattle.std.specs.Global.{Vec}
use Rattle.std.specs.List.{list_all}
use Rattle.std.proofs.Math.Seq.{take-length}
use Rattle.std.proofs.lemmas.Bool.{cond-false}
use Rattle.std.proofs.lemmas.List.{length-reverse, reverse-reverse}
use Rattle.std.proofs.lemmas.List.Sorted.{IsPermutation-refl}
use denote.RawPtr.{null_ptr}
use Rattle.paper.proofs.ColumnSets.{length_columns}
use Rattle.count.specs.Advance.{end_after}
use Rattle.count.specs.Bundles.{bundled}
use Rattle.count.specs.Law.Contest.{Contest, History, IsContest}
use Rattle.count.specs.Law.Elected.{elected_after}
use Rattle.count.specs.Law.Right.{IsBeginning, IsRight, IsWholeCount}
use Rattle.count.specs.declared.count_to_end.CountEnd.{CountEnd}
use Rattle.count.specs.declared.count_to_end.CountEnd.TheVariants as end
use Rattle.count.specs.declared.stages.Due.{Due}
use Rattle.count.specs.declared.stages.Stage.{Stage}
use Rattle.count.proofs.Law.ActionLemmas.{length-right}
use Rattle.count.proofs.Law.RightLemmas.{whole_count}
use Rattle.sheet.specs.Entries.{SheetEntry}
use Rattle.sheet.specs.declared.ward.Poll.{Poll}
use Rattle.checker.specs.BallotsRoundTrip.{AreSmall}
use Rattle.checker.specs.Checks.{EndsAt, dues_of, undrawn, undrawn_by}
use Rattle.checker.specs.Counts.{IsWardCount, undrawn_at}
use Rattle.checker.specs.Folders.{AreShown, MayEnd, SealedEntry, early_lot}
use Rattle.checker.specs.Reading.{ReaderEntry}
use Rattle.checker.specs.Wards.{contest_in, numbers_of}
use Rattle.register.specs.Marks.{columns_of}
use Rattle.register.specs.Elections.{ElectionEntry, contest_of, due_of, elected_of, has_count, is_drawn_for, is_finished, stages_of}
use Rattle.office.specs.Sheets.{candidate_shown, shown_with}
use Rattle.sheet_round_trip.proofs.ContestedLemmas.{all_drawn, all_tied, fair_on_bundles, none_early, right_so_far}
use Rattle.sheet_round_trip.proofs.EndLemmas.{HasEnd, first_of, has_end}
use Rattle.sheet_round_trip.proofs.FinishedLemmas.{counted, same_elected}

-- a vector of the given elements
abbrev vec_of : {X : Type 0} (xs : List X) → length xs < 2 ^ 63 → Vec X
vec_of xs few = record { ptr = null_ptr; len = length xs; cap = length xs; alloc = record { memory = record { seal = tt } }; items = xs; ok = (refl, omega arith); small = few }

-- a correct history of a contest is short
few_stages : (contest : Contest) (lots : List (ℕ × ℕ)) (stages : History) → IsContest contest → IsRight contest lots stages → length (reverse stages) < 2 ^ 63
few_stages contest lots stages fair right =
    omega (arith, length-reverse stages, length-right contest lots stages fair right, length_columns contest.candidates fair.candidate_set)

-- if each recorded lot is drawn, none is undrawn however the count ends
none_undrawn : (why : CountEnd) (dues : List Due) (lots : List (ℕ × ℕ)) → undrawn_by dues lots ≡ None → undrawn_at why dues lots ≡ None
none_undrawn end.Finished dues lots none = none
none_undrawn (end.LotNeeded stage among) dues lots none = none
none_undrawn (end.LotNotAmong stage) dues lots none = refl

-- the poll of an election, its ward, and the stages that its texts show, given whether it is contested
abbrev poll_by : ElectionEntry → Bool → Option Poll
poll_by e b = cond b (Some (record { valid = length e.ballots.papers; rejected = e.ballots.rejected })) None

abbrev pub shown_by : ElectionEntry → Bool → SheetEntry
shown_by e b = shown_with (poll_by e b) e

-- a sealed ward with a count that the texts of an election can show, given whether the election is contested, and whether it is declared
pub record HasCount (e : ElectionEntry) (b declared : Bool) : Type 0 where
  pub ward : SealedEntry
  pub is : IsWardCount (poll_by e b) (shown_by e b) (cond b (bundled e.ballots.papers) []) (cond b e.lots []) ward.count
  pub ends : MayEnd declared ward.count.end
  pub shows : AreShown declared ward.count.stages.items (cond b (reverse (stages_of e)) [])
  pub drawn : early_lot (cond b (reverse (stages_of e)) []) (cond b e.lots []) ≡ None
  pub elects : declared ≡ true → ward.count.elected ≡ elected_of e

module _ (e : ElectionEntry) (own : map (λ (candidate : ℕ × List ℕ). candidate.0) (map candidate_shown e.candidates) ≡ columns_of e.candidates)
    (reading : ReaderEntry)
  where
    -- an uncontested ward
    uncontested_count : (declared : Bool) → has_count e ≡ false → HasCount e false declared
    uncontested_count declared uncontested = record {
      ward = record {
        reading = reading;
        count = record { stages = vec_of [] (omega arith); elected = numbers_of (shown_by e false); end = end.Finished };
        stages = [];
        is_declared = declared;
      };
      is = record { none = refl; chosen = refl; finished = refl };
      ends = tt;
      shows = record { done = 0; first = refl; whole = λ _. refl };
      drawn = refl;
      elects = λ _. own ∙ sym (cond-false (has_count e) _ _ uncontested);
    }

    -- a contested ward, each of whose recorded lots is drawn
    module _
        (contested : has_count e ≡ true) (fair : IsContest (contest_of e)) (drawn : list_all (is_drawn_for e) e.lots ≡ true) (as_many : length (stages_of e) ≡ e.ward.done)
        (small : AreSmall e.lots)
      where
        abbrev poll : Option Poll
        poll = poll_by e true

        abbrev contest : Contest
        contest = contest_in (shown_by e true) (bundled e.ballots.papers)

        fair_here : IsContest contest
        fair_here = fair_on_bundles e poll own fair

        undrawn_here : undrawn contest e.lots ≡ None
        undrawn_here = all_drawn e poll own drawn small

        none_early_here : early_lot (reverse (stages_of e)) e.lots ≡ None
        none_early_here = none_early e poll own (reverse (stages_of e)) (length-reverse (stages_of e) ∙ as_many) drawn

        -- which is declared
        declared_count : is_finished (due_of e) ≡ true → HasCount e true true
        declared_count finished =
            let stages : List Stage = reverse (stages_of e) in
            let all : Vec Stage = vec_of stages (few_stages contest e.lots (stages_of e) fair_here (right_so_far e poll own)) in
            let ends : EndsAt contest e.lots stages end.Finished = counted e poll own contested finished in
            record {
              ward = record {
                reading = reading;
                count = record { stages = all; elected = elected_after contest (reverse stages); end = end.Finished };
                stages = stages;
                is_declared = true;
              };
              is = record { contest = fair_here; by_lots = record { counted = ends; chosen = refl; drawn = undrawn_here } };
              ends = tt;
              shows = record { done = length stages; first = sym (take-length stages); whole = λ _. refl };
              drawn = none_early_here;
              elects = λ _. same_elected e poll own contested finished;
            }

        -- which isn't declared: the lots for later stages have yet to be drawn, or stages have yet to be carried out
        sealed_count : HasCount e true false
        sealed_count =
            let whole : HasEnd contest e.lots = has_end contest e.lots fair_here (all_tied e poll own e.lots drawn) in
            let stages : List Stage = reverse whole.stages in
            let all : Vec Stage = vec_of stages (few_stages contest e.lots whole.stages fair_here whole.right) in
            let again : whole.stages ≡ reverse stages = sym (reverse-reverse whole.stages) in
            let only : IsWholeCount contest e.lots whole.stages = whole_count contest e.lots whole.stages whole.why whole.right whole.ended in
            let begins : IsBeginning (stages_of e) whole.stages = only.begins_each contest.papers (stages_of e) (IsPermutation-refl contest.papers) (right_so_far e poll own) in
            let ends : EndsAt contest e.lots stages whole.why = record {
              whole = subst (IsWholeCount contest e.lots) again only;
              ended = subst (λ (h : History). end_after contest e.lots h ≡ Some whole.why) again whole.ended;
            } in
            record {
              ward = record {
                reading = reading;
                count = record { stages = all; elected = elected_after contest (reverse stages); end = whole.why };
                stages = reverse (stages_of e);
                is_declared = false;
              };
              is = record { contest = fair_here; by_lots = record { counted = ends; chosen = refl; drawn = none_undrawn whole.why (dues_of contest e.lots) e.lots undrawn_here } };
              ends = whole.may;
              shows = record { done = length (stages_of e); first = first_of (stages_of e) whole.stages begins; whole = λ declared. absurd (cc) };
              drawn = none_early_here;
              elects = λ declared. absurd (cc);
            }

    pub count_of : (declared : Bool) → (declared ≡ true → is_finished (due_of e) ≡ true) → (has_count e ≡ true → IsContest (contest_of e))
        → (has_count e ≡ true → list_all (is_drawn_for e) e.lots ≡ true) → (has_count e ≡ true → length (stages_of e) ≡ e.ward.done) → AreSmall e.lots
        → HasCount e (has_count e) declared
    count_of declared finished fair drawn as_many small = go (has_count e) refl declared finished
      where
        go : (b : Bool) → has_count e ≡ b → (d : Bool) → (d ≡ true → is_finished (due_of e) ≡ true) → HasCount e b d
        go false uncontested d finished_if = uncontested_count d uncontested
        go true contested true finished_if = declared_count contested (fair contested) (drawn contested) (as_many contested) small (finished_if refl)
        go true contested false finished_if = sealed_count contested (fair contested) (drawn contested) (as_many contested) small
