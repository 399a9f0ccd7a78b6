-- The invariant of the loop in `preferred`.
use Rattle.std.proofs.Common.{◌≡◌, ◌+◌, ◌-◌, ◌++◌, length, take, drop, replicate}
use Rattle.paper.specs.Bearers.{AreBearers}
use Rattle.paper.specs.Columns.{max_candidates}
use Rattle.paper.specs.Marking.{Marking}
use Rattle.paper.specs.Preferences.{preferences, preferences_from}
use Rattle.paper.proofs.validity.preferred.Given as goal

abbrev pub invariant-loop-place : goal.invariant-loop-place
invariant-loop-place l = record {
  whole : (m : Marking) → AreBearers m l.bearers → preferences m ≡ take l.place l.numbers ++ preferences_from (max_candidates - l.place) (l.place + 1) m;
  zeros : drop l.place l.numbers ≡ replicate (max_candidates - l.place) 0;
  size : length l.numbers ≡ max_candidates;
}
