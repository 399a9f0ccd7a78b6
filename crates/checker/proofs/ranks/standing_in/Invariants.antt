-- The invariant of the loop in `standing_in`: the number so far and that in the remaining words add up to the number of candidates who haven't withdrawn.
use Rattle.std.proofs.Common.{◌≡◌, ◌≤◌, map, drop}
use Rattle.checker.specs.Ranks.{standing_from}
use Rattle.checker.proofs.ranks.standing_in.Given as goal

abbrev pub invariant-loop-word : goal.invariant-loop-word
invariant-loop-word l = record {
  same : standing_from l.highest l.withdrawn l.standing (map (λ w. w.now) (drop l.word-index l.words)) ≡ standing_from l.highest l.withdrawn 0 (map (λ w. w.now) l.words);
  few : l.standing ≤ l.word-index;
}
