-- The invariant of the loop in `withdrawn_from`: the numbers so far and those in the remaining words make up the whole set.
use Rattle.std.proofs.Common.{◌≡◌, map, drop}
use Rattle.checker.specs.Papers.{withdrawn_from}
use Rattle.checker.proofs.papers.withdrawn_from.Given as goal

abbrev pub invariant-loop-word : goal.invariant-loop-word
invariant-loop-word l = withdrawn_from l.highest l.withdrawn (map (λ w. w.now) (drop l.word-index l.words)) ≡ withdrawn_from l.highest l.initial.withdrawn (map (λ w. w.now) l.words)
