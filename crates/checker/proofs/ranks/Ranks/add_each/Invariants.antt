-- The invariant of the loop in `add_each`: the candidates so far and those in the remaining words make up all of them.
use Rattle.std.proofs.Common.{◌≡◌, map, drop}
use Rattle.paper.specs.Ranking.{IsRanking}
use Rattle.checker.specs.Ranks.{with_each}
use Rattle.checker.specs.Values.{ranks_of}
use Rattle.checker.proofs.ranks.Ranks.add_each.Given as goal

abbrev pub invariant-loop-word : goal.invariant-loop-word
invariant-loop-word l = record {
  same : with_each l.highest (ranks_of l.self) (map (λ w. w.now) (drop l.word-index l.words)) ≡ with_each l.highest (ranks_of l.fn.self) (map (λ w. w.now) l.words);
  ranking : IsRanking l.fn.self.named.items → IsRanking l.self.named.items;
}
