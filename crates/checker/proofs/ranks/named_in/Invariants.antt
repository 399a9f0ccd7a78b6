-- The invariant of the loop in `named_in`: the remaining words, after those read so far, determine the candidates in the line.
use Rattle.std.proofs.Common.{◌≡◌, [], map, drop}
use Rattle.paper.specs.Ranking.{IsRanking}
use Rattle.checker.specs.Ranks.{named_from}
use Rattle.checker.specs.Values.{ranks_of}
use Rattle.checker.specs.declared.ranks.NextWord.TheVariants.{Preference}
use Rattle.checker.proofs.ranks.named_in.Given as goal

abbrev pub invariant-loop-word : goal.invariant-loop-word
invariant-loop-word l = record {
  same : named_from l.highest l.withdrawn (ranks_of l.ranks) (map (λ w. w.now) (drop l.word-index l.words)) ≡ named_from l.highest l.withdrawn
      (record { named = []; next = Preference }) (map (λ w. w.now) l.words);
  ranking : IsRanking l.ranks.named.items;
}
