-- Proof that `without` meets its contract.
use Rattle.std.proofs.Common.{◌≡◌, subst, sym}
use Rattle.std.proofs.lemmas.Grind.{common_steps}
use Rattle.std.proofs.Common.{arith}
use Rattle.paper.specs.Ranking.{IsRanking}
use Rattle.checker.specs.Ranks.{without}
use Rattle.checker.proofs.RankLemmas.{ranking_without}
use Rattle.checker.proofs.ranks.without.Goals as goal

pub returns-clause-ranking : goal.returns-clause-ranking
returns-clause-ranking c = λ rank.
    let is : c.loop-c.list.items ≡ without c.args.withdrawn.now c.args.named.now = grind (arith, common_steps) in
    subst IsRanking (sym is) (ranking_without c.args.withdrawn.now c.args.named.now rank)
