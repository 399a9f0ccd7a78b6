-- Proof that `add` meets its contract.
use Rattle.std.proofs.Common.{◌≡◌, ◌∙◌, true, false, ap, subst, sym, arith}
use Rattle.std.specs.Prelude.{◌==◌}
use Rattle.std.specs.List.{list_any}
use Rattle.paper.specs.Ranking.{IsRanking}
use Rattle.checker.specs.Values.{ranks_of}
use Rattle.checker.proofs.RankLemmas.{named_twice, ranking_more}
use Rattle.checker.proofs.ranks.Ranks.add.Goals as goal

pub returns-then-contains-clause-is : goal.returns-then-contains-clause-is
returns-then-contains-clause-is c =
    let named : list_any (λ d. d == c.in-Ok.c) c.args.self.now.named.items ≡ true = ap (list_any (λ d. d == c.in-Ok.c)) (sym c.deref.ensures.value) ∙ sym c.if-contains.ensures.value in
    named_twice c.args.highest (ranks_of c.args.self.now) c.args.word.now c.in-Ok.c (sym c.in-Ok.ensures.is) named

pub returns-clause-ranking : goal.returns-clause-ranking
returns-clause-ranking c = λ rank.
    let none : list_any (λ d. d == c.in-Ok.c) c.args.self.now.named.items ≡ false = ap (list_any (λ d. d == c.in-Ok.c)) (sym c.deref.ensures.value) ∙ sym c.if-contains.ensures.value in
    subst IsRanking (sym c.in_ok-push.ensures.items) (ranking_more c.args.self.now.named.items c.in-Ok.c rank c.in-Ok.ensures.some (omega (arith, c.in-Ok.ensures.few)) none)
