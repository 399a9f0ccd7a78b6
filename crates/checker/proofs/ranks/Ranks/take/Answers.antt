-- Proof that `take` meets its contract.
use Rattle.std.proofs.Common.{◌≡◌, subst, sym}
use Rattle.std.specs.Prelude.{IfOk}
use Rattle.checker.specs.Outcomes.{outcome}
use Rattle.checker.specs.Values.{ranks_of}
use Rattle.checker.proofs.RankLemmas.{alone_word}
use Rattle.checker.proofs.ranks.Ranks.take.Goals as goal

pub returns-then-is_alone : goal.returns-then-is_alone
returns-then-is_alone c =
    let same = alone_word c.args.highest c.args.withdrawn.now c.args.self.now.named.items c.args.self.now.next c.args.word.now (sym c.if-is_zero.ensures) (sym c.if-is_alone.ensures) in
    record {
      is = subst (λ told. IfOk c.take_alone.result (λ result. outcome result (ranks_of c.take_alone.new.self) ≡ told)) same c.take_alone.ensures.is;
      ranking = c.take_alone.ensures.ranking;
    }
