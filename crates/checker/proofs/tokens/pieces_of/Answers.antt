-- Proof that `pieces_of` meets its contract.
use Rattle.std.proofs.Common.{◌≡◌, ◌∙◌, ◌++◌, false, get_or, map, sym, ap, arith}
use Rattle.checker.specs.Tokens.{parts}
use Rattle.checker.proofs.TokenLemmas.{goes_on}
use Rattle.checker.proofs.tokens.pieces_of.Goals as goal

pub loop-i-preserved-then-not-parts : goal.loop-i-preserved-then-not-parts
loop-i-preserved-then-not-parts c =
    let other : parts c.args.separator (get_or c.args.text.now c.loop-i.i 0) ≡ false = cc in
    record {
      within = omega arith;
      same = ap (λ ps. map (λ p. p.now) c.loop-i.pieces.items ++ ps)
          (sym (goes_on c.args.separator c.args.text.now c.loop-i.start c.loop-i.i c.loop-i.invariant.within c.loop-i-test.true other)) ∙ c.loop-i.invariant.same;
    }
