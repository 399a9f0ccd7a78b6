-- Proof that `mask` meets its contract: one more byte is shown, until none is left.
use Rattle.std.proofs.Common.{◌≡◌, ◌∙◌, ◌++◌, length, take, ap, sym, arith, length-set, append-nil}
use Rattle.std.proofs.Math.ListN.{drop_of_length-le}
use Rattle.count_office.specs.Screens.{masked}
use Rattle.count_office.proofs.ScreenLemmas.{masked_none, shown_more}
use Rattle.count_office.proofs.screen.mask.Goals as goal

pub loop-i-preserved : goal.loop-i-preserved
loop-i-preserved c = record {
  size = length-set _ _ _ ∙ c.loop-i.invariant.size;
  so_far = shown_more _ c.loop-i.room c.args.bytes.now c.loop-i.i c.loop-i.before c.loop-i.last c.shown_byte.result c.loop-i-test.true
      (omega (arith, c.requires, c.loop-i-test.true, c.loop-i.invariant.size)) c.shown_byte.ensures c.loop-i.invariant.so_far;
}

pub returns : goal.returns
returns c =
    let all : c.loop-i.i ≡ length c.args.bytes.now = omega (arith, c.loop-i.auto.i-end, c.loop-i-test.false) in
    sym (c.loop-i.invariant.so_far ∙ ap (λ xs. take c.loop-i.i c.loop-i.room ++ masked c.loop-i.before c.loop-i.last xs) (drop_of_length-le c.args.bytes.now c.loop-i-test.false)
    ∙ ap (λ xs. take c.loop-i.i c.loop-i.room ++ xs) (masked_none c.loop-i.before c.loop-i.last) ∙ append-nil _ ∙ ap (λ n. take n c.loop-i.room) all)
