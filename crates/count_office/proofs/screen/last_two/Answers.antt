-- Proof that `last_two` meets its contract: nothing is left at the end.
use Rattle.std.proofs.Common.{◌∙◌, ap, sym}
use Rattle.std.proofs.Math.ListN.{drop_of_length-le}
use Rattle.count_office.specs.Screens.{last_two}
use Rattle.count_office.proofs.ScreenLemmas.{last_more, last_none}
use Rattle.count_office.proofs.screen.last_two.Goals as goal

pub loop-i-preserved : goal.loop-i-preserved
loop-i-preserved c = last_more _ c.args.bytes.now c.loop-i.i c.loop-i.before c.loop-i.last c.loop-i-test.true c.loop-i.invariant

pub returns : goal.returns
returns c = sym (c.loop-i.invariant ∙ ap (last_two c.loop-i.before c.loop-i.last) (drop_of_length-le c.args.bytes.now c.loop-i-test.false) ∙ last_none c.loop-i.before c.loop-i.last)
