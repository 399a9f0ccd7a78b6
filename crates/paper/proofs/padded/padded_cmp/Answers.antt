-- Parts of the proof of `padded_cmp` that are done by hand.
use Rattle.std.proofs.Common.{◌∙◌, sym}
use Rattle.paper.proofs.ByteOrder.{beginnings-order}
use Rattle.paper.proofs.padded.padded_cmp.Goals as goal

pub returns : goal.returns
returns c =
    beginnings-order 8 c.args.numbers.now c.args.others.now c.beginning-own.result c.beginning-other.result c.cmp-2.result c.fits-numbers c.fits-others (c.told-numbers ∙ sym c.told-others)
    c.beginning-own.ensures c.beginning-other.ensures c.if-own-other.false c.cmp-2.ensures
