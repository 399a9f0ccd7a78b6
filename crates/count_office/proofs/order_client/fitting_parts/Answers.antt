-- Proof that `fitting_parts` meets its contract: one more piece has a spelling.
use Rattle.count_office.proofs.PieceLemmas.{fits_more}
use Rattle.count_office.proofs.order_client.fitting_parts.Goals as goal

pub loop-part-preserved : goal.loop-part-preserved
loop-part-preserved c = fits_more c.loop-part.pieces.items _ c.in-Some.piece c.in_ok-push-in-Some.ensures.items c.in-Some.ensures c.loop-part.invariant
