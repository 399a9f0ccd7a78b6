-- Proof that `put_sent` meets its contract if the order was accepted.
use Rattle.mending.proofs.mended.Mended.put_sent.Goals as goal

pub returns-in-Accepted-clause-point : goal.returns-in-Accepted-clause-point
returns-in-Accepted-clause-point c = λ p is. rw c.in-Accepted.is (c.keep.ensures.point p c.args.order.now is)
