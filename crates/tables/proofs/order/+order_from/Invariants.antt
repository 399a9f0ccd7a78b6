-- Why `order_from` terminates.
use Rattle.tables.proofs.order.+order_from.Given as goal

abbrev pub decreases-order_from : goal.decreases-order_from
decreases-order_from l = l.columns
