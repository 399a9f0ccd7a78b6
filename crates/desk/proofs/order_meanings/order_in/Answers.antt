-- Proof that `order_in` meets its contract: the name and the rows are those of the matches' subcommand.
use Rattle.desk.proofs.OrdersNamed.{rows_given}
use Rattle.clap.specs.Words.{found_of, rows_of}
use Rattle.desk.proofs.order_meanings.order_in.Goals as goal

pub returns-in-Some-clause-ok : goal.returns-in-Some-clause-ok
returns-in-Some-clause-ok c =
    let given = rows_given c.in-Some.name.now (rows_of (found_of c.in-Some.inner.now)) c.args.matches.now c.in-Some.ensures.name c.in-Some.ensures.rows in
    rw given c.order_named.ensures.ok
