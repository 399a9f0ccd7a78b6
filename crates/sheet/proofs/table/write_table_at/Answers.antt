-- Proof that `write_table_at` meets its contract.
use Rattle.std.proofs.Common.{◌≡◌, ◌==◌, ◌%◌, true, eq-eqb}
use Rattle.sheet.proofs.table.write_table_at.Goals as goal

pub returns : goal.returns
returns g c =
    let e : (c.args.place % 8 == 0) ≡ true = eq-eqb (c.args.place % 8) 0 c.if-place-ne0.false in
    rw e (rw c.up_to_eighth-upto.ensures at c.write_table.ensures)
