-- Proof that `write_open_end` meets its contract.
use Rattle.std.proofs.Common.{◌≡◌, ◌==◌, false}
use Rattle.std.proofs.lemmas.Bool.{ne_eqb}
use Rattle.sheet.proofs.elected.write_open_end.Goals as goal

pub returns : goal.returns
returns g c =
    let e : (c.args.left == 0) ≡ false = ne_eqb _ _ c.if-left-eq0.false in
    rw e c.write_line-2.ensures
