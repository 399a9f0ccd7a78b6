-- Proof that `write_value` meets its contract.
use Rattle.std.proofs.Common.{refl}
use Rattle.sheet.proofs.Writing.{Writes-put, Writes-then}
use Rattle.sheet.proofs.line.write_value.Goals as goal

pub returns : goal.returns
returns g c =
    let spaces = rw (c.saturating_sub.ensures, c.value_length.ensures.length) at c.in_ok-write_spaces.ensures in
    let put = c.write.ensures in
    Writes-then c.write.result spaces (Writes-put _ _ _ _ c.write.result refl c.value_length.ensures.utf8 put.written put.ok put.cut_off put.err)
