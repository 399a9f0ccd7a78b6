-- The loop invariant of `whole_lines`: the lines found so far are among the bytes.
use Rattle.std.specs.Prelude.{◌≤◌, length}
use Rattle.count_office.proofs.order_client.whole_lines.Given as goal

abbrev pub invariant-loop-place : goal.invariant-loop-place
invariant-loop-place l = l.whole ≤ length l.fn.bytes
