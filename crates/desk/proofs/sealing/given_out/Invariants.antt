-- The invariant of the loop in `given_out`: the papers counted so far plus those in the remaining batches are all the papers, and their number is small enough not
-- to overflow.
use Rattle.std.proofs.Common.{◌≡◌, ◌≤◌, ◌+◌, ◌*◌, ◌^◌, drop, map}
use Rattle.store.specs.Overviews.{batch_view}
use Rattle.desk.specs.Seals.{given_out}
use Rattle.desk.proofs.sealing.given_out.Given as goal

abbrev pub invariant-loop-batch : goal.invariant-loop-batch
invariant-loop-batch l =
    (l.papers + given_out (map batch_view (drop l.batch-index l.batches)) ≡ given_out (map batch_view l.batches)) × (l.papers ≤ l.batch-index * 2 ^ 32)
