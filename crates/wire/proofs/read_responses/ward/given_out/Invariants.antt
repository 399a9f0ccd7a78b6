-- The loop invariant of `given_out`.
use Rattle.std.proofs.Common.{◌≡◌, map, min, take}
use Rattle.std.specs.List.{sum_by}
use Rattle.store.specs.Overviews.{BatchView, batch_view}
use Rattle.wire.specs.OfficeReplies.{most_papers}
use Rattle.wire.proofs.read_responses.ward.given_out.Given as goal

abbrev pub invariant-loop-overview : goal.invariant-loop-overview
invariant-loop-overview l = l.papers ≡ min (sum_by (λ (v : BatchView). v.batch.size) (map batch_view (take l.overview-index l.batches))) most_papers
