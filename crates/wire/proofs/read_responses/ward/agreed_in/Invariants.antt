-- The loop invariant of `agreed_in`.
use Rattle.std.proofs.Common.{◌≡◌, map, min, take}
use Rattle.std.specs.List.{sum_by}
use Rattle.store.specs.Overviews.{BatchView, batch_view}
use Rattle.wire.specs.OfficeReplies.{most_papers, size_in}
use Rattle.wire.proofs.read_responses.ward.agreed_in.Given as goal

abbrev pub invariant-loop-overview : goal.invariant-loop-overview
invariant-loop-overview l = l.papers ≡ min (sum_by (λ (v : BatchView). size_in v.standing v.batch.size) (map batch_view (take l.overview-index l.batches))) most_papers
