-- The invariant of the loop in `covers_of`: the covers so far, followed by those of the remaining batches, are all covers.
use Rattle.std.proofs.Common.{◌≡◌, ◌++◌, drop, map}
use Rattle.store.specs.Overviews.{batch_view}
use Rattle.forms.specs.Covers.{cover_entry}
use Rattle.desk.specs.Forms.{cover_of}
use Rattle.desk.proofs.ward_forms.covers_of.Given as goal

abbrev pub invariant-loop-overview : goal.invariant-loop-overview
invariant-loop-overview l = map cover_entry l.covers.items ++ map cover_of (map batch_view (drop l.overview-index l.batches)) ≡ map cover_of (map batch_view l.batches)
