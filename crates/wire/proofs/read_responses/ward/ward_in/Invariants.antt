-- The loop invariant of `ward_in`: none of the wards examined so far has the given number.
use Rattle.std.proofs.Common.{◌≡◌, ◌==◌, drop, map}
use Rattle.std.specs.Prelude.{find}
use Rattle.store.specs.Overviews.{WardView, ward_view}
use Rattle.wire.proofs.read_responses.ward.ward_in.Given as goal

abbrev pub invariant-loop-overview : goal.invariant-loop-overview
invariant-loop-overview l =
    find (λ (v : WardView). v.ward.number == l.number) (map ward_view (drop l.overview-index l.wards)) ≡ find (λ (v : WardView). v.ward.number == l.number) (map ward_view l.wards)
