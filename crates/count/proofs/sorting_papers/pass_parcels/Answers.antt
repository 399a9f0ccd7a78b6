-- Parts of the proof of `pass_parcels` that are done by hand.
use Rattle.std.proofs.Common.{◌≡◌, ℕ, ◌<◌, List, length, ap, arith, Bor}
use Rattle.std.specs.List.{sum_by}
use Rattle.count.specs.Law.Places.{first_of}
use Rattle.paper.specs.Standing.{is_continuing}
use Rattle.count.specs.Inside.Holdings.{at_passed, passed_to, new_value}
use Rattle.count.proofs.ParcelTotals.{total_of-more}
use Rattle.count.proofs.sorting_papers.pass_parcels.Goals as goal

pub loop-parcel-preserved : goal.loop-parcel-preserved
loop-parcel-preserved c = record {
  len = c.in_ok-pass_papers.ensures.len;
  numbered = c.in_ok-pass_papers.ensures.numbered;
  passed = λ f.
      let within : c.loop-parcel.parcel-index < length c.args.parcels.now = omega arith in
      let more = total_of-more (at_passed f (is_continuing c.args.standing.now) c.args.rule.now) c.args.parcels.now c.loop-parcel.parcel-index c.parcel-item.result within c.parcel-item.is in
      let at_value : ℕ → ℕ = λ v. sum_by (λ (rest : Bor (List ℕ)). f (first_of (passed_to (is_continuing c.args.standing.now) rest.now))
      (passed_to (is_continuing c.args.standing.now) rest.now) v) c.parcel-item.result.papers.items in
      let papers : sum_by (λ (rest : Bor (List ℕ)). f (first_of (passed_to (is_continuing c.args.standing.now) rest.now))
      (passed_to (is_continuing c.args.standing.now) rest.now) c.value_by-value.result) c.deref.result.now ≡ at_value c.value_by-value.result =
      ap (sum_by (λ (rest : Bor (List ℕ)). f (first_of (passed_to (is_continuing c.args.standing.now) rest.now))
      (passed_to (is_continuing c.args.standing.now) rest.now) c.value_by-value.result)) c.deref.ensures.value in
      let value : at_value c.value_by-value.result ≡ at_value (new_value c.args.rule.now c.parcel-item.result.value) = ap at_value c.value_by-value.ensures.is in
      omega (arith, c.in_ok-pass_papers.ensures.passed f, c.loop-parcel.invariant.passed f, more, papers, value);
}
