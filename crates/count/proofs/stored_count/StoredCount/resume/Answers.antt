-- Parts of the proof of `resume` that are done by hand.
use Rattle.std.proofs.Common.{◌∙◌, ◌+◌, ◌*◌, ◌<◌, ◌≤◌, List, length, reverse, sym, subst}
use Rattle.std.specs.List.{AllByRecursion}
use Rattle.votes.specs.Units.{one_vote, max_units}
use Rattle.count.specs.Bundles.{papers_of}
use Rattle.count.specs.StoredCounts.{StoredCountEntry}
use Rattle.count.specs.Inside.Holdings.{newest_lost}
use Rattle.count.specs.Inside.Placing.{IsSound}
use Rattle.count.specs.declared.stages.Stage.{Stage}
use Rattle.count.proofs.StoredCountLemmas.{own-terms, kept-sound, kept-short, kept-lost}
use Rattle.count.proofs.stored_count.StoredCount.resume.Goals as goal

pub invariant_of-result : goal.invariant_of-result
invariant_of-result c = record {
  quota_is = own-terms c.args.candidates c.args.seats c.terms_on-terms.result c.args.bundles c.terms_on-terms.ensures.candidates c.terms_on-terms.ensures.seats c.terms_on-terms.ensures.is;
  bundles_are = c.terms_on-terms.ensures.bundles;
  sound = subst (AllByRecursion IsSound) c.deref.ensures.value (c.is_in_range.ensures.sound c.if-not-is_in_range.false);
  few = subst (λ (l : List Stage). length l < 255) c.deref-2.ensures.value (c.is_in_range.ensures.few c.if-not-is_in_range.false);
  lost_few = subst (λ (l : List Stage). newest_lost (reverse l) ≤ max_units) c.deref-2.ensures.value (c.is_in_range.ensures.lost c.if-not-is_in_range.false);
}

pub returns-then-not-is_in_range-clause-some : goal.returns-then-not-is_in_range-clause-some
returns-then-not-is_in_range-clause-some c contest history kept =
    let given : StoredCountEntry = record { candidates = c.args.candidates; seats = c.args.seats; bundles = c.args.bundles; places = c.args.places.items; stages = c.args.stages.items } in
    let bundles = c.terms_on-terms.ensures.bundles in
    let sound = subst (AllByRecursion IsSound) (sym c.deref.ensures.value) (kept-sound contest history given bundles kept) in
    let short = subst (λ (l : List Stage). length l ≤ length c.args.candidates + 1) (sym c.deref-2.ensures.value) (kept-short contest history given bundles kept) in
    let lost = subst (λ (l : List Stage). newest_lost (reverse l) ≤ one_vote * length (papers_of c.args.bundles)) (sym c.deref-2.ensures.value) (kept-lost contest history given bundles kept) in
    sym c.if-not-is_in_range.true ∙ c.is_in_range.ensures.when sound short lost
