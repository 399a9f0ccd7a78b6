-- Parts of the proof of `begin` that are done by hand.
use Rattle.std.proofs.Common.{length, reverse, sym, ap, subst, arith}
use Rattle.std.specs.List.{AllByRecursion}
use Rattle.count.specs.Inside.Holdings.{newest_lost}
use Rattle.count.specs.Inside.Placing.{IsSound}
use Rattle.count.proofs.StoredCountLemmas.{own-terms, sound-nowhere}
use Rattle.count.proofs.stored_count.StoredCount.begin.Goals as goal

pub invariant_of-result : goal.invariant_of-result
invariant_of-result c = record {
  quota_is = own-terms c.args.candidates c.args.seats c.terms_on.result c.args.bundles c.terms_on.ensures.candidates c.terms_on.ensures.seats c.terms_on.ensures.is;
  bundles_are = c.terms_on.ensures.bundles;
  sound = subst (AllByRecursion IsSound) (sym c.in_ok-places.ensures) (sound-nowhere c.args.bundles);
  few = omega (arith, ap length c.new.ensures.items);
  lost_few = omega (arith, ap (λ l. newest_lost (reverse l)) c.new.ensures.items);
}
