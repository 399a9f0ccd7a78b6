-- Parts of the proof of `dealt_places` that are done by hand.
use Rattle.std.proofs.Common.{rules, ◌≡◌, sym, subst}
use Rattle.std.specs.List.{AllByRecursion}
use Rattle.count.specs.Inside.Placing.{IsSound, first_places}
use Rattle.count.proofs.PlaceLemmas.{sound-first}
use Rattle.count.proofs.places.dealt_places.Goals as goal

pub returns-clause-sound : goal.returns-clause-sound
returns-clause-sound c =
    let is : c.loop-prefs.dealt.items ≡ first_places c.args.bundles.now = search rules in
    subst (AllByRecursion IsSound) (sym is) (sound-first c.args.bundles.now c.len.ensures.bundles.each)
