-- Parts of the proof of `figured` that are done by hand.
use Rattle.std.proofs.Common.{◌∙◌, reverse, arith, refl}
use Rattle.count.specs.Law.Contest.{Contest, History}
use Rattle.count.specs.Inside.Placing.{contest_on}
use Rattle.count.proofs.BundleFigureLemmas.{worth-few, holder-few, votes-figured, none-figured, lost-figured}
use Rattle.count.proofs.bundle_figures.figured.Goals as goal

pub sums-sums-requires-clause-small : goal.sums-sums-requires-clause-small
sums-sums-requires-clause-small c = holder-few c.args.moved.now c.args.bundles.now c.requires.sound_moved (omega (arith, c.papers-few.ensures.is, c.papers-few.ensures.few))

pub lost_from-requires-clause-old : goal.lost_from-requires-clause-old
lost_from-requires-clause-old c = worth-few c.args.places.now c.args.bundles.now c.requires.sound (omega (arith, c.papers-few.ensures.is, c.papers-few.ensures.few))

pub lost_from-requires-clause-new : goal.lost_from-requires-clause-new
lost_from-requires-clause-new c = worth-few c.args.moved.now c.args.bundles.now c.requires.sound_moved (omega (arith, c.papers-few.ensures.is, c.papers-few.ensures.few))

pub returns : goal.returns
returns c due are =
    let contest : Contest = contest_on c.args.terms.now c.args.bundles.now in
    let before : History = reverse c.args.stages.now in
    record {
      of_action = refl;
      votes_are = c.all_votes_from.ensures ∙ votes-figured contest before c.args.action.now c.args.bundles.now c.args.moved.now c.sums-sums.result refl are c.sums-sums.ensures.each;
      non_transferable_is = c.from_units.ensures ∙ none-figured contest before c.args.action.now c.args.bundles.now c.args.moved.now c.sums-sums.result refl are c.sums-sums.ensures.each;
      lost_is = c.lost_from.ensures ∙ lost-figured contest before c.args.action.now c.args.bundles.now c.args.places.now c.args.moved.now due are;
    }
