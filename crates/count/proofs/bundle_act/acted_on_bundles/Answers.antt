-- Parts of the proof of `acted_on_bundles` that are done by hand.
use Rattle.std.proofs.Common.{◌∙◌, List, reverse, subst}
use Rattle.count.specs.Advance.{Adds}
use Rattle.count.specs.Law.Contest.{Contest}
use Rattle.count.specs.Inside.BookInvariants.{IsAdded}
use Rattle.count.specs.Inside.Placing.{contest_on, IsDueInBook}
use Rattle.count.specs.declared.stages.Stage.{Stage}
use Rattle.count.proofs.BundleBookLemmas.{figured-adds, places-adds}
use Rattle.count.proofs.bundle_act.acted_on_bundles.Goals as goal
use Rattle.count.proofs.bundle_act.acted_on_bundles.Goals.{After-add_stage}

-- what was added, for the copied stages
added : (c : After-add_stage) → let contest : Contest = contest_on c.args.terms.now c.args.bundles.now in
    IsDueInBook contest (reverse c.args.stages.now) c.args.bundles.now c.args.places.now c.args.action.now →
    Adds contest (reverse c.args.stages.now) c.args.action.now (reverse c.add_stage.new.stages.items)
added c due =
    let figured = c.figured-stage.ensures due (c.deref.ensures.value ∙ c.in_ok-moved.ensures.is due) in
    let more : IsAdded c.args.terms.now (reverse c.args.stages.now) c.figured-stage.result (reverse c.add_stage.new.stages.items) =
    subst (λ (l : List Stage). IsAdded c.args.terms.now (reverse l) c.figured-stage.result (reverse c.add_stage.new.stages.items))
    (c.in_ok-try_reserve.ensures.items ∙ c.in_ok-longer.ensures.items) c.add_stage.ensures in
    figured-adds c.args.terms.now c.args.bundles.now (reverse c.args.stages.now) (reverse c.add_stage.new.stages.items) c.args.action.now c.figured-stage.result figured more

pub returns-clause-places : goal.returns-clause-places
returns-clause-places c due =
    let contest : Contest = contest_on c.args.terms.now c.args.bundles.now in
    c.in_ok-moved.ensures.is due
    ∙ places-adds contest (reverse c.args.stages.now) (reverse c.add_stage.new.stages.items) c.args.action.now c.args.bundles.now (added (goal.at.returns-clause-places c).After-add_stage due)

pub returns-clause-stage : goal.returns-clause-stage
returns-clause-stage c due = added (goal.at.returns-clause-stage c).After-add_stage due
