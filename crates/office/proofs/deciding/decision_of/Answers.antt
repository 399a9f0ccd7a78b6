-- Proof that `decision_of` meets its contract.
use Rattle.register.specs.Machine.{step}
use Rattle.office.proofs.DecisionLemmas.{leads_on}
use Rattle.office.proofs.deciding.decision_of.Goals as goal

pub returns-clause-leads : goal.returns-clause-leads
returns-clause-leads g c clean is_open s at =
    let was = c.load_view.ensures.kept clean is_open s at in
    let view = c.in_ok-view.ensures.shows clean s was in
    leads_on s c.in_ok-decision.decision _ (c.in_ok-decision.ensures.decides s view) (c.in_ok-decision.ensures.stays s was.is) (c.in_ok-decision.ensures.tabulates s was.is view)
