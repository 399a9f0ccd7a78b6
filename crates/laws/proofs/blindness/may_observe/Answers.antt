-- Proof that `may_observe` meets its contract.
use Rattle.std.proofs.Common.{◌∙◌, sym}
use Rattle.std.proofs.lemmas.Bool.{and_left, and_right}
use Rattle.register.specs.Ranges.{is_office}
use Rattle.laws.specs.Blindness.{is_shown_command}
use Rattle.laws.proofs.ObservationLemmas.{unobserved}
use Rattle.laws.proofs.blindness.may_observe.Goals as goal

pub returns-then-is_office-clause-unobserved : goal.returns-then-is_office-clause-unobserved
returns-then-is_office-clause-unobserved c none =
    let r = c.args.request.now in unobserved c.args.clerk r c.if-request-clerk.false (and_right (is_office r.actor) (is_shown_command r.command) (sym c.is_shown.ensures ∙ none))

pub returns-else-is_office-clause-unobserved : goal.returns-else-is_office-clause-unobserved
returns-else-is_office-clause-unobserved c none =
    let r = c.args.request.now in unobserved c.args.clerk r c.if-request-clerk.false (and_left (is_office r.actor) (is_shown_command r.command) (sym c.is_office.ensures ∙ none))
