use Rattle.std.proofs.Common.{◌≡◌, option_map, sym, ap, subst, ◌∙◌}
use Rattle.std.proofs.lemmas.Result.{IfOk-weaker}
use Rattle.register.specs.Offices.{OfficeState, receipt_entry}
use Rattle.register.specs.CommandInputs.{input_entries}
use Rattle.register.specs.StateConditions.{IsState}
use Rattle.register.specs.Machine.{outcome_at, ruling_at, step}
use Rattle.register.specs.Tabulated.{AddsWhatIsCounted}
use Rattle.register.specs.Additions.{DecidesAddition, AddsNoMore}
use Rattle.register.specs.Seen.{seen_by}
use Rattle.register.specs.Views.{IsViewOf, decided_on, ruling_of, outcome_of, IsToldAlike}
use Rattle.register.proofs.MachineLemmas.{step_on, ruling_on, step_stays, accepted_is_kept, told_alike, advances}
use Rattle.register.proofs.SeenLemmas.{ruling_on_seen, unseen_by, stands_alone}
use Rattle.register.proofs.DecisionLemmas.{IfOk-both, adds_counted, adds_no_more}
use Rattle.register.proofs.machine.decide.Goals as goal

pub returns-clause-decides : goal.returns-clause-decides
returns-clause-decides c =
    let view = c.args.view.now in
    let command = c.args.command.now in
    IfOk-weaker c.decided.result (λ d. ruling_of d ≡ decided_on view command) (λ d. (s : OfficeState) → IsViewOf s command view → outcome_of s d ≡ step s view.actor view.id.now command)
    (λ d same s shows. ap (outcome_at s) same ∙ step_on s view.actor view.id.now command (option_map receipt_entry view.receipt) (input_entries view.part) shows.receipt shows.part)
    c.decided.ensures.ruling

pub returns-clause-told_alike : goal.returns-clause-told_alike
returns-clause-told_alike c =
    let view = c.args.view.now in
    let command = c.args.command.now in
    IfOk-weaker c.decided.result (λ d. ruling_of d ≡ decided_on view command) (λ d. IsToldAlike command (ruling_of d))
    (λ d same. subst (IsToldAlike command) (sym same) (told_alike view.actor view.id.now command (option_map receipt_entry view.receipt) (input_entries view.part)))
    c.decided.ensures.ruling

pub returns-clause-kept_again : goal.returns-clause-kept_again
returns-clause-kept_again c s = accepted_is_kept s c.args.view.now.actor c.args.view.now.id.now c.args.command.now

pub returns-clause-stays_a_state : goal.returns-clause-stays_a_state
returns-clause-stays_a_state c s is = step_stays s c.args.view.now.actor c.args.view.now.id.now c.args.command.now is

pub returns-clause-advances : goal.returns-clause-advances
returns-clause-advances c s is = advances s c.args.view.now.actor c.args.view.now.id.now c.args.command.now is

pub returns-clause-tabulates : goal.returns-clause-tabulates
returns-clause-tabulates c =
    let view = c.args.view.now in
    let command = c.args.command.now in
    IfOk-both c.decided.result (λ d. ruling_of d ≡ decided_on view command) (λ d. DecidesAddition command view.part.count d)
    (λ d. (s : OfficeState) → IsState s → IsViewOf s command view → AddsWhatIsCounted s d)
    (λ d same adds s is shows. adds_counted s view command d is shows same adds)
    c.decided.ensures.ruling
    c.decided.ensures.adds

pub returns-clause-adds : goal.returns-clause-adds
returns-clause-adds c =
    let view = c.args.view.now in
    let command = c.args.command.now in
    IfOk-both c.decided.result (λ d. ruling_of d ≡ decided_on view command) (λ d. DecidesAddition command view.part.count d)
    (λ d. (s : OfficeState) → IsState s → IsViewOf s command view → AddsNoMore s command d)
    (λ d same adds s is shows. adds_no_more s view command d is shows same adds)
    c.decided.ensures.ruling
    c.decided.ensures.adds

pub returns-clause-blind : goal.returns-clause-blind
returns-clause-blind c other_actor =
    let view = c.args.view.now in
    let command = c.args.command.now in
    IfOk-weaker c.decided.result (λ d. ruling_of d ≡ decided_on view command)
    (λ d. (s : OfficeState) → IsViewOf s command view → ruling_of d ≡ ruling_at (seen_by view.actor s) view.actor view.id.now command)
    (λ d same s shows. same ∙ ruling_on s view.actor view.id.now command (option_map receipt_entry view.receipt) (input_entries view.part) shows.receipt shows.part
    ∙ sym (ruling_on_seen s view.actor view.id.now command other_actor))
    c.decided.ensures.ruling

pub returns-clause-unseen : goal.returns-clause-unseen
returns-clause-unseen c other_actor s other apart = unseen_by s c.args.view.now.actor c.args.view.now.id.now other_actor c.args.command.now other apart

pub returns-clause-seen_alone : goal.returns-clause-seen_alone
returns-clause-seen_alone c other_actor s is = stands_alone s c.args.view.now.actor c.args.view.now.id.now other_actor is c.args.command.now
