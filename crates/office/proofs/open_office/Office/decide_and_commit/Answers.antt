use Rattle.std.proofs.Common.{◌≡◌, false, true, refl, sym, ap, subst, ◌∙◌, string_bytes}
use Rattle.sqlite.specs.Held.{state}
use Rattle.sqlite.specs.State.{HasCleanDisk}
use Rattle.register.specs.StateConditions.{IsState}
use Rattle.register.specs.Machine.{Outcome, accepted, kept, refused, state_after, step}
use Rattle.register.specs.Effects.{with_change, change_entry}
use Rattle.register.specs.Tabulated.{AddsWhatIsCounted}
use Rattle.register.specs.declared.decision.Decision.TheVariants.{Accepted}
use Rattle.store.specs.StateTables.{IsAt}
use Rattle.office.specs.Values.{OfficeValue}
use Rattle.office.specs.declared.answers.Answer.TheVariants.{Done, Kept, Refused}
use Rattle.office.proofs.HandleLemmas.{handled_ok, handled_err}
use Rattle.office.proofs.open_office.Office.decide_and_commit.Goals as goal

pub returns-in-Ok-Kept-clause-handled : goal.returns-in-Ok-Kept-clause-handled
returns-in-Ok-Kept-clause-handled g c clean is_open s at =
    let here = subst (λ (o : OfficeValue _). IsAt s (state g.S.Store o.held)) (sym c.self.view_is) at in
    let opened : c.self.inside.closed ≡ false = ap (λ (o : OfficeValue _). o.closed) c.self.view_is ∙ is_open in
    let same : kept (string_bytes c.in-Ok-Kept.reply) ≡ step s c.args.actor c.args.id.now c.args.command.now = rw c.in-Ok-Kept.field-0-is at (c.in-Ok-Kept.ensures.decides clean s here) in
    handled_ok s (step s c.args.actor c.args.id.now c.args.command.now) (kept (string_bytes c.in-Ok-Kept.reply)) (Kept c.in-Ok-Kept.reply) c.self.inside.closed
    (state g.S.Store c.decision_of.new.store) same refl opened (c.decision_of.ensures.keeps clean s here)

pub returns-in-Ok-Refused-clause-handled : goal.returns-in-Ok-Refused-clause-handled
returns-in-Ok-Refused-clause-handled g c clean is_open s at =
    let here = subst (λ (o : OfficeValue _). IsAt s (state g.S.Store o.held)) (sym c.self.view_is) at in
    let opened : c.self.inside.closed ≡ false = ap (λ (o : OfficeValue _). o.closed) c.self.view_is ∙ is_open in
    let same : refused c.in-Ok-Refused.refusal ≡ step s c.args.actor c.args.id.now c.args.command.now = rw c.in-Ok-Refused.field-0-is at (c.in-Ok-Refused.ensures.decides clean s here) in
    handled_ok s (step s c.args.actor c.args.id.now c.args.command.now) (refused c.in-Ok-Refused.refusal) (Refused c.in-Ok-Refused.refusal) c.self.inside.closed
    (state g.S.Store c.decision_of.new.store) same refl opened (c.decision_of.ensures.keeps clean s here)

pub returns-in-Ok-Accepted-clause-handled : goal.returns-in-Ok-Accepted-clause-handled
returns-in-Ok-Accepted-clause-handled g c clean is_open s at =
    let here = subst (λ (o : OfficeValue _). IsAt s (state g.S.Store o.held)) (sym c.self.view_is) at in
    let before : HasCleanDisk (state g.S.Store c.decision_of.new.store) = c.commit.ensures.clean clean in
    let same : accepted (with_change (change_entry c.in-Ok-Accepted.change) s) (string_bytes c.in-Ok-Accepted.reply) ≡ step s c.args.actor c.args.id.now c.args.command.now
    = rw c.in-Ok-Accepted.field-0-is at (c.in-Ok-Accepted.ensures.decides before s here) in
    let was_open = c.in-Ok-Accepted.ensures.opens before in
    let kept_at = c.decision_of.ensures.keeps before s here in
    let is : IsState (with_change (change_entry c.in-Ok-Accepted.change) s) = subst (λ (o : Outcome). IsState (state_after s o)) (sym same) (c.in-Ok-Accepted.ensures.stays s here.is) in
    let tabulated : AddsWhatIsCounted s (Accepted c.in-Ok-Accepted.change c.in-Ok-Accepted.reply) = rw c.in-Ok-Accepted.field-0-is at (c.in-Ok-Accepted.ensures.tabulates before s here) in
    handled_err s (step s c.args.actor c.args.id.now c.args.command.now) (accepted (with_change (change_entry c.in-Ok-Accepted.change) s) (string_bytes c.in-Ok-Accepted.reply))
    c.in-Err-commit.fault true (state g.S.Store c.commit.new.self) same refl c.in-Err-commit.ensures.cause (λ _. refl) (c.commit.ensures.leaves clean was_open s kept_at tabulated is)

pub returns-in-Ok-clause-handled : goal.returns-in-Ok-clause-handled
returns-in-Ok-clause-handled g c clean is_open s at =
    let here = subst (λ (o : OfficeValue _). IsAt s (state g.S.Store o.held)) (sym c.self.view_is) at in
    let opened : c.self.inside.closed ≡ false = ap (λ (o : OfficeValue _). o.closed) c.self.view_is ∙ is_open in
    let before : HasCleanDisk (state g.S.Store c.decision_of.new.store) = c.commit.ensures.clean clean in
    let same : accepted (with_change (change_entry c.in-Ok-Accepted.change) s) (string_bytes c.in-Ok-Accepted.reply) ≡ step s c.args.actor c.args.id.now c.args.command.now
    = rw c.in-Ok-Accepted.field-0-is at (c.in-Ok-Accepted.ensures.decides before s here) in
    let was_open = c.in-Ok-Accepted.ensures.opens before in
    let kept_at = c.decision_of.ensures.keeps before s here in
    let is : IsState (with_change (change_entry c.in-Ok-Accepted.change) s) = subst (λ (o : Outcome). IsState (state_after s o)) (sym same) (c.in-Ok-Accepted.ensures.stays s here.is) in
    let tabulated : AddsWhatIsCounted s (Accepted c.in-Ok-Accepted.change c.in-Ok-Accepted.reply) = rw c.in-Ok-Accepted.field-0-is at (c.in-Ok-Accepted.ensures.tabulates before s here) in
    handled_ok s (step s c.args.actor c.args.id.now c.args.command.now) (accepted (with_change (change_entry c.in-Ok-Accepted.change) s) (string_bytes c.in-Ok-Accepted.reply))
    (Done c.in-Ok-Accepted.reply) c.self.inside.closed (state g.S.Store c.commit.new.self) same refl opened (c.in-Ok.ensures.done clean was_open s kept_at tabulated is)

pub commit-requires-clause-opened : goal.commit-requires-clause-opened
commit-requires-clause-opened g c clean = c.in-Ok-Accepted.ensures.opens clean

pub commit-requires-clause-leads : goal.commit-requires-clause-leads
commit-requires-clause-leads g c clean is_open s at = rw c.in-Ok-Accepted.field-0-is at (c.in-Ok-Accepted.ensures.leads clean is_open s at)
