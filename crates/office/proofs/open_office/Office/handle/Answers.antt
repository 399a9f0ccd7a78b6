use Rattle.std.proofs.Common.{◌≡◌, refl, ◌∙◌}
use Rattle.std.proofs.lemmas.Result.{IfOk-weaker}
use Rattle.sqlite.specs.Held.{state}
use Rattle.register.specs.Machine.{step}
use Rattle.register.specs.Seen.{seen_by}
use Rattle.office.specs.Answers.{told, told_of}
use Rattle.office.proofs.HandleLemmas.{handled_again, answer_told}
use Rattle.office.proofs.ClerkLemmas.{told_seen, leaves_unseen}
use Rattle.office.proofs.open_office.Office.handle.Goals as goal

pub returns-clause-sent_again : goal.returns-clause-sent_again
returns-clause-sent_again g c clean is_open s accepted at =
    handled_again s c.args.actor c.args.id.now c.args.command.now (step s c.args.actor c.args.id.now c.args.command.now) refl accepted c.decide_and_commit.result c.decide_and_commit.new.self.closed
    (state g.S.Store c.decide_and_commit.new.self.held)
    c.decide_and_commit.ensures.again (c.decide_and_commit.ensures.handled clean is_open _ at)

pub returns-clause-blind : goal.returns-clause-blind
returns-clause-blind g c clean is_open s at clerk =
    let actor = c.args.actor in
    let id = c.args.id.now in
    let command = c.args.command.now in
    IfOk-weaker c.decide_and_commit.result (λ answer. told answer ≡ told_of (step s actor id command)) (λ answer. told answer ≡ told_of (step (seen_by actor s) actor id command))
    (λ answer same. same ∙ told_seen s actor id command clerk)
    (answer_told s (step s actor id command) c.decide_and_commit.result c.decide_and_commit.new.self.closed
    (state g.S.Store c.decide_and_commit.new.self.held) (c.decide_and_commit.ensures.handled clean is_open s at))

pub returns-clause-unseen : goal.returns-clause-unseen
returns-clause-unseen g c clean is_open s at clerk other apart =
    leaves_unseen s c.args.actor c.args.id.now c.args.command.now other clerk apart c.decide_and_commit.result c.decide_and_commit.new.self.closed (state g.S.Store c.decide_and_commit.new.self.held)
    (c.decide_and_commit.ensures.handled clean is_open s at)
