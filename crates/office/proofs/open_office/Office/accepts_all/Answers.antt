-- Proof that `accepts_all` meets its contract.
use Rattle.std.proofs.Common.{◌∙◌, sym}
use Rattle.office.proofs.PlayLemmas.{answers_done}
use Rattle.office.proofs.open_office.Office.accepts_all.Goals as goal

-- no fault: all requests were answered, and the answers are those of the machine
pub returns-clause-all : goal.returns-clause-all
returns-clause-all g c clean is_open s at =
    let all = rw c.in-None.is at (c.run-run.ensures.all_answered clean is_open s at) in
    let answers = c.run-run.ensures.answers clean is_open s at in
    (rw (c.are_done.ensures, c.deref.ensures.value) (answers_done s c.args.requests.now c.run-run.result.answers.items (sym c.run-run.result.answers.ok.0 ∙ all.0) answers.same), all.1)
