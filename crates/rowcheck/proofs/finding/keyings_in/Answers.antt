use Rattle.std.proofs.Common.{ap, ◌∙◌}
use Rattle.register.specs.Offices.{batch_entry}
use Rattle.register.specs.Agreement.{clerks}
use Rattle.rowcheck.specs.States.{state_of}
use Rattle.rowcheck.proofs.finding.keyings_in.Goals as goal

pub returns : goal.returns
returns c =
    let s = state_of c.args.rows.now in
    let b = batch_entry c.args.batch.now in
    rw (c.keying_of.ensures, c.keying_of-2.ensures, c.keying_by.ensures)
    (c.keyings_are_by_clerks.ensures s b c.args.round c.clerks_of-clerks.result (c.clerks_of-clerks.ensures ∙ ap (clerks b) c.third_at.ensures))
