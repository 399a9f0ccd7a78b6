use Rattle.std.proofs.Common.{is_some, sym, ap, ◌∙◌}
use Rattle.register.specs.Offices.{batch_entry}
use Rattle.rowcheck.proofs.FindingLemmas.{some_found}
use Rattle.rowcheck.proofs.finding.has_batch.Goals as goal

pub returns : goal.returns
returns c = c.is_some.ensures ∙ (sym (some_found batch_entry c.batch_at.result) ∙ ap is_some c.batch_at.ensures)
