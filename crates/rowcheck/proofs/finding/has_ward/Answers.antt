use Rattle.std.proofs.Common.{is_some, sym, ap, ◌∙◌}
use Rattle.register.specs.Offices.{ward_entry}
use Rattle.rowcheck.proofs.FindingLemmas.{some_found}
use Rattle.rowcheck.proofs.finding.has_ward.Goals as goal

pub returns : goal.returns
returns c = c.is_some.ensures ∙ (sym (some_found ward_entry c.ward_at.result) ∙ ap is_some c.ward_at.ensures)
