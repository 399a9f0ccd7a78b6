-- Parts of the proof of `write` that are done by hand.
use Rattle.std.proofs.Common.{subst}
use Rattle.votes.specs.Text.{TellsUnits}
use Rattle.votes.proofs.Texts.{votes_text-TellsUnits}
use Rattle.votes.proofs.units.Votes.write.Goals as goal

pub returns-in_err-put_all-clause-exact : goal.returns-in_err-put_all-clause-exact
returns-in_err-put_all-clause-exact g c = subst TellsUnits c.units-units.ensures (votes_text-TellsUnits c.units-units.result c.units-units.type_inv)

pub returns-in_err-put_all-2-clause-exact : goal.returns-in_err-put_all-2-clause-exact
returns-in_err-put_all-2-clause-exact g c = subst TellsUnits c.units-units.ensures (votes_text-TellsUnits c.units-units.result c.units-units.type_inv)

pub returns-clause-exact : goal.returns-clause-exact
returns-clause-exact g c = subst TellsUnits c.units-units.ensures (votes_text-TellsUnits c.units-units.result c.units-units.type_inv)
