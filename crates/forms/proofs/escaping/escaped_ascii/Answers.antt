-- Proof that `escaped_ascii` meets its contract.
use Rattle.std.proofs.Common.{sym, subst, arith}
use Rattle.std.proofs.lemmas.Grind.{common_steps}
use Rattle.forms.specs.Pages.{HasNoMarkup}
use Rattle.forms.proofs.Markup.{escaped_all}
use Rattle.forms.proofs.escaping.escaped_ascii.Goals as goal

pub returns-clause-is : goal.returns-clause-is
returns-clause-is c = grind (arith, common_steps)

pub returns-clause-plain : goal.returns-clause-plain
returns-clause-plain c = subst HasNoMarkup (sym (returns-clause-is c)) (escaped_all c.args.text.now)
