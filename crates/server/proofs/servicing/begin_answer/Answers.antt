-- Proof that `begin_answer` meets its contract.
use Rattle.std.proofs.Common.{◌∙◌}
use Rattle.server.proofs.servicing.begin_answer.Goals as goal

pub returns-in-Waits-clause-is : goal.returns-in-Waits-clause-is
returns-in-Waits-clause-is g c = λ start. c.send_more.ensures.is start c.requires

pub returns-in-Served-clause-is : goal.returns-in-Served-clause-is
returns-in-Served-clause-is g c = λ start. c.send_more.ensures.is start c.requires

pub returns-in-Leaves-clause-is : goal.returns-in-Leaves-clause-is
returns-in-Leaves-clause-is g c = λ start. c.send_more.ensures.is start c.requires

pub returns-in-Leaves-clause-leaves : goal.returns-in-Leaves-clause-leaves
returns-in-Leaves-clause-leaves g c = λ why is. c.send_more.ensures.leaves why (c.in-Leaves.is ∙ is)
