-- Proof that `destination_of` meets its contract if there is a folder.
use Rattle.server.proofs.DestinationLemmas.{in_folder, in_no_folder}
use Rattle.server.proofs.order_response.destination_of.Goals as goal

pub returns-in-Ok : goal.returns-in-Ok
returns-in-Ok c = in_folder c.args.folder c.in-Some.folder c.in-Ok.folder.now c.args.path.now c.in-Some.is c.in-Ok.ensures.cases.0 c.in-Ok.ensures.cases.1

pub returns-in-Err : goal.returns-in-Err
returns-in-Err c = in_no_folder c.args.folder c.in-Some.folder c.args.path.now c.in-Some.is c.in-Err.ensures.cases.0
