-- Proof that `office_command` meets its contract: the orders of both tables are all.
use Rattle.std.proofs.Common.{◌∙◌, ap, map}
use Rattle.clap.specs.Words.{App, app_of}
use Rattle.desk.specs.Orders.{words_of}
use Rattle.desk.specs.Words.{with_orders}
use Rattle.desk.proofs.OrderTables.{has_all}
use Rattle.desk.proofs.words.office_command.Goals as goal

pub returns-clause-app : goal.returns-clause-app
returns-clause-app c =
    let front = map words_of c.entries_to_seal.result.now in
    let begun = c.in_ok-named.ensures.app ∙ c.start_command.ensures.app in
    has_all c.with_orders-2.result (app_of c.in_ok-command.command) 13 front (map words_of c.entries_from_seal.result.now) c.entries_to_seal.ensures c.entries_from_seal.ensures
    (c.in_ok-command.ensures.app ∙ ap (λ (a : App). with_orders a front) begun) c.with_orders-2.ensures.app
