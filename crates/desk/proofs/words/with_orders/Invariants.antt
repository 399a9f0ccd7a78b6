use Rattle.std.proofs.Common.{◌≡◌, false, map, drop}
use Rattle.clap.specs.Words.{app_of}
use Rattle.clap.specs.declared.builder.command.Command.TheViews.{out-Command as fields_of}
use Rattle.desk.specs.Orders.{words_of}
use Rattle.desk.specs.Words.{with_orders}
use Rattle.desk.proofs.words.with_orders.Given as goal

abbrev pub invariant-loop-entry : goal.invariant-loop-entry
invariant-loop-entry l = record {
  app : with_orders (app_of l.command) (map words_of (drop l.entry-index l.entries)) ≡ with_orders (app_of l.initial.command) (map words_of l.entries);
  local : (fields_of l.initial.command).has_globals ≡ false → (fields_of l.command).has_globals ≡ false;
}
