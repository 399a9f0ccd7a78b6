use Rattle.std.proofs.Common.{◌≡◌, false, map, drop}
use Rattle.clap.specs.Words.{app_of}
use Rattle.clap.specs.declared.builder.command.Command.TheViews.{out-Command as fields_of}
use Rattle.desk.specs.Orders.{words_of, word_of}
use Rattle.desk.specs.Words.{order_words, with_words}
use Rattle.desk.proofs.words.order_command.Given as goal

abbrev pub invariant-loop-word : goal.invariant-loop-word
invariant-loop-word l = record {
  app : with_words (app_of l.command) (map word_of (drop l.word-index l.entry.words.now)) ≡ order_words (words_of l.entry);
  local : (fields_of l.command).has_globals ≡ false;
}
