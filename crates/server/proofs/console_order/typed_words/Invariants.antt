-- The loop invariant of `typed_words`: the words collected so far are DB and those that were read.
use Rattle.std.proofs.Common.{◌≡◌, map, string_bytes, take}
use Rattle.server.specs.ConsoleOrders.{typed_words}
use Rattle.server.proofs.console_order.typed_words.Given as goal

abbrev pub invariant-loop-word : goal.invariant-loop-word
invariant-loop-word l = map (λ text. text.now) l.texts.items ≡ typed_words (map string_bytes (take l.word-index l.words))
