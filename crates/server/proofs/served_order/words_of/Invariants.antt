-- The loop invariant of `words_of`: the words collected so far are the ones that were read.
use Rattle.std.proofs.Common.{◌≡◌, map, take}
use Rattle.server.proofs.served_order.words_of.Given as goal

abbrev pub invariant-loop-word : goal.invariant-loop-word
invariant-loop-word l = map (λ text. text.now) l.texts.items ≡ map (λ p. p.name.now) (take l.word-index l.words)
