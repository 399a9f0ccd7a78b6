-- Proof that `words_of` meets its contract.
use Rattle.std.proofs.Common.{inr, refl}
use Rattle.std.proofs.lemmas.Str.{IsUtf8-from_is_utf8}
use Rattle.server.proofs.WordLemmas.{word_bad}
use Rattle.server.proofs.served_order.words_of.Goals as goal

pub returns-in-Err-clause-err : goal.returns-in-Err-clause-err
returns-in-Err-clause-err c =
    inr (refl, λ all. word_bad c.args.words.now c.loop-word.word-index _ c.loop-word-test.true (λ text. c.in-Err.ensures.cases.0 (IsUtf8-from_is_utf8 _ text)) all)
