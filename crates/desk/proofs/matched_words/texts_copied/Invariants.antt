-- The invariant of the loop in `texts_copied`: the texts so far, followed by the remaining ones, are all the texts.
use Rattle.std.proofs.Common.{◌≡◌, ◌++◌, drop, map, string_bytes}
use Rattle.desk.proofs.matched_words.texts_copied.Given as goal

abbrev pub invariant-loop-text : goal.invariant-loop-text
invariant-loop-text l = map string_bytes l.texts.items ++ map (λ t. t.now) (drop l.text-index l.all) ≡ map (λ t. t.now) l.all
