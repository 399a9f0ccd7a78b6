-- The invariant of the loop in `after_words`: no line so far begins with the words.
use Rattle.std.proofs.Common.{◌≡◌, drop, length}
use Rattle.std.specs.Str.Lines.{lines}
use Rattle.count_office.specs.Remarks.{after_words, after_words_in}
use Rattle.count_office.proofs.remark_words.after_words.Given as goal

abbrev pub invariant-loop-line : goal.invariant-loop-line
invariant-loop-line l = after_words l.words l.text ≡ after_words_in l.words (drop (length l.yielded) (lines l.text))
