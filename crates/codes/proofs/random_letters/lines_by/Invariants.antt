-- The invariant of the loop in `lines_by`: the lines read so far, followed by those for the remaining clerks and letters, are the lines for all of them.
use Rattle.std.proofs.Common.{◌≡◌, ◌+◌, ◌-◌, ◌*◌, ◌<◌, ◌++◌, EachIndex, length, slice_index, string_bytes}
use Rattle.codes.specs.Making.{numbers, text_of}
use Rattle.codes.proofs.random_letters.lines_by.Given as goal

abbrev pub invariant-loop-index : goal.invariant-loop-index
invariant-loop-index l = record {
  enough : length l.rest ≡ 12 * (l.count - l.index);
  ascii : EachIndex l.rest (λ k. slice_index l.rest k < 128);
  lines : string_bytes l.text ++ text_of (numbers (l.clerks.first + l.index) (l.count - l.index)) l.rest ≡ text_of (numbers l.clerks.first l.count) l.letters;
}
