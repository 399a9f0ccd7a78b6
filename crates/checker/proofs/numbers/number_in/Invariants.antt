-- The invariant of the loop in `number_in`: the remaining digits, appended to the number so far, make up the word's number.
use Rattle.std.proofs.Common.{◌≡◌, ◌≤◌, drop}
use Rattle.checker.specs.Numbers.{number_from}
use Rattle.checker.proofs.numbers.number_in.Given as goal

abbrev pub invariant-loop-byte : goal.invariant-loop-byte
invariant-loop-byte l = record {
  same : number_from l.most l.number (drop l.byte-index l.word) ≡ number_from l.most 0 l.word;
  few : l.number ≤ l.most;
}
