-- The invariant of the loop in `front_length`.
use Rattle.std.proofs.Common.{◌≡◌, ◌+◌, drop}
use Rattle.std.specs.List.{prefix_len}
use Rattle.codes.specs.Files.{is_no_blank}
use Rattle.codes.proofs.reading.front_length.Given as goal

abbrev pub invariant-loop-byte : goal.invariant-loop-byte
invariant-loop-byte l = record {
  at : l.length ≡ l.byte-index;
  is : l.length + prefix_len is_no_blank (drop l.byte-index l.line) ≡ prefix_len is_no_blank l.line;
}
