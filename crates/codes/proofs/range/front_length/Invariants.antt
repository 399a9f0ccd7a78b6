-- The invariant of the loop in `front_length`.
use Rattle.std.proofs.Common.{◌≡◌, ◌+◌, drop}
use Rattle.std.specs.List.{prefix_len}
use Rattle.codes.specs.Files.{is_no_hyphen}
use Rattle.codes.proofs.range.front_length.Given as goal

abbrev pub invariant-loop-byte : goal.invariant-loop-byte
invariant-loop-byte l = record {
  at : l.length ≡ l.byte-index;
  is : l.length + prefix_len is_no_hyphen (drop l.byte-index l.text) ≡ prefix_len is_no_hyphen l.text;
}
