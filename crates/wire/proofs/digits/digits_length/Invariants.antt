-- The loop invariant of `digits_length`.
use Rattle.std.proofs.Common.{◌≡◌, ◌+◌, drop}
use Rattle.std.specs.Char.{is_ascii_digit}
use Rattle.std.specs.List.{prefix_len}
use Rattle.wire.proofs.digits.digits_length.Given as goal

abbrev pub invariant-loop-byte : goal.invariant-loop-byte
invariant-loop-byte l = record {
  at : l.length ≡ l.byte-index;
  is : l.length + prefix_len is_ascii_digit (drop l.byte-index l.text) ≡ prefix_len is_ascii_digit l.text;
}
