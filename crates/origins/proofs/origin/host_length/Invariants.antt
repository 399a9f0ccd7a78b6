-- The invariant of the loop in `host_length`.
use Rattle.std.proofs.Common.{◌≡◌, ◌+◌, drop}
use Rattle.std.specs.List.{prefix_len}
use Rattle.origins.specs.Origins.{is_host_byte}
use Rattle.origins.proofs.origin.host_length.Given as goal

abbrev pub invariant-loop-byte : goal.invariant-loop-byte
invariant-loop-byte l = record {
  at : l.length ≡ l.byte-index;
  is : l.length + prefix_len is_host_byte (drop l.byte-index l.text) ≡ prefix_len is_host_byte l.text;
}
