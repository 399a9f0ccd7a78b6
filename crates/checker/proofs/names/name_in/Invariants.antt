-- The invariant of the loop in `name_in`: the remaining bytes, after those read so far, determine the line's name.
use Rattle.std.proofs.Common.{◌≡◌, [], drop}
use Rattle.std.specs.Prelude.{fold}
use Rattle.checker.specs.Names.{with_byte}
use Rattle.checker.specs.Values.{quoting_of}
use Rattle.checker.specs.declared.names.Within.TheVariants.{Before}
use Rattle.checker.proofs.names.name_in.Given as goal

abbrev pub invariant-loop-byte : goal.invariant-loop-byte
invariant-loop-byte l = fold with_byte (quoting_of l.quoted) (drop l.byte-index l.line) ≡ fold with_byte (record { name = []; comment = []; within = Before }) l.line
