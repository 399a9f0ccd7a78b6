-- The invariant of the loop in `fields_in`: the remaining bytes, after those read so far, determine the line's fields.
use Rattle.std.proofs.Common.{◌≡◌, [], drop}
use Rattle.std.specs.Prelude.{fold}
use Rattle.checker.specs.FieldViews.{fields_told}
use Rattle.checker.specs.Fields.{begun, with_byte, with_field}
use Rattle.checker.proofs.fields.fields_in.Given as goal

abbrev pub invariant-loop-byte : goal.invariant-loop-byte
invariant-loop-byte l = fold (with_byte with_field) (fields_told l.fields) (drop l.byte-index l.line) ≡ fold (with_byte with_field) (begun []) l.line
