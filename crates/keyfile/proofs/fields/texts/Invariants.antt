-- The invariant of the loop in `texts`.
use Rattle.std.proofs.Common.{◌≡◌, true, map, take}
use Rattle.std.specs.List.{list_all}
use Rattle.std.specs.Str.{is_utf8}
use Rattle.csv.specs.Records.{fields_of}
use Rattle.keyfile.proofs.fields.texts.Given as goal

abbrev pub invariant-loop-i : goal.invariant-loop-i
invariant-loop-i l = record {
  fields : map (λ t. t.now) l.texts.items ≡ take l.i (fields_of l.raw);
  all : list_all is_utf8 (take l.i (fields_of l.raw)) ≡ true;
}
