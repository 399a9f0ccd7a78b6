-- The invariant of the loop in `blocks`: the text so far, followed by the remaining blocks, is the text of all blocks.
use Rattle.std.proofs.Common.{◌≡◌, ◌++◌, drop, string_bytes}
use Rattle.std.specs.List.{flat_map}
use Rattle.forms.proofs.blocks.blocks.Given as goal

abbrev pub invariant-loop-one : goal.invariant-loop-one
invariant-loop-one g l = string_bytes l.text ++ flat_map g.T.Block.text (drop l.one-index l.all) ≡ flat_map g.T.Block.text l.all
