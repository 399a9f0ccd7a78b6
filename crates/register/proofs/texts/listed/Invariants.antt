-- The invariant of the loop in `listed`.
use Rattle.std.proofs.Common.{◌≡◌, ◌++◌, drop, string_bytes}
use Rattle.std.specs.List.{flat_map}
use Rattle.register.specs.Texts.{behind, listed}
use Rattle.register.proofs.texts.listed.Given as goal

abbrev pub invariant-loop-number : goal.invariant-loop-number
invariant-loop-number l = string_bytes l.text ++ flat_map behind (drop l.number-index l.others) ≡ listed l.numbers
