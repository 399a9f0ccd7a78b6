-- The invariant of the loop in `is_of`.
use Rattle.std.proofs.Common.{◌≡◌, drop, map}
use Rattle.codes.specs.Codes.{holder, is_of}
use Rattle.codes.proofs.holders.is_of.Given as goal

abbrev pub invariant-loop-one : goal.invariant-loop-one
invariant-loop-one l = is_of (map holder (drop l.one-index l.all)) l.clerk l.text ≡ is_of (map holder l.all) l.clerk l.text
