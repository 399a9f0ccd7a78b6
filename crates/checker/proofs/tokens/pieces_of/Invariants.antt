-- The invariant of the loop in `pieces_of`: the pieces so far, followed by those of the current piece and the remaining bytes, are the pieces of the text.
use Rattle.std.proofs.Common.{◌≡◌, ◌≤◌, ◌-◌, ◌++◌, [], map, take, drop}
use Rattle.checker.specs.Tokens.{pieces_of}
use Rattle.checker.proofs.tokens.pieces_of.Given as goal

abbrev pub invariant-loop-i : goal.invariant-loop-i
invariant-loop-i l = record {
  within : l.start ≤ l.i;
  same : map (λ p. p.now) l.pieces.items ++ pieces_of l.separator (take (l.i - l.start) (drop l.start l.text)) (drop l.i l.text) ≡ pieces_of l.separator [] l.text;
}
