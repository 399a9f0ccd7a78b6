-- The invariant of the loop in `write_lots`.
use Rattle.std.proofs.Common.{◌≡◌, ◌++◌, drop, map}
use Rattle.json.specs.Tree.{items_tokens}
use Rattle.sheet.specs.Results.{items_of, lot_result}
use Rattle.sheet.proofs.results.write_lots.Given as goal

abbrev pub invariant-loop-lot : goal.invariant-loop-lot
invariant-loop-lot l =
    (l.out.before ≡ l.initial.out.before)
    × (l.out.tokens ++ items_tokens (items_of (map lot_result (drop l.lot-index l.lots))) ≡ l.initial.out.tokens ++ items_tokens (items_of (map lot_result l.lots)))
