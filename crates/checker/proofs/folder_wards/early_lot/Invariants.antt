-- The invariant of the loop in `early_lot`: the lots so far can have been drawn.
use Rattle.std.proofs.Common.{◌≡◌, drop}
use Rattle.checker.specs.Folders.{early_lot}
use Rattle.checker.proofs.folder_wards.early_lot.Given as goal

abbrev pub invariant-loop-lot : goal.invariant-loop-lot
invariant-loop-lot l = early_lot l.stages (drop l.lot-index l.lots) ≡ early_lot l.stages l.lots
