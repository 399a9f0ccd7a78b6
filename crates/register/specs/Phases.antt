-- The phases of a ward's election, by number.
use Rattle.std.specs.Prelude.{ℕ}
use Rattle.register.specs.declared.phase.Phase.{Phase}
use Rattle.register.specs.declared.phase.Phase.TheVariants.{Nominations, Keying, Sealed, Declared}

-- the number that represents a phase
abbrev pub phase_number : Phase → ℕ
phase_number Nominations = 1
phase_number Keying = 2
phase_number Sealed = 3
phase_number Declared = 4
