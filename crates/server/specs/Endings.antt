-- The outcome of writing a response to memory.
use Rattle.std.specs.Prelude.{List, [], Option, Some, ℕ}
use Rattle.wire.specs.declared.serving.Served.{Served}

-- a response was written, from its first byte on, with the given outcome
abbrev pub EndsIn : List ℕ → (Option (List ℕ) → Option (List ℕ) → Served → Type 0) → Type 0
EndsIn answer IsEnd = (served : Served) × IsEnd (Some []) (Some answer) served
