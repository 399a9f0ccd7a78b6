-- The value of a part that was understood, or its flaw.
use Rattle.std.specs.Prelude.{Result, Ok, Err}
use Rattle.checker.specs.declared.problem.BallotsFlaw.{BallotsFlaw}

-- a function applied to a part that was understood, which may itself find a flaw
abbrev pub and_then : {X Y : Type 0} → Result X BallotsFlaw → (X → Result Y BallotsFlaw) → Result Y BallotsFlaw
and_then (Ok x) f = f x
and_then (Err flaw) f = Err flaw

-- another value if a part was understood
abbrev pub outcome : {X Y : Type 0} → Result X BallotsFlaw → Y → Result Y BallotsFlaw
outcome (Ok x) y = Ok y
outcome (Err flaw) y = Err flaw

-- a function applied to the value of a part that was understood
abbrev pub told_as : {X Y : Type 0} → (X → Y) → Result X BallotsFlaw → Result Y BallotsFlaw
told_as f (Ok x) = Ok (f x)
told_as f (Err flaw) = Err flaw
