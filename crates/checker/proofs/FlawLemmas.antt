-- The flaw of a line in a file.
use Rattle.std.proofs.Common.{ap}
use Rattle.std.specs.Prelude.{ℕ, Result, Ok, Err}
use Rattle.checker.specs.Reading.{on_line}
use Rattle.checker.specs.Values.{IsFlawOf}
use Rattle.checker.specs.declared.problem.BallotsFlaw.{BallotsFlaw}
use Rattle.checker.specs.declared.problem.Problem.{Problem}
use Rattle.checker.specs.declared.problem.Problem.TheVariants as problem

-- the flaw of a line is that of the file, whatever follows the line
pub flaw_on : {X Y : Type 0} (k : ℕ) (line : Result X BallotsFlaw) (f : X → Result Y (ℕ × BallotsFlaw)) (why : Problem)
    → IsFlawOf (on_line k line (λ more. Ok more)) why → IsFlawOf (on_line k line f) why
flaw_on k (Ok x) f (problem.Line number flaw) is = absurd (cc is)
flaw_on k (Ok x) f problem.NoContest is = absurd is
flaw_on k (Ok x) f (problem.LotNeeded stage among) is = absurd is
flaw_on k (Ok x) f (problem.LotNotAmong stage) is = absurd is
flaw_on k (Ok x) f (problem.LotNotNeeded stage) is = absurd is
flaw_on k (Ok x) f problem.Memory is = tt
flaw_on k (Err other) f (problem.Line number flaw) is = ap (λ (found : ℕ × BallotsFlaw). Err found) (cc is)
flaw_on k (Err other) f problem.NoContest is = is
flaw_on k (Err other) f (problem.LotNeeded stage among) is = is
flaw_on k (Err other) f (problem.LotNotAmong stage) is = is
flaw_on k (Err other) f (problem.LotNotNeeded stage) is = is
flaw_on k (Err other) f problem.Memory is = tt
