-- Proof that `body_to_come` meets its contract.
use Rattle.std.proofs.Common.{arith, subst}
use Rattle.wire.specs.Parsing.{IsParsed}
use Rattle.wire.specs.declared.parsed.Parsed.{Parsed}
use Rattle.wire.proofs.ParsedLemmas.{body_fits}
use Rattle.wire.proofs.parsed.Parsed.body_to_come.Goals as goal

pub returns-in-Ok : goal.returns-in-Ok
returns-in-Ok c = λ its got parsed.
    let fits = body_fits its got c.in-Head.head c.in-Ok.size (subst (λ (p : Parsed). IsParsed its got p) c.in-Head.is parsed) c.in-Ok.is in
    omega (arith, fits, c.saturating_sub-in-Ok.ensures, c.saturating_sub.ensures)
