-- Proof that `run` meets its contract.
use Rattle.std.proofs.Common.{inl, inr, refl}
use Rattle.checker.specs.Reports.{memory_page, page_of}
use Rattle.checker.proofs.arguments.run.Goals as goal

pub returns : goal.returns
returns g c = elim c.print_report.ensures [
  | inl told ↦ record { page = page_of c.outcome_of.result; told = told; is = record { report = c.outcome_of.result; so = c.outcome_of.ensures; page_is = inl refl } }
  | inr told ↦ record { page = memory_page; told = told; is = record { report = c.outcome_of.result; so = c.outcome_of.ensures; page_is = inr refl } }
]
