-- Parts of the proof of `continues` that are done by hand.
use Rattle.std.proofs.Common.{◌≡◌, ◌∙◌, sym, inl, inr}
use Rattle.paper.specs.declared.standing.CandidateStatus.TheVariants.{Continuing, Absent}
use Rattle.paper.proofs.Standings.{column_or_not}
use Rattle.paper.proofs.standing.Standing.continues.Goals as goal

pub returns-in-Continuing-clause-known : goal.returns-in-Continuing-clause-known
returns-in-Continuing-clause-known c = λ yes.
    elim (column_or_not c.args.c) [
      | inl column ↦ column
      | inr other ↦ let absent : Continuing ≡ Absent = sym c.in-Continuing.is ∙ c.status.ensures.other other in cc
    ]
