-- Proof that `can_be_printed` meets its contract.
use Rattle.std.proofs.Common.{rules, arith}
use Rattle.sheet.specs.Wards.{HasFewPapers}
use Rattle.sheet.proofs.Candidates.{CanBePrinted-made, CanBePrinted-ascends}
use Rattle.sheet.proofs.fitness.can_be_printed.Goals as goal

pub returns : goal.returns
returns c =
    let few : HasFewPapers c.args.ward.now.poll = search rules in (
      λ told. CanBePrinted-made c.args.ward.now (omega arith) (omega arith) few (c.ascend_above.ensures.0 told),
      λ ward. c.ascend_above.ensures.1 (CanBePrinted-ascends c.args.ward.now ward),
    )
