-- Parts of the proof of `read_field` that are done by hand.
use Rattle.std.proofs.Common.{sym, ◌∙◌}
use Rattle.paper.proofs.Fields.{mark_in-long}
use Rattle.paper.proofs.marks.read_field.Goals as goal

pub returns-then-field-gt2-clause-is : goal.returns-then-field-gt2-clause-is
returns-then-field-gt2-clause-is c = mark_in-long c.args.field.now c.if-field-eq48.false (sym c.all_digits.ensures ∙ c.if-not-all_digits.false) c.if-field-gt2.true
