-- Proof that `line_before` meets its contract.
use Rattle.std.proofs.Common.{◌∙◌, sym}
use Rattle.desk.proofs.PageLemmas.{empty_fronted, text_fronted}
use Rattle.desk.proofs.lines.line_before.Goals as goal

pub returns-then-is_empty : goal.returns-then-is_empty
returns-then-is_empty c = empty_fronted c.args.line c.args.text.now (sym c.is_empty.ensures ∙ c.if-is_empty.true)

pub returns-else-is_empty : goal.returns-else-is_empty
returns-else-is_empty c = text_fronted c.args.line c.args.text.now (sym c.is_empty.ensures ∙ c.if-is_empty.false)
