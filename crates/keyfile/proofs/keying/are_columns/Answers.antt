-- Proof that `are_columns` meets its contract.
use Rattle.std.proofs.Common.{◌∙◌}
use Rattle.keyfile.proofs.MapLemmas.{are_columns-short, are_columns-end}
use Rattle.keyfile.proofs.keying.are_columns.Goals as goal

pub returns-in_default : goal.returns-in_default
returns-in_default c = are_columns-short c.loop-column.rest.now c.args.columns.now c.loop-column.column-index c.in_default.len_below c.loop-column-test.true ∙ c.loop-column.invariant

pub returns : goal.returns
returns c = c.is_empty.ensures ∙ are_columns-end c.loop-column.rest.now c.args.columns.now c.loop-column.column-index c.loop-column-test.false ∙ c.loop-column.invariant
