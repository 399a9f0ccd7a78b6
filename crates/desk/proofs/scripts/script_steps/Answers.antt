-- Proof that `script_steps` meets its contract.
use Rattle.std.proofs.Common.{◌∙◌, sym}
use Rattle.desk.specs.Lexing.{typed_line_entry}
use Rattle.desk.proofs.ScriptLemmas.{fault_behind, pushed, turns_so}
use Rattle.desk.proofs.scripts.script_steps.Goals as goal

pub returns-in-Err-clause-err : goal.returns-in-Err-clause-err
returns-in-Err-clause-err c =
    fault_behind typed_line_entry c.args.lines.now c.loop-line.line-index c.line-item.result c.loop-line.turns.items c.in-Err.fault c.loop-line-test.true
    c.line-item.is c.loop-line.invariant c.in-Err.ensures.err

pub loop-line-preserved : goal.loop-line-preserved
loop-line-preserved c =
    turns_so typed_line_entry c.args.lines.now c.loop-line.line-index c.line-item.result c.loop-line.turns.items c.push.new.self.items c.in-Ok.turn
    c.loop-line-test.true c.line-item.is c.loop-line.invariant c.in-Ok.ensures.ok
    (pushed c.push.result c.push.new.self.items _ c.loop-line.turns.items (sym c.is_err.ensures.value ∙ c.if-is_err.false) c.push.ensures.items)
