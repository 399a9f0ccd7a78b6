-- Proof that `record_in` meets its contract.
use Rattle.std.proofs.Common.{◌∙◌, ap, map}
use Rattle.desk.specs.Lexing.{line_entry, typed_line_entry}
use Rattle.desk.specs.Scripts.{lines_of, numbered_from, whole_lines}
use Rattle.desk.proofs.JournalLemmas.{flaw_of_text, turns_of_text}
use Rattle.desk.proofs.SecondLemmas.{given_script, ungiven_script}
use Rattle.desk.proofs.second_record.record_in.Goals as goal

-- the lines are the whole lines of the text, their steps are these, and they send the requests
pub returns-in-Ok-clause-some : goal.returns-in-Ok-clause-some
returns-in-Ok-clause-some c =
    let text = whole_lines c.args.text.now in
    let read = map line_entry c.in_ok-lines.lines.items in
    let said = map typed_line_entry c.in_ok-said.said.items in
    let turns = c.in-Ok.turns.items in
    given_script (λ requests. requests.items) text turns
    (turns_of_text text read said turns (c.in_ok-lines.ensures ∙ ap (λ t. numbered_from 1 (lines_of t)) c.whole_lines.ensures)
    (rw c.deref.ensures.value at c.in_ok-said.ensures) (rw c.deref-2.ensures.value at c.in-Ok.ensures.ok))
    c.requests_given.result c.requests_given.ensures.some

-- one of the steps does something else
pub returns-in-Ok-clause-none : goal.returns-in-Ok-clause-none
returns-in-Ok-clause-none c =
    let text = whole_lines c.args.text.now in
    let read = map line_entry c.in_ok-lines.lines.items in
    let said = map typed_line_entry c.in_ok-said.said.items in
    let turns = c.in-Ok.turns.items in
    ungiven_script text turns
    (turns_of_text text read said turns (c.in_ok-lines.ensures ∙ ap (λ t. numbered_from 1 (lines_of t)) c.whole_lines.ensures)
    (rw c.deref.ensures.value at c.in_ok-said.ensures) (rw c.deref-2.ensures.value at c.in-Ok.ensures.ok))
    c.requests_given.result c.requests_given.ensures.none

-- a line has a flaw
pub returns-clause-none : goal.returns-clause-none
returns-clause-none c =
    let text = whole_lines c.args.text.now in
    let read = map line_entry c.in_ok-lines.lines.items in
    let said = map typed_line_entry c.in_ok-said.said.items in
    let fault = c.in-Err-ScriptLine in
    rw fault.field-0-is (flaw_of_text text read said fault.number fault.flaw (c.in_ok-lines.ensures ∙ ap (λ t. numbered_from 1 (lines_of t)) c.whole_lines.ensures)
    (rw c.deref.ensures.value at c.in_ok-said.ensures) (rw c.deref-2.ensures.value at (rw fault.field-0-is at fault.ensures.err)))
