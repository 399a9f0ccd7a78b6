-- Proof that `requests_in` meets its contract.
use Rattle.std.proofs.Common.{◌∙◌, ap, map}
use Rattle.desk.specs.Lexing.{line_entry, typed_line_entry}
use Rattle.desk.specs.Scripts.{lines_of, numbered_from}
use Rattle.desk.proofs.JournalLemmas.{flaw_of_text, script_found, turns_of_text}
use Rattle.desk.proofs.NoScriptLemmas.{flawed_script, none_found}
use Rattle.desk.proofs.journal_check.requests_in.Goals as goal

-- the lines are those of the text, their steps are these, and they send the requests
pub returns-in-Ok-clause-some : goal.returns-in-Ok-clause-some
returns-in-Ok-clause-some c =
    let text = c.args.text.now in
    let read = map line_entry c.in_ok-lines.lines.items in
    let said = map typed_line_entry c.in_ok-said.said.items in
    let turns = c.in-Ok.turns.items in
    script_found (λ requests. requests.items) text turns
    (turns_of_text text read said turns (c.in_ok-lines.ensures ∙ ap (λ t. numbered_from 1 (lines_of t)) c.as_bytes.ensures.value)
    (rw c.deref.ensures.value at c.in_ok-said.ensures) (rw c.deref-2.ensures.value at c.in-Ok.ensures.ok))
    c.requests_of.result c.requests_of.ensures.some

-- one of the steps does something else
pub returns-in-Ok-clause-none : goal.returns-in-Ok-clause-none
returns-in-Ok-clause-none c =
    let text = c.args.text.now in
    let read = map line_entry c.in_ok-lines.lines.items in
    let said = map typed_line_entry c.in_ok-said.said.items in
    let turns = c.in-Ok.turns.items in
    none_found text turns
    (turns_of_text text read said turns (c.in_ok-lines.ensures ∙ ap (λ t. numbered_from 1 (lines_of t)) c.as_bytes.ensures.value)
    (rw c.deref.ensures.value at c.in_ok-said.ensures) (rw c.deref-2.ensures.value at c.in-Ok.ensures.ok))
    c.requests_of.result c.requests_of.ensures.none

-- a line has a flaw
pub returns-clause-none : goal.returns-clause-none
returns-clause-none c =
    let text = c.args.text.now in
    let read = map line_entry c.in_ok-lines.lines.items in
    let said = map typed_line_entry c.in_ok-said.said.items in
    let fault = c.in-Err-ScriptLine in
    flawed_script text fault.field-0-0 fault.field-0-1
    (flaw_of_text text read said fault.field-0-0 fault.field-0-1 (c.in_ok-lines.ensures ∙ ap (λ t. numbered_from 1 (lines_of t)) c.as_bytes.ensures.value)
    (rw c.deref.ensures.value at c.in_ok-said.ensures) (rw c.deref-2.ensures.value at (rw fault.field-0-is at fault.ensures.err)))
