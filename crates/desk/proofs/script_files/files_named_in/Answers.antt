-- Proof that `files_named_in` meets its contract.
use Rattle.std.proofs.Common.{◌∙◌, ap, inr, map, string_bytes}
use Rattle.desk.specs.Lexing.{line_entry, typed_line_entry}
use Rattle.desk.specs.Scripts.{lines_of, numbered_from, part_read}
use Rattle.desk.proofs.JournalLemmas.{files_found, flaw_of_text, turns_of_text}
use Rattle.desk.proofs.script_files.files_named_in.Goals as goal

-- the lines are those of the text, their steps are these, and they read the files
pub returns-in-Ok : goal.returns-in-Ok
returns-in-Ok c =
    let text = part_read c.args.cut c.args.script.now in
    let read = map line_entry c.in_ok-lines.lines.items in
    let said = map typed_line_entry c.in_ok-said.said.items in
    let turns = c.in-Ok.turns.items in
    let lines = c.in_ok-lines.ensures ∙ ap (λ t. numbered_from 1 (lines_of t)) c.part_read.ensures in
    files_found (λ paths. map string_bytes paths.items) text turns
    (turns_of_text text read said turns lines (rw c.deref.ensures.value at c.in_ok-said.ensures) (rw c.deref-2.ensures.value at c.in-Ok.ensures.ok))
    c.files_of.result (rw c.deref-in-Ok.ensures.value at c.files_of.ensures)

-- a line has a flaw, and the text names no file
pub returns : goal.returns
returns c =
    let text = part_read c.args.cut c.args.script.now in
    let read = map line_entry c.in_ok-lines.lines.items in
    let said = map typed_line_entry c.in_ok-said.said.items in
    let fault = c.in-Err-ScriptLine in
    let lines = c.in_ok-lines.ensures ∙ ap (λ t. numbered_from 1 (lines_of t)) c.part_read.ensures in
    let first = flaw_of_text text read said fault.field-0-0 fault.field-0-1 lines (rw c.deref.ensures.value at c.in_ok-said.ensures)
    (rw c.deref-2.ensures.value at (rw fault.field-0-is at fault.ensures.err)) in
    inr (fault.field-0-0, fault.field-0-1, first, ap (map string_bytes) c.new.ensures.items)
