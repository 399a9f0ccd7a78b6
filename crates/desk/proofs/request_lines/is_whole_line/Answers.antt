-- Proof that `is_whole_line` meets its contract.
use Rattle.std.proofs.Common.{◌∙◌, ap, length, sym}
use Rattle.desk.specs.Scripts.{behind_byte_order_mark}
use Rattle.desk.proofs.RequestLemmas.{none_whole, passes_as_whole, whole_passes}
use Rattle.desk.proofs.request_lines.is_whole_line.Goals as goal

-- the three tests say that the text is one whole line
pub returns-clause-whole : goal.returns-clause-whole
returns-clause-whole c = passes_as_whole c.args.text.now c.in-Some.words.now c.in-Some.last.now _ _ c.contains.result (sym c.as_bytes-bytes.ensures.value ∙ c.in-Some.ensures.cases.0)
    (ap length (c.behind_byte_order_mark.ensures ∙ ap behind_byte_order_mark c.as_bytes-bytes.ensures.value)) (ap length c.as_bytes-bytes.ensures.value) c.contains.ensures.value

-- and one whole line passes them
pub returns-clause-also : goal.returns-clause-also
returns-clause-also c = whole_passes c.args.text.now c.in-Some.words.now c.in-Some.last.now _ _ c.contains.result (sym c.as_bytes-bytes.ensures.value ∙ c.in-Some.ensures.cases.0)
    (ap length (c.behind_byte_order_mark.ensures ∙ ap behind_byte_order_mark c.as_bytes-bytes.ensures.value)) (ap length c.as_bytes-bytes.ensures.value) c.contains.ensures.value

-- an empty text isn't one
pub returns-in_default-clause-also : goal.returns-in_default-clause-also
returns-in_default-clause-also c line = absurd (none_whole c.args.text.now (ap length (sym c.as_bytes-bytes.ensures.value) ∙ c.in_default.ensures.cases) line)
