-- Parts of the proof of `text` that are done by hand.
use Rattle.std.proofs.Common.{◌++◌, take, get_or, sym, ap, ◌∙◌}
use Rattle.paper.specs.MarksText.{field_text}
use Rattle.paper.proofs.Spelling.{text-more}
use Rattle.paper.proofs.marked.Marked.text.Goals as goal

pub loop-i-preserved : goal.loop-i-preserved
loop-i-preserved c =
    c.in_ok-push_field.ensures ∙ ap (λ l. l ++ field_text c.loop-i.i (get_or (take c.len.result c.self.inside.marks) c.loop-i.i 0)) c.loop-i.invariant
    ∙ sym (text-more (take c.len.result c.self.inside.marks) c.loop-i.i c.loop-i-test.true)
