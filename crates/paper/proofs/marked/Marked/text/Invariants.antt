-- The invariant of the loop in `text`.
use Rattle.std.proofs.Common.{◌≡◌, take, map, string_bytes}
use Rattle.std.specs.List.{join_with_byte}
use Rattle.paper.specs.MarksText.{mark_text}
use Rattle.paper.proofs.marked.Marked.text.Given as goal

abbrev pub invariant-loop-i : goal.invariant-loop-i
invariant-loop-i l = string_bytes l.text ≡ join_with_byte 44 (map mark_text (take l.i l.mark-items))
