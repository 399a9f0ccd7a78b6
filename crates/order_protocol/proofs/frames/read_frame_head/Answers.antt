-- Why `read_frame_head` keeps its promise.
use Rattle.std.proofs.Common.{◌∙◌, ap}
use Rattle.order_protocol.specs.Reading.{head_in}
use Rattle.order_protocol.proofs.HeadLemmas.{front_is, head_again}
use Rattle.order_protocol.specs.Frames.{frame_kind, own_bytes}
use Rattle.std.proofs.Common.{length}
use Rattle.order_protocol.proofs.frames.read_frame_head.Goals as goal

pub returns-clause-only : goal.returns-clause-only
returns-clause-only c kind len lt is = c.head_of.ensures.exact ∙ ap head_in is ∙ head_again kind len lt

pub returns-clause-front : goal.returns-clause-front
returns-clause-front c frame lt is = c.head_of.ensures.exact ∙ ap head_in (is ∙ front_is frame) ∙ head_again (frame_kind frame) (length (own_bytes frame)) lt
