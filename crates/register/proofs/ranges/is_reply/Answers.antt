use Rattle.std.proofs.lemmas.Str.{is_utf8-from_IsUtf8}
use Rattle.register.specs.Ranges.{is_reply}
use Rattle.register.proofs.ranges.is_reply.Goals as goal

pub returns : goal.returns
unfolding is_reply
returns c = rw (is_utf8-from_IsUtf8 _ c.utf8.text, c.are_line_bytes.ensures, c.as_bytes-bytes.ensures.value)
