use Rattle.std.proofs.lemmas.Str.{is_utf8-from_IsUtf8}
use Rattle.register.specs.Ranges.{is_name}
use Rattle.register.proofs.ranges.is_name.Goals as goal

pub returns : goal.returns
unfolding is_name
returns c = rw (is_utf8-from_IsUtf8 _ c.utf8.text, c.is_length-fits.ensures, c.are_name_bytes.ensures, c.as_bytes-bytes.ensures.value)
