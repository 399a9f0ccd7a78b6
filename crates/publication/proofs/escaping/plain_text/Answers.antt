-- Proof that `plain_text` meets its contract.
use Rattle.std.proofs.Common.{◌≡◌, arith, subst, sym, IsUtf8}
use Rattle.std.proofs.lemmas.Grind.{common_steps}
use Rattle.sheet.proofs.Quoted.{IsUtf8-page_text}
use Rattle.sheet.specs.Lines.{plain}
use Rattle.publication.proofs.escaping.plain_text.Goals as goal

pub text_of-requires : goal.text_of-requires
text_of-requires c =
    let is : c.loop-byte.bytes.items ≡ plain c.args.text.now = grind (arith, common_steps, c.loop-byte.invariant, c.as_bytes-byte-items.ensures.value) in
    subst IsUtf8 (sym is) (IsUtf8-page_text c.args.text.now c.utf8.text)
