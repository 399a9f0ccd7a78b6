use Rattle.std.proofs.Common.{◌≡◌, true, sym, ap, string_bytes, ◌∙◌}
use Rattle.std.specs.Str.{is_utf8}
use Rattle.std.proofs.lemmas.Str.{is_utf8-from_IsUtf8}
use Rattle.register.specs.StateConditions.{is_receipt}
use Rattle.rowcheck.proofs.ranges.ReceiptRanged.is_in_range.Goals as goal

pub returns : goal.returns
unfolding is_receipt
returns c =
    let written : is_utf8 (string_bytes c.args.self.now.subject) ≡ true = ap is_utf8 (sym c.as_str.ensures.value) ∙ is_utf8-from_IsUtf8 _ c.as_str.utf8 in
    rw (c.is_about-about.ensures, c.is_id-id.ensures, c.is_reply.ensures, c.as_str.ensures.value, c.as_str-2.ensures.value, c.as_str-3.ensures.value, written)
