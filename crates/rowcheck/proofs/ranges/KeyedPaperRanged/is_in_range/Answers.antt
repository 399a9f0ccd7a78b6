use Rattle.std.proofs.Common.{◌≡◌, true, sym, ap, string_bytes, ◌∙◌}
use Rattle.std.specs.Str.{is_utf8}
use Rattle.std.proofs.Math.Bool.{and-true}
use Rattle.std.proofs.lemmas.Str.{is_utf8-from_IsUtf8}
use Rattle.register.specs.StateConditions.{is_keyed_paper}
use Rattle.rowcheck.proofs.ranges.KeyedPaperRanged.is_in_range.Goals as goal

pub returns : goal.returns
unfolding is_keyed_paper
returns c =
    let written : is_utf8 (string_bytes c.args.self.now.marks) ≡ true = ap is_utf8 (sym c.as_str-marks.ensures.value) ∙ is_utf8-from_IsUtf8 _ c.as_str-marks.utf8 in
    rw (c.is_batch_number-batch.ensures, c.is_round-round.ensures, c.is_clerk-clerk.ensures, c.is_paper_number.ensures, written, and-true)
