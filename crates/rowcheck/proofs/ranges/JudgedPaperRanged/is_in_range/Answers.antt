use Rattle.std.proofs.Common.{◌≡◌, true, sym, ap, string_bytes, ◌∙◌}
use Rattle.std.specs.Str.{is_utf8}
use Rattle.std.proofs.Math.Bool.{and-true}
use Rattle.std.proofs.lemmas.Str.{is_utf8-from_IsUtf8}
use Rattle.register.specs.StateConditions.{is_judged_paper}
use Rattle.rowcheck.proofs.ranges.JudgedPaperRanged.is_in_range.Goals as goal

pub returns : goal.returns
unfolding is_judged_paper
returns c =
    let written : is_utf8 (string_bytes c.args.self.now.marks) ≡ true = ap is_utf8 (sym c.as_str-marks.ensures.value) ∙ is_utf8-from_IsUtf8 _ c.as_str-marks.utf8 in
    rw (c.is_batch_number-batch.ensures, c.is_paper_number-paper.ensures, written, and-true)
