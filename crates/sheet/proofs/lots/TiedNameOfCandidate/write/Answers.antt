-- Proof that `write` of a `TiedName` meets its contract.
use Rattle.std.proofs.Common.{sym, ◌∙◌}
use Rattle.sheet.proofs.Ties.{above_shown, below_shown}
use Rattle.sheet.proofs.lots.TiedNameOfCandidate.write.Goals as goal

pub returns : goal.returns
returns g c =
    rw (sym c.is_tied.ensures ∙ c.if-not-is_tied.false, below_shown, above_shown)
    (rw (c.tie_mark.ensures, c.has_tied_below-below.ensures, c.has_tied_above-above.ensures, c.as_str.ensures.value) at c.write_pieces.ensures)
