-- Why `draw_lines` keeps its promise.
use Rattle.std.proofs.Common.{◌∙◌}
use Rattle.codes.proofs.LetterLemmas.{each_ascii}
use Rattle.codes.proofs.random_letters.draw_lines.Goals as goal

pub text_by-requires-clause-ascii : goal.text_by-requires-clause-ascii
text_by-requires-clause-ascii g c = each_ascii c.in_ok-letters.ensures.ok.own _ (c.as_slice.ensures.value ∙ c.in_ok-letters.ensures.ok.are)
