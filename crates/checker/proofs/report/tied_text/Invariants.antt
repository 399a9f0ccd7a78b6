-- The invariant of the loop in `tied_text`: the text contains the numbers so far.
use Rattle.std.proofs.Common.{◌≡◌, take}
use Rattle.std.specs.Prelude.{string_bytes}
use Rattle.checker.specs.Reports.{tied_text}
use Rattle.checker.proofs.report.tied_text.Given as goal

abbrev pub invariant-loop-c : goal.invariant-loop-c
invariant-loop-c l = string_bytes l.text ≡ tied_text (take l.c-index l.c-items)
