-- The invariant of the loop in `lines_of`: the lines read so far, followed by the remaining ones, are all the lines.
use Rattle.std.proofs.Common.{◌≡◌, ◌++◌, drop, string_bytes}
use Rattle.std.specs.List.{flat_map}
use Rattle.desk.specs.Pages.{line}
use Rattle.desk.proofs.overviews.lines_of.Given as goal

abbrev pub invariant-loop-told : goal.invariant-loop-told
invariant-loop-told g l = string_bytes l.text ++ flat_map (λ t. line (g.T.Lined.text t)) (drop l.told-index l.found) ≡ flat_map (λ t. line (g.T.Lined.text t)) l.found
