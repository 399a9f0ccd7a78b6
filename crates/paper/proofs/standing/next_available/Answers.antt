-- Parts of the proof of `next_available` that are done by hand.
use Rattle.std.proofs.Common.{ap, ◌∙◌, drop}
use Rattle.std.specs.List.{slice_get}
use Rattle.paper.specs.Standing.{is_continuing}
use Rattle.paper.proofs.Standings.{find-from_first}
use Rattle.paper.proofs.standing.next_available.Goals as goal

pub returns : goal.returns
returns c =
    c.copied.ensures ∙ c.first.ensures.value ∙ ap (λ prefs. slice_get prefs 0) c.available_from.ensures
    ∙ find-from_first (is_continuing c.args.standing.now) (drop c.args.from c.args.prefs.now)
