-- Parts of the proof of `from_holder` that are done by hand.
use Rattle.std.proofs.Common.{◌==◌, ap, ◌∙◌, drop}
use Rattle.std.proofs.lemmas.List.{take_rest}
use Rattle.paper.proofs.Standings.{drop-passed}
use Rattle.count.proofs.places.from_holder.Goals as goal

pub returns : goal.returns
returns c =
    take_rest c.args.preferences.now c.count_before.result
    ∙ ap (λ n. drop n c.args.preferences.now) c.count_before.ensures.is
    ∙ drop-passed (λ d. d == c.args.c) c.args.preferences.now
