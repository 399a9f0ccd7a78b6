-- Parts of the proof of `available_from` that are done by hand.
use Rattle.std.proofs.Common.{ap, ◌∙◌, drop}
use Rattle.std.proofs.lemmas.List.{take_rest, drop_min}
use Rattle.paper.specs.Standing.{is_continuing}
use Rattle.paper.proofs.Standings.{drop-passed}
use Rattle.paper.proofs.standing.available_from.Goals as goal

pub returns : goal.returns
returns c =
    let rest = take_rest c.args.prefs.now c.min.result ∙ ap (λ n. drop n c.args.prefs.now) c.min.ensures ∙ drop_min c.args.from c.args.prefs.now in
    let passed = rw rest at c.count_passed.ensures.is in
    take_rest _ c.count_passed.result
    ∙ ap (λ l. drop c.count_passed.result l) rest
    ∙ ap (λ n. drop n (drop c.args.from c.args.prefs.now)) passed
    ∙ drop-passed (is_continuing c.args.standing.now) (drop c.args.from c.args.prefs.now)
