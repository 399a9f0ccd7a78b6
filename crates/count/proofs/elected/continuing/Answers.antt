-- Parts of the proof of `continuing` that are done by hand.
use Rattle.std.proofs.Common.{Bool, ◌&&◌, ◌||◌, not, [], reverse, ap, ◌∙◌, rules}
use Rattle.std.specs.List.{filter}
use Rattle.count.specs.Books.{contest_of}
use Rattle.count.specs.Law.Elected.{has_reached, is_excluded}
use Rattle.count.proofs.elected.continuing.Goals as goal

pub returns : goal.returns
returns c =
    let contest = contest_of c.args.terms.now [] in
    let history = reverse c.args.stages.now in
    c.those.ensures (λ x. not (has_reached contest history x || (c.undecided_fill-fill.result && not (is_excluded history x))) && not (is_excluded history x)) (λ x passed some few told. search rules)
    ∙ ap (λ (fill : Bool). filter (λ x. not (has_reached contest history x || (fill && not (is_excluded history x))) && not (is_excluded history x)) c.args.terms.now.candidates)
    c.undecided_fill-fill.ensures
