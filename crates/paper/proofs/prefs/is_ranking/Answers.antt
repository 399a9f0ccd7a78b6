-- Parts of the proof of `is_ranking` that are done by hand.
use Rattle.std.proofs.Common.{◌≡◌, [], sym, subst}
use Rattle.std.proofs.lemmas.List.{nil_from_length}
use Rattle.paper.specs.Ranking.{IsRanking}
use Rattle.paper.proofs.Rankings.{length_ranking}
use Rattle.paper.proofs.prefs.is_ranking.Goals as goal

pub returns-clause-few : goal.returns-clause-few
returns-clause-few c = λ _.
    let none : c.loop-c.rest.now ≡ [] = nil_from_length c.loop-c.rest.now c.in_default.ensures.cases in
    length_ranking c.args.list.now (c.loop-c.invariant.0 (subst IsRanking (sym none) tt))
