-- Parts of the proof of `judge` that are done by hand.
use Rattle.std.proofs.Common.{sym, ap, ◌∙◌, subst, arith}
use Rattle.paper.specs.Padded.{listed, padded}
use Rattle.paper.specs.Preferences.{IsPreferences, preferences}
use Rattle.paper.proofs.Rankings.{listed-padded_ranking}
use Rattle.paper.proofs.Preferences.{alone-One, lower_marks_decide, preferences-IsRanking, preferences-IsPreferences, preferences-some}
use Rattle.paper.proofs.validity.judge.Goals as goal

pub returns-in-Nobody-clause-lower : goal.returns-in-Nobody-clause-lower
returns-in-Nobody-clause-lower c = lower_marks_decide c.args.m.now

pub returns-in-One-clause-lower : goal.returns-in-One-clause-lower
returns-in-One-clause-lower c = lower_marks_decide c.args.m.now

pub returns-in-Several-clause-lower : goal.returns-in-Several-clause-lower
returns-in-Several-clause-lower c = lower_marks_decide c.args.m.now

pub from_ranking-requires-clause-whole : goal.from_ranking-requires-clause-whole
from_ranking-requires-clause-whole c =
    let list = ap listed (c.preferred.ensures c.args.m.now c.bearers-bearers.ensures.is) ∙ listed-padded_ranking (preferences c.args.m.now)
    (preferences-IsRanking c.args.m.now c.bearers-bearers.ensures.marking.columns) in
    ap padded list ∙ sym (c.preferred.ensures c.args.m.now c.bearers-bearers.ensures.is)

pub from_ranking-requires-clause-some : goal.from_ranking-requires-clause-some
from_ranking-requires-clause-some c =
    let list = ap listed (c.preferred.ensures c.args.m.now c.bearers-bearers.ensures.is) ∙ listed-padded_ranking (preferences c.args.m.now)
    (preferences-IsRanking c.args.m.now c.bearers-bearers.ensures.marking.columns) in
    rw list (preferences-some c.args.m.now _ (alone-One _ _ (sym c.in-One.is ∙ c.bearers-bearers.ensures.is 1 (omega arith))))

pub from_ranking-requires-clause-ranking : goal.from_ranking-requires-clause-ranking
from_ranking-requires-clause-ranking c =
    let ranking = preferences-IsRanking c.args.m.now c.bearers-bearers.ensures.marking.columns in
    rw (ap listed (c.preferred.ensures c.args.m.now c.bearers-bearers.ensures.is) ∙ listed-padded_ranking (preferences c.args.m.now) ranking) ranking

pub returns-in-One-clause-is : goal.returns-in-One-clause-is
returns-in-One-clause-is c =
    c.from_ranking.ensures ∙ ap listed (c.preferred.ensures c.args.m.now c.bearers-bearers.ensures.is) ∙ listed-padded_ranking (preferences c.args.m.now)
    (preferences-IsRanking c.args.m.now c.bearers-bearers.ensures.marking.columns)

pub returns-in-One-clause-longest : goal.returns-in-One-clause-longest
returns-in-One-clause-longest c =
    let set = c.bearers-bearers.ensures.marking.columns in
    let is = c.from_ranking.ensures ∙ ap listed (c.preferred.ensures c.args.m.now c.bearers-bearers.ensures.is) ∙ listed-padded_ranking (preferences c.args.m.now)
    (preferences-IsRanking c.args.m.now set) in
    subst (IsPreferences c.args.m.now) (sym is) (preferences-IsPreferences c.args.m.now set)
