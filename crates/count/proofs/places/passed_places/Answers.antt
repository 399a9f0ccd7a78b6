-- Parts of the proof of `passed_places` that are done by hand.
use Rattle.std.proofs.Common.{rules, ◌≡◌, List, [], sym, subst}
use Rattle.std.specs.List.{AllByRecursion}
use Rattle.paper.specs.Standing.{is_continuing}
use Rattle.count.specs.Bundles.{Bundle}
use Rattle.count.specs.Inside.Placing.{IsSound, passed_places}
use Rattle.count.proofs.PlaceLemmas.{passed-end, sound-passed}
use Rattle.count.proofs.places.passed_places.Goals as goal
use Rattle.count.proofs.places.passed_places.Goals.{In-None}

made : (c : In-None) → c.loop-list.passed.items ≡ passed_places (is_continuing c.args.standing.now) c.args.rule.now c.args.c c.args.places.now c.args.bundles.now
made c =
    let left : List Bundle = c.loop-list.list-iterator in
    let none : left ≡ [] = search rules in
    passed-end (is_continuing c.args.standing.now) c.args.rule.now c.args.c c.loop-list.passed.items _ c.loop-list.rest.now left none c.loop-list.invariant.all

pub returns-clause-is : goal.returns-clause-is
returns-clause-is c = made (goal.at.returns-clause-is c).In-None

pub returns-clause-sound : goal.returns-clause-sound
returns-clause-sound c =
    subst (AllByRecursion IsSound) (sym (made (goal.at.returns-clause-sound c).In-None))
    (sound-passed (is_continuing c.args.standing.now) c.args.rule.now c.args.c c.args.places.now c.args.bundles.now c.requires.known c.requires.rule c.requires.sound)
