-- Parts of the proof of `places_by_surplus` that are done by hand.
use Rattle.std.proofs.Common.{◌≡◌, false, true, ap, ◌∙◌, reverse}
use Rattle.paper.specs.Standing.{is_continuing}
use Rattle.count.specs.Law.Contest.{Contest, History}
use Rattle.count.specs.Inside.Placing.{contest_on, passed_places}
use Rattle.count.specs.declared.parcel.TransferRule.{TransferRule}
use Rattle.count.proofs.MoveLemmas.{surplus-lawful}
use Rattle.count.proofs.PlaceLemmas.{surplus-places}
use Rattle.count.proofs.places.places_by_surplus.Goals as goal

never : {A : Type 0} → false ≡ true → A
never e = cc

pub returns-in_ok-moved-in-None-clause-is : goal.returns-in_ok-moved-in-None-clause-is
returns-in_ok-moved-in-None-clause-is c due =
    let lawful = surplus-lawful (contest_on c.args.terms.now c.args.bundles.now) (reverse c.args.stages.now) c.args.c due.book.fair due.book.right due.due in
    never (c.in-None.ensures.some lawful.some lawful.column.0 lawful.column.1 lawful.above lawful.few)

pub returns-in_ok-moved-in-Some-clause-is : goal.returns-in_ok-moved-in-Some-clause-is
returns-in_ok-moved-in-Some-clause-is c due =
    let contest : Contest = contest_on c.args.terms.now c.args.bundles.now in
    let before : History = reverse c.args.stages.now in
    c.in_ok-moved-in-Some.ensures.is
    ∙ ap (λ (r : TransferRule). passed_places (is_continuing c.standing-standing.result) r c.args.c c.args.places.now c.args.bundles.now) c.in-Some.ensures.is
    ∙ surplus-places contest before c.args.c (is_continuing c.standing-standing.result) c.args.places.now c.args.bundles.now c.standing-standing.ensures.is due.book.places_are
