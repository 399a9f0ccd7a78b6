-- Parts of the proof of `act` that are done by hand.
use Rattle.std.proofs.Common.{◌∙◌, ◌+◌, List, reverse, ap, sym, subst}
use Rattle.count.specs.Law.Contest.{Contest, History}
use Rattle.count.specs.Advance.{Adds}
use Rattle.count.specs.Inside.Holdings.{total, kept_by, AreSmall}
use Rattle.count.specs.Books.{contest_of}
use Rattle.count.specs.Inside.BookInvariants.{IsMovedBy, Records}
use Rattle.count.specs.declared.parcel.Holding.{Holding}
use Rattle.count.specs.declared.stages.Stage.{Stage}
use Rattle.count.proofs.ParcelFigureLemmas.{moved-small, surplus-column, records-adds, held-next}
use Rattle.count.proofs.parcel_act.act.Goals as goal
use Rattle.count.proofs.parcel_act.act.Goals.{In_ok-moved, After-add_parcel_stage}

-- the clause of the call that moved the papers, for the borrowed vectors
is_moved : (c : In_ok-moved) → IsMovedBy (contest_of c.args.terms.now c.args.papers.now) (reverse c.args.stages.now.items) c.args.action.now c.args.holdings.now.items c.in_ok-moved.moved.items
is_moved c =
    let contest : Contest = contest_of c.args.terms.now c.args.papers.now in
    subst (λ (l : List Stage). IsMovedBy contest (reverse l) c.args.action.now c.args.holdings.now.items c.in_ok-moved.moved.items) c.deref-2.ensures.value
    (subst (λ (l : List Holding). IsMovedBy contest (reverse c.deref-2.result.now) c.args.action.now l c.in_ok-moved.moved.items) c.deref.ensures.value c.in_ok-moved.ensures.moved)

pub add_parcel_stage-requires-clause-column : goal.add_parcel_stage-requires-clause-column
add_parcel_stage-requires-clause-column c = surplus-column (contest_of c.args.terms.now c.args.papers.now)
    (reverse c.args.stages.now.items) c.args.holdings.now.items c.args.action.now c.requires.book c.requires.due

pub add_parcel_stage-requires-clause-small : goal.add_parcel_stage-requires-clause-small
add_parcel_stage-requires-clause-small c =
    let contest : Contest = contest_of c.args.terms.now c.args.papers.now in
    let small : AreSmall (reverse c.args.stages.now.items) c.in_ok-moved.moved.items =
    moved-small contest (reverse c.args.stages.now.items) c.args.action.now c.args.holdings.now.items c.in_ok-moved.moved.items c.requires.book c.requires.due
    (is_moved (goal.at.add_parcel_stage-requires-clause-small c).In_ok-moved) in
    subst (λ (l : List Stage). AreSmall (reverse l) c.deref-3.result.now) (sym c.in_ok-try_reserve-2.ensures.items)
    (subst (λ (l : List Holding). AreSmall (reverse c.args.stages.now.items) l) (sym c.deref-3.ensures.value) small)

-- what was recorded, for the borrowed vectors
recorded : (c : After-add_parcel_stage) → Records c.args.terms.now (reverse c.args.stages.now.items) c.args.action.now c.in_ok-moved.moved.items (reverse c.add_parcel_stage.new.stages.items)
recorded c =
    subst (λ (l : List Holding). Records c.args.terms.now (reverse c.args.stages.now.items) c.args.action.now l (reverse c.add_parcel_stage.new.stages.items)) c.deref-3.ensures.value
    (subst (λ (l : List Stage). Records c.args.terms.now (reverse l) c.args.action.now c.deref-3.result.now (reverse c.add_parcel_stage.new.stages.items))
    c.in_ok-try_reserve-2.ensures.items c.add_parcel_stage.ensures)

pub returns-clause-stage : goal.returns-clause-stage
returns-clause-stage c =
    records-adds c.args.terms.now c.args.papers.now (reverse c.args.stages.now.items) (reverse c.add_parcel_stage.new.stages.items) c.args.action.now c.args.holdings.now.items
    c.in_ok-moved.moved.items
    c.requires.book c.requires.due (is_moved (goal.at.returns-clause-stage c).In_ok-moved) (recorded (goal.at.returns-clause-stage c).After-add_parcel_stage)

pub returns-clause-held : goal.returns-clause-held
returns-clause-held c =
    let contest : Contest = contest_of c.args.terms.now c.args.papers.now in
    let before : History = reverse c.args.stages.now.items in
    let moved = is_moved (goal.at.returns-clause-held c).In_ok-moved in
    let adds : Adds contest before c.args.action.now (reverse c.add_parcel_stage.new.stages.items) =
    records-adds c.args.terms.now c.args.papers.now before (reverse c.add_parcel_stage.new.stages.items) c.args.action.now c.args.holdings.now.items c.in_ok-moved.moved.items
    c.requires.book c.requires.due moved (recorded (goal.at.returns-clause-held c).After-add_parcel_stage) in
    held-next contest before (reverse c.add_parcel_stage.new.stages.items) c.args.action.now c.args.holdings.now.items c.in_ok-moved.moved.items
    c.replace.new.holdings.items moved c.in_ok-moved.ensures.rankings adds
    (λ f. c.replace.ensures f ∙ ap (λ (l : List Holding). total f c.in_ok-moved.moved.items + total (kept_by f c.args.action.now) l) c.in_ok-try_reserve.ensures.items)
