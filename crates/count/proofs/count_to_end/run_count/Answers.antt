-- Parts of the proof of `run_count` that are done by hand.
use Rattle.std.proofs.Common.{◌≡◌, ◌+◌, length, ap, sym, ◌∙◌, subst, Some}
use Rattle.count.specs.Advance.{AdvancesBy, end_after}
use Rattle.count.specs.Law.Contest.{IsContest, Contest, History}
use Rattle.count.specs.Law.Due.{lot_for}
use Rattle.count.specs.Law.Right.{IsWholeCount}
use Rattle.count.specs.Law.Laws.{FillsSeats}
use Rattle.count.specs.declared.stages.Stage.{Stage}
use Rattle.count.specs.declared.count_to_end.CountEnd.{CountEnd}
use Rattle.count.proofs.Law.ActionLemmas.{steps-smaller}
use Rattle.count.proofs.Law.RightLemmas.{whole_count, one_begins}
use Rattle.count.proofs.Law.FinishLemmas.{finished-filled}
use Rattle.count.proofs.count_to_end.run_count.Goals as goal

pub stages-smaller : goal.stages-smaller
stages-smaller g c =
    let same = c.stages.invariant.same in
    let fair : IsContest (g.B.CountBook.contest c.args.book.now) = subst IsContest same c.step.ensures.fair in
    let stepped : AdvancesBy (g.B.CountBook.contest c.args.book.now) c.args.lots.now (g.B.CountBook.history c.stages.book) (g.B.CountBook.history c.step.new.book)
    = rw same at (rw c.in-None.is at c.in_ok-end.ensures.stepped) in
    steps-smaller (g.B.CountBook.contest c.args.book.now) _ _ c.args.lots.now _ _ same (c.step.ensures.same ∙ same) fair c.stages.invariant.right stepped

pub returns-in-Some-clause-whole : goal.returns-in-Some-clause-whole
returns-in-Some-clause-whole g c =
    let contest = g.B.CountBook.contest c.args.book.now in
    let before = g.B.CountBook.history c.stages.book in
    let ended : g.B.CountBook.history c.step.new.book ≡ before = rw c.in-Some.is at c.in_ok-end.ensures.ended in
    let why : end_after contest c.args.lots.now before ≡ Some c.in-Some.end =
    ap (λ (k : Contest). end_after k c.args.lots.now before) (sym c.stages.invariant.same) ∙ (sym c.in_ok-end.ensures.end ∙ c.in-Some.is) in
    let all : IsWholeCount contest c.args.lots.now before = whole_count contest c.args.lots.now before c.in-Some.end c.stages.invariant.right why in
    subst (λ (whole : History). IsWholeCount contest c.args.lots.now whole) (sym ended) all

pub returns-in-Some-clause-filled : goal.returns-in-Some-clause-filled
returns-in-Some-clause-filled g c =
    let contest = g.B.CountBook.contest c.args.book.now in
    let before = g.B.CountBook.history c.stages.book in
    let fair : IsContest contest = subst IsContest c.stages.invariant.same c.step.ensures.fair in
    let ended : g.B.CountBook.history c.step.new.book ≡ before = rw c.in-Some.is at c.in_ok-end.ensures.ended in
    let why : end_after contest c.args.lots.now before ≡ Some c.in-Some.end =
    ap (λ (k : Contest). end_after k c.args.lots.now before) (sym c.stages.invariant.same) ∙ (sym c.in_ok-end.ensures.end ∙ c.in-Some.is) in
    λ finished. subst (λ (whole : History). FillsSeats contest whole) (sym ended)
    (finished-filled contest (λ (b : History) (s : Stage). lot_for c.args.lots.now (length b + 1)) c.args.lots.now before fair c.stages.invariant.right (why ∙ ap (λ (e : CountEnd). Some e) finished))

pub returns-in_err-end-clause-unique : goal.returns-in_err-end-clause-unique
returns-in_err-end-clause-unique g c = one_begins (g.B.CountBook.contest c.args.book.now) c.args.lots.now

pub returns-in-Some-clause-unique : goal.returns-in-Some-clause-unique
returns-in-Some-clause-unique g c = one_begins (g.B.CountBook.contest c.args.book.now) c.args.lots.now
