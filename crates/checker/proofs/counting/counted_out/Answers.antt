-- Proof that `counted_out` meets its contract.
use Rattle.std.proofs.Common.{◌≡◌, ◌∙◌, ap}
use Rattle.count.proofs.Law.CountLemmas.{stages_right}
use Rattle.checker.specs.Checks.{dues_of}
use Rattle.checker.specs.Counts.{undrawn_at}
use Rattle.checker.proofs.CountLemmas.{count_by, undrawn_never, undrawn_so}
use Rattle.checker.proofs.counting.counted_out.Goals as goal

pub run_count-requires : goal.run_count-requires
run_count-requires g c = rw (c.in-Ok.ensures.same, c.in-Ok.ensures.counted) (stages_right _ _ 255)

pub returns-in-Some-clause-err : goal.returns-in-Some-clause-err
unfolding dues_of
returns-in-Some-clause-err g c =
    let dues : c.deref.result.now ≡ dues_of (g.B.CountBook.contest c.args.book.now) c.args.lots.now = c.deref.ensures.value ∙ c.in-Ok.ensures.is in
    undrawn_so c.in-Ok-run_count.end (dues_of (g.B.CountBook.contest c.args.book.now) c.args.lots.now) c.args.lots.now c.in-Some.stage
    (c.in-Some.ensures ∙ ap (λ d. undrawn_at c.in-Ok-run_count.end d c.args.lots.now) dues)

pub returns-clause-ok : goal.returns-clause-ok
unfolding dues_of
returns-clause-ok g c =
    let dues : c.deref.result.now ≡ dues_of (g.B.CountBook.contest c.args.book.now) c.args.lots.now = c.deref.ensures.value ∙ c.in-Ok.ensures.is in
    count_by (g.B.CountBook.contest c.args.book.now) (g.B.CountBook.contest c.dues_to.new.book) c.args.lots.now _ c.stages.result.now
    (g.B.CountBook.history c.run_count.new.book) c.deref.result.now c.in-Ok.ensures.same c.in-Ok-from_slice.ensures.items c.stages.ensures.is
    c.in-Ok-run_count.ensures.whole c.in-Ok-run_count.ensures.end
    (rw c.in-Ok-run_count.ensures.same at c.elected-elected.ensures) dues c.in-None.ensures

pub returns-in-Some-clause-only : goal.returns-in-Some-clause-only
unfolding dues_of
returns-in-Some-clause-only g c = λ count is.
    let dues : c.deref.result.now ≡ dues_of (g.B.CountBook.contest c.args.book.now) c.args.lots.now = c.deref.ensures.value ∙ c.in-Ok.ensures.is in
    absurd (undrawn_never (g.B.CountBook.contest c.args.book.now) (g.B.CountBook.contest c.dues_to.new.book) c.args.lots.now (g.B.CountBook.history c.run_count.new.book)
    c.in-Ok-run_count.end c.deref.result.now c.in-Some.stage count c.in-Ok.ensures.same c.in-Ok-run_count.ensures.whole c.in-Ok-run_count.ensures.end dues c.in-Some.ensures is)
