-- Parts of the proof of `dues_to` that are done by hand.
use Rattle.std.proofs.Common.{◌+◌, ◌∙◌, refl, arith}
use Rattle.count.proofs.Law.CountLemmas.{counted_more, dues_more}
use Rattle.count.proofs.so_far.dues_to.Goals as goal

pub loop-preserved : goal.loop-preserved
loop-preserved g c =
    let contest = g.B.CountBook.contest c.args.book.now in
    let now = g.B.CountBook.contest c.loop.book in
    let stages = g.B.CountBook.history c.loop.book in
    record {
      same = c.advance_by.ensures.same ∙ c.loop.invariant.same;
      counted = counted_more contest now c.args.lots.now c.loop.counter stages (g.B.CountBook.history c.advance_by.new.book) c.loop.invariant.same
          c.loop.invariant.counted c.in_ok-advance_by.ensures.is;
      all =
          dues_more contest now c.args.lots.now c.loop.counter (c.loop.counter + 1) stages c.due.result c.loop.dues.items c.push.new.self.items
          c.loop.invariant.same c.loop.invariant.counted c.due.ensures.is c.loop.invariant.all c.in_ok-push.ensures.items refl;
    }

pub returns-clause-is : goal.returns-clause-is
returns-clause-is g c =
    let contest = g.B.CountBook.contest c.args.book.now in
    let now = g.B.CountBook.contest c.loop.book in
    let stages = g.B.CountBook.history c.loop.book in
    dues_more contest now c.args.lots.now c.loop.counter (c.args.stages + 1) stages c.due-2.result c.loop.dues.items c.push-2.new.self.items
    c.loop.invariant.same c.loop.invariant.counted c.due-2.ensures.is c.loop.invariant.all c.in_ok-push-2.ensures.items (omega arith)
