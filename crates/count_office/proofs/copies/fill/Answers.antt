-- Proof that `fill` may print one more failure: what was printed with status 0 was written whole.
use Rattle.std.proofs.Common.{◌≡◌, arith}
use Rattle.desk.specs.Pages.{outputs_of}
use Rattle.count_office.proofs.CopyLemmas.{whole_at_zero}
use Rattle.count_office.proofs.copies.fill.Goals as goal

pub finish-requires : goal.finish-requires
finish-requires g c = λ zero.
    let told = c.copy_office-status.ensures.copied in
    let outputs = outputs_of g.O.Sink.taken g.O.Sink.failed g.E.Sink.taken g.E.Sink.failed in
    let all = whole_at_zero told.cut (outputs c.args.out.now c.args.err.now) (outputs c.copy_office-status.new.out c.copy_office-status.new.err) told.page
    c.copy_office-status.result.0 zero told.shown in
    let same : g.E.Sink.failed c.copy_office-status.new.err ≡ g.E.Sink.failed c.args.err.now = all.err_failed in
    let low = c.requires.err in
    omega (arith, same, low)
