-- Proof that `write_empty_seats` meets its contract.
use Rattle.sheet.specs.Page.{empty_seat}
use Rattle.sheet.proofs.Places.{all_places, Writes-place, Writes-place_cut}
use Rattle.sheet.proofs.Writing.{Writes-none}
use Rattle.sheet.proofs.elected.write_empty_seats.Goals as goal

pub loop-init : goal.loop-init
loop-init g c = Writes-none _ _

pub loop-preserved : goal.loop-preserved
loop-preserved g c = Writes-place (λ k. empty_seat) c.args.left c.loop.counter _ c.loop-test.true c.loop.invariant c.in_ok-write_empty_seat.ensures

pub returns-in_err-write_empty_seat : goal.returns-in_err-write_empty_seat
returns-in_err-write_empty_seat g c =
    Writes-place_cut (λ k. empty_seat) c.args.left c.loop.counter c.from_residual.result c.loop-test.true c.loop.invariant c.in_err-write_empty_seat.ensures c.from_residual.ensures.0

pub returns : goal.returns
returns g c = rw (all_places _ _ c.loop-test.false) at c.loop.invariant
