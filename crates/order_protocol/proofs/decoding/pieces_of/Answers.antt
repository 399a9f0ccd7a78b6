use Rattle.std.proofs.Common.{◌≡◌, ◌++◌, ◌∷◌, []}
use Rattle.std.proofs.lemmas.Result.{err_from_is_err_and}
use Rattle.std.proofs.lemmas.List.{map_push}
use Rattle.order_protocol.specs.Messages.{message_part_entries, message_part_entry}
use Rattle.order_protocol.specs.Reading.{pieces_at}
use Rattle.order_protocol.proofs.Loop.{goes_on, ends, is_done}
use Rattle.order_protocol.proofs.decoding.pieces_of.Goals as goal

pub returns-in_err-piece : goal.returns-in_err-piece
returns-in_err-piece c =
    let p = err_from_is_err_and c.from_residual.result c.from_residual.ensures.1 in
    rw (p.1, p.2) (ends c.in_err-piece.field-0.0 (message_part_entries c.loop.pieces.items) c.args.count c.loop.counter c.loop.rest.now
    (pieces_at c.args.count c.args.bytes.now) c.loop-test.true c.in_err-piece.ensures
    c.loop.invariant)

pub loop-preserved : goal.loop-preserved
loop-preserved c =
    let n = c.in_ok-piece.piece in
    let e : message_part_entries c.push.new.self.items ≡ message_part_entries c.loop.pieces.items ++ message_part_entry n ∷ [] = rw c.in_ok-push.ensures.items (map_push _ c.loop.pieces.items n) in
    rw e (goes_on (message_part_entries c.loop.pieces.items) c.args.count c.loop.counter c.loop.rest.now (message_part_entry n) c.in_ok-piece.after.now
    (pieces_at c.args.count c.args.bytes.now) c.loop-test.true
    c.in_ok-piece.ensures c.loop.invariant)

pub returns : goal.returns
returns c = is_done (message_part_entries c.loop.pieces.items) c.args.count c.loop.counter c.loop.rest.now (pieces_at c.args.count c.args.bytes.now) c.loop-test.false c.loop.invariant
