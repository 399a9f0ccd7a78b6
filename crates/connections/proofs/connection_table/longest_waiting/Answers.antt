-- Why `longest_waiting` keeps its promise.
use Rattle.std.proofs.Common.{◌+◌, Option, subst, sym, take, ℕ}
use Rattle.connections.proofs.TableLemmas.{IsFound, found_next}
use Rattle.connections.proofs.connection_table.longest_waiting.Goals as goal

pub loop-place-preserved : goal.loop-place-preserved
loop-place-preserved g c =
    subst (λ (found : Option (ℕ × ℕ)). IsFound c.args.orders_too (take (c.loop-place.place + 1) c.args.clients.now) found) (sym c.earlier-found.ensures)
    (found_next c.args.orders_too c.args.clients.now c.loop-place.place c.index-clients-place.result c.loop-place.found c.is_among.result c.loop-place-test.true
    c.index-clients-place.is c.is_among.ensures c.loop-place.invariant)
