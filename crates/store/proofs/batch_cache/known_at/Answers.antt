-- Proof that `known_at` meets its contract.
use Rattle.std.proofs.Common.{◌≡◌, sym, ap, ◌∙◌}
use Rattle.store.specs.Memories.{IsKnown, known_of}
use Rattle.store.proofs.MemoryLemmas.{one_of, same_row}
use Rattle.store.proofs.batch_cache.known_at.Goals as goal

pub returns-then-eq : goal.returns-then-eq
returns-then-eq c s are =
    let it = c.in_ok-one.ensures.lookup in
    let is : IsKnown s c.in_ok-one.one.now = one_of (IsKnown s) c.args.known.now c.args.place c.in_ok-one.one.now are it.3.0 it.1 in
    is ∙ ap (known_of s) (same_row c.in_ok-one.one.now.overview.batch c.args.batch.now (sym c.eq.ensures ∙ c.if-eq.true))
