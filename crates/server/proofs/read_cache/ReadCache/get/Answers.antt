-- Proof that `get` meets its contract.
use Rattle.std.proofs.Common.{◌∙◌}
use Rattle.server.proofs.ReadLemmas.{kept_has}
use Rattle.server.proofs.read_cache.ReadCache.get.Goals as goal

pub returns-in-Ok : goal.returns-in-Ok
returns-in-Ok c =
    kept_has c.args.self.now.answers.items c.deref-kept-items.result.now c.loop-kept.kept-index c.kept-item.result c.args.what c.in-Ok.answer.items c.deref-kept-items.ensures.value
    c.loop-kept-test.true c.kept-item.is (c.is_same.ensures c.if-is_same.true) (c.in-Ok.ensures.items ∙ c.as_slice.ensures.value)
