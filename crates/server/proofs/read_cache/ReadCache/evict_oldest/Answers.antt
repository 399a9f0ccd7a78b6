-- Proof that `evict_oldest` meets its contract.
use Rattle.server.proofs.ReadLemmas.{gone_more}
use Rattle.server.specs.Reads.{reads_in}
use Rattle.server.proofs.read_cache.ReadCache.evict_oldest.Goals as goal

pub loop-preserved : goal.loop-preserved
loop-preserved c = gone_more (reads_in c.args.self.now) c.loop.self.answers.items c.remove-oldest.new.self.items c.loop.invariant.0 c.loop.invariant.1 c.remove-oldest.ensures.items
