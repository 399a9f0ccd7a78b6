-- The loop invariant of `evict_oldest`: responses have been removed, oldest first.
use Rattle.std.proofs.Common.{◌≡◌, ◌++◌, List}
use Rattle.server.specs.Reads.{ReadEntry, reads_in}
use Rattle.server.proofs.read_cache.ReadCache.evict_oldest.Given as goal

abbrev pub invariant-loop : goal.invariant-loop
invariant-loop l = (gone : List ReadEntry) × (reads_in l.fn.self ≡ gone ++ reads_in l.self)
