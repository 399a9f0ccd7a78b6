-- The invariant of the loop in `checksum`.
use Rattle.std.proofs.Common.{◌≡◌, drop}
use Rattle.std.specs.Prelude.{fold}
use Rattle.store.specs.Memories.{mixed}
use Rattle.store.proofs.batch_cache.checksum.Given as goal

abbrev pub invariant-loop-byte : goal.invariant-loop-byte
invariant-loop-byte l = fold mixed l.sum (drop l.byte-index l.byte-items) ≡ fold mixed 14695981039346656037 l.text
