-- A database that exists only in memory: reads return what was written, and it is empty at first.
use Rattle.std.proofs.Common.{refl}
use Rattle.sqlite_trees.specs.View.{doubt}
use Rattle.sqlite_trees.specs.declared.memory.MemStore.{MemStore}
use Rattle.sqlite.specs.Held.{Held, state}
use Rattle.sqlite.specs.State.{HasCleanDisk}
use Rattle.sqlite.specs.Steps.{IsEmpty, over_memory}
use Rattle.store.specs.Openings.{IsBlank}

pub memory_is_clean : (held : Held MemStore) → HasCleanDisk (state over_memory held)
unfolding doubt
memory_is_clean held = refl

pub memory_is_blank : (held : Held MemStore) → IsEmpty (state over_memory held) → IsBlank (state over_memory held)
memory_is_blank held empty = record { is_open = empty.0.is_open; outside = empty.0.autocommit; settled = empty.0.clean; schema = empty.2; sound = (empty.1 empty.0.is_open).0 }
