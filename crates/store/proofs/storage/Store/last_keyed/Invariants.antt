-- The invariant of the loop in `last_keyed`: the clerk keyed none of the rounds searched so far.
use Rattle.std.proofs.Common.{◌≡◌, Ok}
use Rattle.sqlite.specs.Held.{state}
use Rattle.store.specs.EarlierKeyings.{last_keyed}
use Rattle.store.specs.Loads.{LoadsAt}
use Rattle.store.proofs.storage.Store.last_keyed.Given as goal

abbrev pub invariant-loop-round : goal.invariant-loop-round
invariant-loop-round g l = LoadsAt (state g.S.Store l.initial.self) (state g.S.Store l.self) (Ok l.round)
    (λ s left. last_keyed s l.batch l.clerk l.rounds ≡ last_keyed s l.batch l.clerk left)

abbrev pub decreases-loop-round : goal.decreases-loop-round
decreases-loop-round g l = l.round
