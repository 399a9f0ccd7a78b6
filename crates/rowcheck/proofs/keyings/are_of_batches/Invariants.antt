-- The invariant of the loop in `are_of_batches`.
use Rattle.std.proofs.Common.{◌≡◌, true, drop, is_some, IfSome}
use Rattle.std.specs.List.{list_all}
use Rattle.register.specs.declared.keyings.KeyedPaper.{KeyedPaper}
use Rattle.register.specs.Offices.{batch_at}
use Rattle.rowcheck.specs.States.{state_of}
use Rattle.rowcheck.proofs.keyings.are_of_batches.Given as goal

abbrev pub invariant-loop-keyed : goal.invariant-loop-keyed
invariant-loop-keyed l =
    record {
      left : list_all (λ (k : KeyedPaper). is_some (batch_at (state_of l.rows) k.batch)) l.keyings
          ≡ list_all (λ (k : KeyedPaper). is_some (batch_at (state_of l.rows) k.batch)) (drop l.keyed-index l.keyings);
      there : IfSome l.known (λ n. is_some (batch_at (state_of l.rows) n) ≡ true);
    }
