-- The invariant of the loop in `first_unnamed`: there are only finitely many requests.
use Rattle.desk.proofs.second_record.first_unnamed.Given as goal

abbrev pub invariant-loop-request : goal.invariant-loop-request
invariant-loop-request l = record {
  goes : (goal.iterator-loop-request).can_next l.request-iterator × (goal.iterator-loop-request).is_finite l.request-iterator;
}
