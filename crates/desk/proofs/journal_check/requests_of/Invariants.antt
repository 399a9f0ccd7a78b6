-- The invariant of the loop in `requests_of`: the steps so far send the requests so far.
use Rattle.desk.specs.Journals.{AreSent}
use Rattle.desk.proofs.journal_check.requests_of.Given as goal

abbrev pub invariant-loop-turn : goal.invariant-loop-turn
invariant-loop-turn l = record {
  goes : (goal.iterator-loop-turn).can_next l.turn-iterator × (goal.iterator-loop-turn).is_finite l.turn-iterator;
  sent : AreSent l.yielded l.requests.items;
}
