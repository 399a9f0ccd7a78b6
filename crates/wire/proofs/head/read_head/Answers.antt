-- Proof that `read_head` meets its contract.
use Rattle.std.proofs.Common.{rules, ◌≡◌, length, take, arith}
use Rattle.std.proofs.lemmas.List.{length-take-le}
use Rattle.wire.proofs.HeadLemmas.{Consumes-more, no_head-full}
use Rattle.wire.proofs.head.read_head.Goals as goal

pub returns-then-filled-buffer-clause-none : goal.returns-then-filled-buffer-clause-none
returns-then-filled-buffer-clause-none g c =
    let room = c.reading.invariant.room in
    let short = length-take-le c.reading.filled c.reading.buffer (omega arith) in
    let full : length (take c.reading.filled c.reading.buffer) ≡ 8192 = search rules in
    no_head-full _ _ _ full c.reading.invariant.consumed (rw c.in-Ok-Partial.field-0-is at c.in-Ok-Partial.ensures.partial)

pub reading-preserved : goal.reading-preserved
reading-preserved g c = record {
  room = search rules;
  filled = search rules;
  places = search rules;
  failed = search rules;
  consumed = Consumes-more _ _ _ _ _ _ _ _ (omega arith) (search rules) c.reading.invariant.consumed (search rules);
}
