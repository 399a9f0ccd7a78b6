-- The loop invariant of `texts_in`.
use Rattle.std.proofs.Common.{map}
use Rattle.std.specs.Prelude.{string_bytes}
use Rattle.serde_json.specs.View.{view}
use Rattle.wire.proofs.TextLemmas.{ReadsOn}
use Rattle.wire.proofs.body.texts_in.Given as goal

abbrev pub invariant-loop-value : goal.invariant-loop-value
invariant-loop-value l = record {
  goes : (goal.iterator-loop-value).can_next l.value-iterator × (goal.iterator-loop-value).is_finite l.value-iterator;
  read : ReadsOn (map view l.yielded) (map string_bytes l.texts.items);
}
