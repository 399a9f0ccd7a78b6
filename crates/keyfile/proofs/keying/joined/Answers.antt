-- Proof that `joined` meets its contract.
use Rattle.std.proofs.Common.{string_bytes}
use Rattle.keyfile.proofs.MarkLemmas.{joined_more}
use Rattle.keyfile.proofs.keying.joined.Goals as goal

pub loop-i-preserved : goal.loop-i-preserved
loop-i-preserved c =
    joined_more c.args.marks.now c.loop-i.i _ (string_bytes c.loop-i.text) (string_bytes c.push_field.new.text) c.loop-i-test.true c.loop-i.invariant c.in_ok-push_field.ensures
