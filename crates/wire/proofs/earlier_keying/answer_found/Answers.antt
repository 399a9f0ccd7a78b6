-- Proof that `answer_found` meets its contract.
use Rattle.std.proofs.Common.{option_map, subst, sym}
use Rattle.store.specs.EarlierKeyings.{keyed_round_entry}
use Rattle.wire.specs.Replies.{keyed_data}
use Rattle.wire.specs.Serving.{earlier_response}
use Rattle.wire.specs.Told.{IsTold}
use Rattle.wire.proofs.ReplyLemmas.{keyed-float}
use Rattle.wire.proofs.earlier_keying.answer_found.Goals as goal

pub returns-in-Some : goal.returns-in-Some
returns-in-Some c =
    let entry = keyed_round_entry c.in-Some.keyed in
    subst (λ found. IsTold (earlier_response c.args.batch (option_map keyed_round_entry found)) c.valued.result) (sym c.in-Some.is)
    (c.valued.ensures (keyed_data c.args.batch entry) (keyed-float c.args.batch entry) c.keyed_value.ensures)
