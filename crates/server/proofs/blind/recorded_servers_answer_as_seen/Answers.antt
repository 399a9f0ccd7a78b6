-- Proof that `recorded_servers_answer_as_seen` meets its contract.
use Rattle.server.proofs.blind.recorded_servers_answer_as_seen.Goals as goal

pub returns : goal.returns
returns g c settings before later most old new recorder recorder_later result it clean is_open earlier at clerk its =
    c.clerks_are_answered_as_seen.ensures.kept settings earlier it.exchanges new.closed new.held (it.keeps clean is_open earlier at) clerk its
