-- Proof that `create` meets its contract.
use Rattle.sqlite.specs.Held.{state}
use Rattle.register.specs.Offices.{empty_office}
use Rattle.register.proofs.ListLaws.{empty_is_a_state}
use Rattle.store.proofs.KeepLemmas.{rests_is_at}
use Rattle.store.proofs.storage.Store.create.Goals as goal

pub returns-in-Ok-clause-made : goal.returns-in-Ok-clause-made
returns-in-Ok-clause-made g c clean blank =
    rests_is_at empty_office (state g.S.Store c.commit_new_office.new.conn) (λ trees is_open may. g.met.S.Store.settled c.commit_new_office.new.conn.store trees is_open may) empty_is_a_state
    (c.in-Ok.ensures.done clean blank)
