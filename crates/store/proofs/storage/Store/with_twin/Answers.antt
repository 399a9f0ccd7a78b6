-- Proof that `with_twin` meets its contract.
use Rattle.std.proofs.Common.{◌≡◌, Option, ℕ, rules, refl, ap, ◌∙◌}
use Rattle.tables.specs.declared.fault.Fault.TheVariants.{Memory}
use Rattle.store.specs.Overviews.{BatchView, batch_view, batch_view_with}
use Rattle.store.specs.Memories.{KnownView, row_of}
use Rattle.store.proofs.LoadsLemmas.{loads_as, loads_stopped}
use Rattle.store.proofs.storage.Store.with_twin.Goals as goal

pub returns-in-Ok : goal.returns-in-Ok
returns-in-Ok g c =
    loads_as c.in_ok-twin.ensures
    (λ s is told. λ all own.
    ap (λ (v : BatchView). record v { twin = c.in_ok-twin.twin }) (c.in-Ok.ensures ∙ ap (λ (v : KnownView). v.view) own)
    ∙ ap (batch_view_with s (row_of c.args.one.now)) (told all own))

pub returns-in-Err : goal.returns-in-Err
returns-in-Err g c = loads_stopped {f = Memory} refl c.in_ok-twin.ensures (λ s is told. refl)
