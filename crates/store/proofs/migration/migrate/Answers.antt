-- Proof that `migrate` meets its contract.
use Rattle.std.proofs.Common.{rules}
use Rattle.sqlite.specs.Held.{state}
use Rattle.store.proofs.MigrationLemmas.{moved_from, stops_from, refuses_from, already_from}
use Rattle.store.proofs.migration.migrate.Goals as goal

pub returns : goal.returns
returns g c =
    let r = c.open_or_migrate.result in
    let old = state g.S.Store c.args.conn.now in
    let new = state g.S.Store c.open_or_migrate.new.conn in
    let e = c.open_or_migrate.ensures in
    let law = c.older_tables_determine_states.ensures in
    record {
      moved = λ clean form s older. moved_from r old new form s older (e.opened clean);
      stops = λ clean form s older. stops_from r old new form s older (λ trees is_open may. g.met.S.Store.settled c.args.conn.now.store trees is_open may) (e.leaves clean);
      refuses = λ clean form s older. refuses_from r old new form s older (e.told clean);
      already = λ clean db rests s held. already_from r old new db s rests held (e.opened clean);
      reads = e.reads;
      opened = e.opened;
      leaves = e.leaves;
      told = e.told;
      fails = e.fails;
      unchanged = e.unchanged;
      keeps_connection = e.keeps_connection;
      clean = e.clean;
      inside = search rules;
      outside = λ _. e.outside;
      alone = law.alone;
      equal = law.equal;
      again = law.again;
    }
