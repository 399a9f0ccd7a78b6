-- Proof that `commit_migration` meets its contract.
use Rattle.std.proofs.Common.{rules, ◌≡◌, arith}
use Rattle.sqlite.specs.Held.{state}
use Rattle.sqlite.specs.State.{HasCleanDisk, Survives}
use Rattle.tables.specs.Contents.{Rests, Sees, Stores}
use Rattle.tables.specs.Making.{HasFirstTables, SeesMade}
use Rattle.store.specs.StateTables.{tables_of}
use Rattle.store.specs.Migrations.{tables_in, older_tables}
use Rattle.tables.proofs.StopLemmas.{rests_committed, survives_storing}
use Rattle.store.proofs.migration.commit_migration.Goals as goal

pub returns-in_err-write_migration : goal.returns-in_err-write_migration
returns-in_err-write_migration g c = record {
  done = λ clean s was. search rules;
  survives = λ s was. search rules;
  keeps_connection = search rules;
  clean
      = search rules;
  outside = search rules;
  cause = search rules;
}

pub returns-in_err-commit : goal.returns-in_err-commit
returns-in_err-commit g c =
    record {
      done = λ clean s was. search rules;
      survives = λ s was.
          let both : Survives (state g.S.Store c.args.conn.now) (state g.S.Store c.commit.new.self.0) (λ trees. trees ≡ (state g.S.Store c.write_migration.new.tx.conn.now).now.trees) = search rules in
          let first : HasFirstTables (tables_in c.args.older.now.form) (older_tables c.args.older.now.form s) (state g.S.Store c.args.conn.now).now = was.0.rests.first in
          let begun : SeesMade (tables_in c.args.older.now.form) (older_tables c.args.older.now.form s) (state g.S.Store c.transaction-tx.result.conn.now) = search rules in
          let before : HasCleanDisk (state g.S.Store c.commit.new.self.0) → HasCleanDisk (state g.S.Store c.write_migration.new.tx.conn.now)
          = λ honest. let low = c.commit.ensures.survives.clean in omega (arith, low, honest) in
          let it : Survives (state g.S.Store c.args.conn.now) (state g.S.Store c.commit.new.self.0) (Stores (tables_of s)) =
          survives_storing (tables_of s) (state g.S.Store c.args.conn.now) (state g.S.Store c.write_migration.new.tx.conn.now) (state g.S.Store c.commit.new.self.0) both
          (λ honest. c.in_ok-write_migration.ensures.writes (before honest) s (was.1, (was.0.is, begun))) in
          search (rules, it);
      keeps_connection = search rules;
      clean = search rules;
      outside = search rules;
      cause = search rules;
    }

pub returns : goal.returns
returns g c =
    record {
      done = λ clean s was.
          let ended : HasCleanDisk (state g.S.Store c.commit.new.self.0) = search rules in
          let first : HasFirstTables (tables_in c.args.older.now.form) (older_tables c.args.older.now.form s) (state g.S.Store c.args.conn.now).now = was.0.rests.first in
          let begun : SeesMade (tables_in c.args.older.now.form) (older_tables c.args.older.now.form s) (state g.S.Store c.transaction-tx.result.conn.now) = search rules in
          let before : HasCleanDisk (state g.S.Store c.write_migration.new.tx.conn.now) = let low = c.commit.ensures.survives.clean in omega (arith, low, ended) in
          let seen : Sees (tables_of s) (state g.S.Store c.write_migration.new.tx.conn.now) = c.in_ok-write_migration.ensures.writes before s (was.1, (was.0.is, begun)) in
          let it : Rests (tables_of s) (state g.S.Store c.commit.new.self.0) = rests_committed (tables_of s) (state g.S.Store c.write_migration.new.tx.conn.now)
          (state g.S.Store c.commit.new.self.0) seen (c.in_ok-commit.ensures.ok ended).1 in
          search (rules, it);
      survives = λ s was.
          let both : Survives (state g.S.Store c.args.conn.now) (state g.S.Store c.commit.new.self.0) (λ trees. trees ≡ (state g.S.Store c.write_migration.new.tx.conn.now).now.trees) = search rules in
          let first : HasFirstTables (tables_in c.args.older.now.form) (older_tables c.args.older.now.form s) (state g.S.Store c.args.conn.now).now = was.0.rests.first in
          let begun : SeesMade (tables_in c.args.older.now.form) (older_tables c.args.older.now.form s) (state g.S.Store c.transaction-tx.result.conn.now) = search rules in
          let before : HasCleanDisk (state g.S.Store c.commit.new.self.0) → HasCleanDisk (state g.S.Store c.write_migration.new.tx.conn.now)
          = λ honest. let low = c.commit.ensures.survives.clean in omega (arith, low, honest) in
          let it : Survives (state g.S.Store c.args.conn.now) (state g.S.Store c.commit.new.self.0) (Stores (tables_of s)) =
          survives_storing (tables_of s) (state g.S.Store c.args.conn.now) (state g.S.Store c.write_migration.new.tx.conn.now) (state g.S.Store c.commit.new.self.0) both
          (λ honest. c.in_ok-write_migration.ensures.writes (before honest) s (was.1, (was.0.is, begun))) in
          search (rules, it);
      keeps_connection = search rules;
      clean = search rules;
      outside = search rules;
      cause = search rules;
    }
