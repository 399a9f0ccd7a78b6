-- Proof that `commit_copy` meets its contract.
use Rattle.std.proofs.Common.{rules, ◌≡◌, arith}
use Rattle.sqlite.specs.Held.{state}
use Rattle.sqlite.specs.State.{HasCleanDisk, Survives}
use Rattle.tables.specs.Contents.{Rests, Sees, Stores}
use Rattle.tables.specs.Making.{SeesNothing}
use Rattle.rowcheck.specs.States.{state_of, tabulated}
use Rattle.store.specs.StateTables.{tables_with}
use Rattle.tables.proofs.StopLemmas.{rests_committed, survives_storing}
use Rattle.store.proofs.copying.commit_copy.Goals as goal

pub returns-in_err-write_whole_office : goal.returns-in_err-write_whole_office
returns-in_err-write_whole_office g c = record {
  done = λ clean x was. search rules;
  survives = λ x was. search rules;
  keeps_connection = search rules;
  clean
      = search rules;
  outside = search rules;
  cause = search rules;
}

pub returns-in_err-commit : goal.returns-in_err-commit
returns-in_err-commit g c =
    record {
      done = λ clean x was. search rules;
      survives = λ x was.
          let both : Survives (state g.T.Store c.args.copy.now) (state g.T.Store c.commit.new.self.0) (λ trees. trees ≡ (state g.T.Store c.write_whole_office.new.tx.conn.now).now.trees)
          = search rules in
          let begun : SeesNothing (state g.T.Store c.transaction-tx.result.conn.now) = search rules in
          let before : HasCleanDisk (state g.T.Store c.commit.new.self.0) → HasCleanDisk (state g.T.Store c.write_whole_office.new.tx.conn.now)
          = λ honest. let low = c.commit.ensures.survives.clean in omega (arith, low, honest) in
          let it : Survives (state g.T.Store c.args.copy.now) (state g.T.Store c.commit.new.self.0) (Stores (tables_with (state_of c.args.rows.now) (tabulated c.args.rows.now))) =
          survives_storing (tables_with (state_of c.args.rows.now) (tabulated c.args.rows.now)) (state g.T.Store c.args.copy.now)
          (state g.T.Store c.write_whole_office.new.tx.conn.now) (state g.T.Store c.commit.new.self.0) both (λ honest. c.in_ok-write_whole_office.ensures.writes (before honest) tt begun) in
          search (rules, it);
      keeps_connection = search rules;
      clean = search rules;
      outside = search rules;
      cause = search rules;
    }

pub returns : goal.returns
returns g c =
    record {
      done = λ clean x was.
          let ended : HasCleanDisk (state g.T.Store c.commit.new.self.0) = search rules in
          let begun : SeesNothing (state g.T.Store c.transaction-tx.result.conn.now) = search rules in
          let before : HasCleanDisk (state g.T.Store c.write_whole_office.new.tx.conn.now) = let low = c.commit.ensures.survives.clean in omega (arith, low, ended) in
          let seen : Sees (tables_with (state_of c.args.rows.now) (tabulated c.args.rows.now)) (state g.T.Store c.write_whole_office.new.tx.conn.now)
          = c.in_ok-write_whole_office.ensures.writes before tt begun in
          let it : Rests (tables_with (state_of c.args.rows.now) (tabulated c.args.rows.now)) (state g.T.Store c.commit.new.self.0) = rests_committed
          (tables_with (state_of c.args.rows.now) (tabulated c.args.rows.now)) (state g.T.Store c.write_whole_office.new.tx.conn.now)
          (state g.T.Store c.commit.new.self.0) seen (c.in_ok-commit.ensures.ok ended).1 in
          search (rules, it);
      survives = λ x was.
          let both : Survives (state g.T.Store c.args.copy.now) (state g.T.Store c.commit.new.self.0) (λ trees. trees ≡ (state g.T.Store c.write_whole_office.new.tx.conn.now).now.trees)
          = search rules in
          let begun : SeesNothing (state g.T.Store c.transaction-tx.result.conn.now) = search rules in
          let before : HasCleanDisk (state g.T.Store c.commit.new.self.0) → HasCleanDisk (state g.T.Store c.write_whole_office.new.tx.conn.now)
          = λ honest. let low = c.commit.ensures.survives.clean in omega (arith, low, honest) in
          let it : Survives (state g.T.Store c.args.copy.now) (state g.T.Store c.commit.new.self.0) (Stores (tables_with (state_of c.args.rows.now) (tabulated c.args.rows.now))) =
          survives_storing (tables_with (state_of c.args.rows.now) (tabulated c.args.rows.now)) (state g.T.Store c.args.copy.now)
          (state g.T.Store c.write_whole_office.new.tx.conn.now) (state g.T.Store c.commit.new.self.0) both (λ honest. c.in_ok-write_whole_office.ensures.writes (before honest) tt begun) in
          search (rules, it);
      keeps_connection = search rules;
      clean = search rules;
      outside = search rules;
      cause = search rules;
    }
