-- Proof that `commit_new_office` meets its contract.
use Rattle.std.proofs.Common.{rules, ◌≡◌, arith}
use Rattle.sqlite.specs.Held.{state}
use Rattle.sqlite.specs.State.{HasCleanDisk, Survives}
use Rattle.tables.specs.Contents.{Rests, Sees, Stores}
use Rattle.tables.specs.Making.{SeesNothing}
use Rattle.tables.proofs.StopLemmas.{rests_committed, survives_storing}
use Rattle.register.specs.Offices.{empty_office}
use Rattle.store.specs.StateTables.{tables_of}
use Rattle.store.proofs.storage.commit_new_office.Goals as goal

pub returns-in_err-commit-clause-survives : goal.returns-in_err-commit-clause-survives
returns-in_err-commit-clause-survives g c blank =
    let both : Survives (state g.S.Store c.args.conn.now) (state g.S.Store c.commit.new.self.0) (λ trees. trees ≡ (state g.S.Store c.write_new_office.new.tx.conn.now).now.trees) = search rules in
    let begun : SeesNothing (state g.S.Store c.transaction-tx.result.conn.now) = search rules in
    let before : HasCleanDisk (state g.S.Store c.commit.new.self.0) → HasCleanDisk (state g.S.Store c.write_new_office.new.tx.conn.now) = λ clean. let low
    = c.commit.ensures.survives.clean in omega (arith, low, clean) in
    let it : Survives (state g.S.Store c.args.conn.now) (state g.S.Store c.commit.new.self.0) (Stores (tables_of empty_office)) =
    survives_storing (tables_of empty_office) (state g.S.Store c.args.conn.now) (state g.S.Store c.write_new_office.new.tx.conn.now) (state g.S.Store c.commit.new.self.0) both
    (λ clean. c.in_ok-write_new_office.ensures.writes (before clean) tt begun) in
    search (rules, it)

pub returns-then-not-has_every_table-clause-survives : goal.returns-then-not-has_every_table-clause-survives
returns-then-not-has_every_table-clause-survives g c blank =
    let both : Survives (state g.S.Store c.args.conn.now) (state g.S.Store c.commit.new.self.0) (λ trees. trees ≡ (state g.S.Store c.write_new_office.new.tx.conn.now).now.trees) = search rules in
    let begun : SeesNothing (state g.S.Store c.transaction-tx.result.conn.now) = search rules in
    let before : HasCleanDisk (state g.S.Store c.commit.new.self.0) → HasCleanDisk (state g.S.Store c.write_new_office.new.tx.conn.now) = λ clean. let low
    = c.commit.ensures.survives.clean in omega (arith, low, clean) in
    let it : Survives (state g.S.Store c.args.conn.now) (state g.S.Store c.commit.new.self.0) (Stores (tables_of empty_office)) =
    survives_storing (tables_of empty_office) (state g.S.Store c.args.conn.now) (state g.S.Store c.write_new_office.new.tx.conn.now) (state g.S.Store c.commit.new.self.0) both
    (λ clean. c.in_ok-write_new_office.ensures.writes (before clean) tt begun) in
    search (rules, it)

pub returns-clause-survives : goal.returns-clause-survives
returns-clause-survives g c blank =
    let both : Survives (state g.S.Store c.args.conn.now) (state g.S.Store c.commit.new.self.0) (λ trees. trees ≡ (state g.S.Store c.write_new_office.new.tx.conn.now).now.trees) = search rules in
    let begun : SeesNothing (state g.S.Store c.transaction-tx.result.conn.now) = search rules in
    let before : HasCleanDisk (state g.S.Store c.commit.new.self.0) → HasCleanDisk (state g.S.Store c.write_new_office.new.tx.conn.now) = λ clean. let low
    = c.commit.ensures.survives.clean in omega (arith, low, clean) in
    let it : Survives (state g.S.Store c.args.conn.now) (state g.S.Store c.commit.new.self.0) (Stores (tables_of empty_office)) =
    survives_storing (tables_of empty_office) (state g.S.Store c.args.conn.now) (state g.S.Store c.write_new_office.new.tx.conn.now) (state g.S.Store c.commit.new.self.0) both
    (λ clean. c.in_ok-write_new_office.ensures.writes (before clean) tt begun) in
    search (rules, it)

pub returns-clause-done : goal.returns-clause-done
returns-clause-done g c clean blank =
    let ended : HasCleanDisk (state g.S.Store c.commit.new.self.0) = search rules in
    let begun : SeesNothing (state g.S.Store c.transaction-tx.result.conn.now) = search rules in
    let before : HasCleanDisk (state g.S.Store c.write_new_office.new.tx.conn.now) = let low = c.commit.ensures.survives.clean in omega (arith, low, ended) in
    let mid : Sees (tables_of empty_office) (state g.S.Store c.write_new_office.new.tx.conn.now) = c.in_ok-write_new_office.ensures.writes before tt begun in
    let it : Rests (tables_of empty_office) (state g.S.Store c.commit.new.self.0) = rests_committed (tables_of empty_office)
    (state g.S.Store c.write_new_office.new.tx.conn.now) (state g.S.Store c.commit.new.self.0) mid (c.in_ok-commit.ensures.ok ended).1 in
    search (rules, it)
