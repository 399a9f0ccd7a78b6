-- Proof that `commit` meets its contract.
use Rattle.std.proofs.Common.{IsTrue, sym, subst}
use Rattle.sqlite.specs.Held.{Held, state}
use Rattle.store.specs.StateTables.{tables_of, IsAt}
use Rattle.store.proofs.KeepLemmas.{changed_tables, changes_to, if_change_is_at, change_stops, change_leaves}
use Rattle.store.proofs.storage.Store.commit.Goals as goal

pub returns-clause-done : goal.returns-clause-done
returns-clause-done g c clean is_open s at tabulated is =
    let change = c.args.change.now in
    let here = subst (λ (h : Held _). IsAt s (state g.S.Store h)) (sym c.self.view_is) at in
    let opened = subst (λ (h : Held _). IsTrue (state g.S.Store h).is_open) (sym c.self.view_is) is_open in
    if_change_is_at c.commit_change.result change s (state g.S.Store c.commit_change.new.conn)
    (λ trees now_open may. g.met.S.Store.settled c.commit_change.new.conn.store trees now_open may) tabulated is
    (c.commit_change.ensures.done clean (tables_of s) (changed_tables change s) (changes_to change s) (here.rests opened))

pub returns-clause-stops : goal.returns-clause-stops
returns-clause-stops g c clean is_open s at tabulated =
    let change = c.args.change.now in
    let here = subst (λ (h : Held _). IsAt s (state g.S.Store h)) (sym c.self.view_is) at in
    let opened = subst (λ (h : Held _). IsTrue (state g.S.Store h).is_open) (sym c.self.view_is) is_open in
    change_stops change s (state g.S.Store c.self.inside.conn) (state g.S.Store c.commit_change.new.conn) clean here tabulated
    (c.commit_change.ensures.survives (tables_of s) (changed_tables change s) (changes_to change s) (here.rests opened))

pub returns-clause-leaves : goal.returns-clause-leaves
returns-clause-leaves g c clean is_open s at tabulated is =
    let change = c.args.change.now in
    let here = subst (λ (h : Held _). IsAt s (state g.S.Store h)) (sym c.self.view_is) at in
    let opened = subst (λ (h : Held _). IsTrue (state g.S.Store h).is_open) (sym c.self.view_is) is_open in
    change_leaves change s (state g.S.Store c.self.inside.conn) (state g.S.Store c.commit_change.new.conn) clean here tabulated is
    (c.commit_change.ensures.survives (tables_of s) (changed_tables change s) (changes_to change s) (here.rests opened))
