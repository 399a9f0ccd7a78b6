-- Proof that `write_whole_office` meets its contract.
use Rattle.sqlite.specs.Held.{state}
use Rattle.tables.proofs.SameLemmas.{sees_same}
use Rattle.tables.proofs.AlterLemmas.{alters_told, alters_sees, alters_after, alters_failed, alters_cut}
use Rattle.store.proofs.CopyLemmas.{whole_put}
use Rattle.store.proofs.writing.copies.write_whole_office.Goals as goal

pub returns-in_err-write_new_office : goal.returns-in_err-write_new_office
returns-in_err-write_new_office g c = alters_failed c.from_residual.ensures.1 c.in_err-write_new_office.ensures

pub returns-in_err-add_both : goal.returns-in_err-add_both
returns-in_err-add_both g c = alters_cut c.from_residual-in_err-add_both.ensures.1 c.in_ok-write_new_office.ensures c.in_err-add_both.ensures

pub returns-in_err-add_both-2 : goal.returns-in_err-add_both-2
returns-in_err-add_both-2 g c = alters_cut c.from_residual-in_err-add_both-2.ensures.1 (alters_after c.in_ok-write_new_office.ensures c.in_ok-add_both.ensures) c.in_err-add_both-2.ensures

pub returns-in_err-add_both-3 : goal.returns-in_err-add_both-3
returns-in_err-add_both-3 g c = alters_cut c.from_residual-in_err-add_both-3.ensures.1
    (alters_after (alters_after c.in_ok-write_new_office.ensures c.in_ok-add_both.ensures) c.in_ok-add_both-2.ensures) c.in_err-add_both-3.ensures

pub returns-in_err-add_both-4 : goal.returns-in_err-add_both-4
returns-in_err-add_both-4 g c = alters_cut c.from_residual-in_err-add_both-4.ensures.1
    (alters_after (alters_after (alters_after c.in_ok-write_new_office.ensures c.in_ok-add_both.ensures) c.in_ok-add_both-2.ensures) c.in_ok-add_both-3.ensures) c.in_err-add_both-4.ensures

pub returns : goal.returns
returns g c =
    let contests = alters_sees c.in_ok-write_new_office.ensures (rw (c.deref.ensures.value, c.deref-2.ensures.value) at c.in_ok-add_both.ensures) in
    let batches = alters_sees contests (rw (c.deref-3.ensures.value, c.deref-4.ensures.value) at c.in_ok-add_both-2.ensures) in
    let papers = alters_sees batches (rw (c.deref-5.ensures.value, c.deref-6.ensures.value) at c.in_ok-add_both-3.ensures) in
    let records = alters_sees papers (rw (c.deref-7.ensures.value, c.deref-8.ensures.value) at c.in_ok-add_both-4.ensures) in
    let all = alters_sees records (rw (c.deref-9.ensures.value, c.deref-10.ensures.value) at c.add_both-5.ensures) in
    alters_told all (λ x sees. (x, sees, λ given. sees_same _ _ (state g.S.Store c.add_both-5.new.tx.conn.now) (whole_put c.args.rows.now) given))
