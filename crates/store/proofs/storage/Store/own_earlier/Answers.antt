-- Proof that `own_earlier` meets its contract.
use Rattle.std.proofs.Common.{◌≡◌, ℕ, true, false, ◌-◌, Option, Some, None, sym, ap, ◌∙◌}
use Rattle.std.proofs.lemmas.Bool.{cond-true, cond-false}
use Rattle.register.specs.Offices.{batch_entry, third_at}
use Rattle.register.specs.Agreement.{is_its_clerk}
use Rattle.store.specs.EarlierKeyings.{last_keyed}
use Rattle.store.proofs.LoadsLemmas.{loads_as, loads_both, loads_cut}
use Rattle.store.proofs.storage.Store.own_earlier.Goals as goal

pub returns : goal.returns
returns g c =
    let b = batch_entry c.args.batch.now in
    loads_as (loads_both c.in_ok-third.ensures c.in_ok-keyed.ensures)
    (λ s is told.
    let its : is_its_clerk c.args.clerk b (third_at s b.number) ≡ true = ap (is_its_clerk c.args.clerk b) (sym told.0) ∙ sym c.is_its_clerk.ensures ∙ c.if-not-is_its_clerk.false in
    ap Some (told.1 ∙ ap (last_keyed s b.number c.args.clerk) c.saturating_sub-rounds.ensures)
    ∙ sym (cond-true (is_its_clerk c.args.clerk b (third_at s b.number)) (Some (last_keyed s b.number c.args.clerk (b.round - 1))) None its))

pub returns-then-not-is_its_clerk : goal.returns-then-not-is_its_clerk
returns-then-not-is_its_clerk g c =
    let b = batch_entry c.args.batch.now in
    loads_as c.in_ok-third.ensures
    (λ s is told.
    let its_not : is_its_clerk c.args.clerk b (third_at s b.number) ≡ false = ap (is_its_clerk c.args.clerk b) (sym told) ∙ sym c.is_its_clerk.ensures ∙ c.if-not-is_its_clerk.true in
    sym (cond-false (is_its_clerk c.args.clerk b (third_at s b.number)) (Some (last_keyed s b.number c.args.clerk (b.round - 1))) None its_not))

pub returns-in_err-keyed : goal.returns-in_err-keyed
returns-in_err-keyed g c = loads_cut c.from_residual-in_err-keyed.ensures.1 c.in_ok-third.ensures c.in_err-keyed.ensures
