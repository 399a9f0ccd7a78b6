-- Proof that `own_work` meets its contract.
use Rattle.std.proofs.Common.{◌≡◌, ◌&&◌, Bool, true, false, Some, None, sym, ap, ◌∙◌}
use Rattle.std.proofs.Math.Bool.{and-false}
use Rattle.std.proofs.lemmas.Bool.{and_from, cond-true, cond-false}
use Rattle.register.specs.declared.phase.Phase.TheVariants.{Keying}
use Rattle.register.specs.Offices.{batch_entry, ward_at, third_at}
use Rattle.register.specs.Agreement.{is_its_clerk}
use Rattle.register.specs.CommandInputs.{is_in_phase}
use Rattle.register.specs.Status.{is_work, work_on}
use Rattle.store.proofs.LoadsLemmas.{loads_as, loads_both, loads_cut}
use Rattle.store.proofs.storage.Store.own_work.Goals as goal

pub returns : goal.returns
returns g c =
    let b = batch_entry c.args.batch.now in
    loads_as (loads_both (loads_both c.in_ok-third.ensures c.in_ok-ward.ensures) c.in_ok-work.ensures)
    (λ s is told.
    let its : is_its_clerk c.args.clerk b (third_at s b.number) ≡ true = ap (is_its_clerk c.args.clerk b) (sym told.0.0) ∙ sym c.is_its_clerk.ensures ∙ c.if-not-is_its_clerk.false in
    let in_keying : is_in_phase Keying (ward_at s b.ward) ≡ true = ap (is_in_phase Keying) (sym told.0.1) ∙ sym c.is_in_keying.ensures ∙ c.if-not-is_in_keying.false in
    ap Some told.1 ∙ sym (cond-true (is_work s c.args.clerk b) (Some (work_on s c.args.clerk b)) None (and_from _ _ its in_keying)))

pub returns-then-not-is_its_clerk : goal.returns-then-not-is_its_clerk
returns-then-not-is_its_clerk g c =
    let b = batch_entry c.args.batch.now in
    loads_as c.in_ok-third.ensures
    (λ s is told.
    let its_not : is_its_clerk c.args.clerk b (third_at s b.number) ≡ false = ap (is_its_clerk c.args.clerk b) (sym told) ∙ sym c.is_its_clerk.ensures ∙ c.if-not-is_its_clerk.true in
    sym (cond-false (is_work s c.args.clerk b) (Some (work_on s c.args.clerk b)) None (ap (λ (q : Bool). q && is_in_phase Keying (ward_at s b.ward)) its_not)))

pub returns-then-not-is_in_keying : goal.returns-then-not-is_in_keying
returns-then-not-is_in_keying g c =
    let b = batch_entry c.args.batch.now in
    loads_as (loads_both c.in_ok-third.ensures c.in_ok-ward.ensures)
    (λ s is told.
    let keyed_not : is_in_phase Keying (ward_at s b.ward) ≡ false = ap (is_in_phase Keying) (sym told.1) ∙ sym c.is_in_keying.ensures ∙ c.if-not-is_in_keying.true in
    sym (cond-false (is_work s c.args.clerk b) (Some (work_on s c.args.clerk b)) None (ap (λ (q : Bool). is_its_clerk c.args.clerk b (third_at s b.number) && q) keyed_not ∙ and-false _)))

pub returns-in_err-ward : goal.returns-in_err-ward
returns-in_err-ward g c = loads_cut c.from_residual-in_err-ward.ensures.1 c.in_ok-third.ensures c.in_err-ward.ensures

pub returns-in_err-work : goal.returns-in_err-work
returns-in_err-work g c = loads_cut c.from_residual-in_err-work.ensures.1 (loads_both c.in_ok-third.ensures c.in_ok-ward.ensures) c.in_err-work.ensures
