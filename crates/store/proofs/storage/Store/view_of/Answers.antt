-- Proof that `view_of` meets its contract.
use Rattle.std.proofs.Common.{◌≡◌, None, true, is_some, sym, ap, ◌∙◌, true≢false}
use Rattle.register.specs.Offices.{receipt_entry, receipt_at}
use Rattle.store.proofs.WorkLemmas.{found_alike}
use Rattle.store.proofs.LoadsLemmas.{loads_as, loads_both, loads_cut}
use Rattle.store.proofs.storage.Store.view_of.Goals as goal

pub returns-then-is_some-clause-told : goal.returns-then-is_some-clause-told
returns-then-is_some-clause-told g c =
    loads_as c.in_ok-receipt.ensures
    (λ s is told.
    let there : is_some c.in_ok-receipt.receipt ≡ true = sym c.is_some.ensures ∙ c.if-is_some.true in
    let known : receipt_at s c.args.actor c.args.id.now ≡ None → ⊥ = λ none. true≢false (sym there ∙ found_alike receipt_entry c.in_ok-receipt.receipt _ told ∙ ap is_some none) in
    record { receipt = told; part = λ none. absurd (known none); count = λ none. absurd (known none) })

pub returns-clause-told : goal.returns-clause-told
returns-clause-told g c = loads_as (loads_both c.in_ok-receipt.ensures c.in_ok-part.ensures) (λ s is told. record { receipt = told.0; part = λ none. told.1.0; count = λ none. told.1.1 })

pub returns-in_err-part-clause-told : goal.returns-in_err-part-clause-told
returns-in_err-part-clause-told g c = loads_cut c.from_residual-in_err-part.ensures.1 c.in_ok-receipt.ensures c.in_err-part.ensures
