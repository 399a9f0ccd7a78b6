-- Proof that `have_same_papers` meets its contract.
use Rattle.std.proofs.Common.{Some, None, ◌∙◌}
use Rattle.std.proofs.lemmas.Bool.{cond-true}
use Rattle.register.specs.Offices.{batch_entry}
use Rattle.register.specs.Agreement.{is_taken}
use Rattle.store.specs.Overviews.{pile_text_of}
use Rattle.store.proofs.LoadsLemmas.{loads_as, loads_both, loads_cut}
use Rattle.store.proofs.storage.Store.have_same_papers.Goals as goal

pub returns : goal.returns
returns g c =
    let b = batch_entry c.args.one.now in
    let d = batch_entry c.args.other.now in
    loads_as (loads_both c.in_ok-own.ensures c.in_ok-others.ensures)
    (λ s is told. λ taken too.
    c.same_texts.ensures (pile_text_of s b) (pile_text_of s d) (told.0 ∙ cond-true (is_taken s b) (Some (pile_text_of s b)) None taken)
    (told.1 ∙ cond-true (is_taken s d) (Some (pile_text_of s d)) None too))

pub returns-in_err-others : goal.returns-in_err-others
returns-in_err-others g c = loads_cut c.from_residual-in_err-others.ensures.1 c.in_ok-own.ensures c.in_err-others.ensures
