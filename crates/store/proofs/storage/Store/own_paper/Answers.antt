-- Proof that `own_paper` meets its contract.
use Rattle.std.proofs.Common.{◌≡◌, List, true, false, Some, None, option_map, sym, ap, ◌∙◌}
use Rattle.std.proofs.lemmas.Bool.{cond-true, cond-false}
use Rattle.register.specs.Offices.{CandidateEntry, batch_entry, ward_entry, ward_at, third_at}
use Rattle.register.specs.Agreement.{is_its_clerk}
use Rattle.register.specs.Status.{paper_of}
use Rattle.store.proofs.LoadsLemmas.{loads_as, loads_both, loads_cut}
use Rattle.store.proofs.storage.Store.own_paper.Goals as goal

pub returns : goal.returns
returns g c =
    let b = batch_entry c.args.batch.now in
    let w = ward_entry c.in-Some.ward in
    loads_as (loads_both (loads_both c.in_ok-third.ensures c.in_ok-found.ensures) c.in_ok-candidates.ensures)
    (λ s is told.
    let its : is_its_clerk c.args.clerk b (third_at s b.number) ≡ true = ap (is_its_clerk c.args.clerk b) (sym told.0.0) ∙ sym c.is_its_clerk.ensures ∙ c.if-not-is_its_clerk.false in
    let there : Some w ≡ ward_at s b.ward = rw c.in-Some.is at told.0.1 in
    ap (λ (cs : List CandidateEntry). Some (record (paper_of s w) { candidates = cs })) told.1
    ∙ ap (option_map (paper_of s)) there
    ∙ sym (cond-true (is_its_clerk c.args.clerk b (third_at s b.number)) (option_map (paper_of s) (ward_at s b.ward)) None its))

pub returns-then-not-is_its_clerk : goal.returns-then-not-is_its_clerk
returns-then-not-is_its_clerk g c =
    let b = batch_entry c.args.batch.now in
    loads_as c.in_ok-third.ensures
    (λ s is told.
    let its_not : is_its_clerk c.args.clerk b (third_at s b.number) ≡ false = ap (is_its_clerk c.args.clerk b) (sym told) ∙ sym c.is_its_clerk.ensures ∙ c.if-not-is_its_clerk.true in
    sym (cond-false (is_its_clerk c.args.clerk b (third_at s b.number)) (option_map (paper_of s) (ward_at s b.ward)) None its_not))

pub returns-in_err-found : goal.returns-in_err-found
returns-in_err-found g c = loads_cut c.from_residual-in_err-found.ensures.1 c.in_ok-third.ensures c.in_err-found.ensures

pub returns-in_err-candidates : goal.returns-in_err-candidates
returns-in_err-candidates g c = loads_cut c.from_residual-in_err-candidates.ensures.1 (loads_both c.in_ok-third.ensures c.in_ok-found.ensures) c.in_err-candidates.ensures
