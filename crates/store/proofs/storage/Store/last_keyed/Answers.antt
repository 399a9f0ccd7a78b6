-- Proof that `last_keyed` meets its contract.
use Rattle.std.proofs.Common.{◌≡◌, true, false, List, map, Some, refl, sym, ap, ◌∙◌, arith}
use Rattle.register.specs.Offices.{KeyedEntry, keyed_entry, keying_of}
use Rattle.register.specs.Agreement.{is_keyed}
use Rattle.store.specs.EarlierKeyings.{last_keyed}
use Rattle.store.proofs.EarlierLemmas.{keyed_here, keyed_before}
use Rattle.store.proofs.LoadsLemmas.{loads_none, loads_as, loads_both, loads_cut}
use Rattle.store.proofs.storage.Store.last_keyed.Goals as goal

pub loop-round-init : goal.loop-round-init
loop-round-init g c = loads_none c.requires (λ s is. refl)

pub loop-round-preserved : goal.loop-round-preserved
loop-round-preserved g c = loads_as (loads_both c.loop-round.invariant c.in_ok-papers.ensures)
    (λ s is told.
    let not_keyed : is_keyed (keying_of s c.args.batch c.loop-round.round c.args.clerk) ≡ false =
    ap is_keyed (sym told.1) ∙ ap (λ ks. is_keyed (map keyed_entry ks)) (sym c.deref.ensures.value) ∙ sym c.is_keyed.ensures ∙ c.if-is_keyed.false in
    told.0 ∙ keyed_before s c.args.batch c.args.clerk c.loop-round.round c.loop-round-test.true not_keyed)

pub returns-then-is_keyed : goal.returns-then-is_keyed
returns-then-is_keyed g c = loads_as (loads_both c.loop-round.invariant c.in_ok-papers.ensures)
    (λ s is told.
    let keyed : is_keyed (keying_of s c.args.batch c.loop-round.round c.args.clerk) ≡ true =
    ap is_keyed (sym told.1) ∙ ap (λ ks. is_keyed (map keyed_entry ks)) (sym c.deref.ensures.value) ∙ sym c.is_keyed.ensures ∙ c.if-is_keyed.true in
    ap (λ (ks : List KeyedEntry). Some (record { round = c.loop-round.round; papers = ks })) told.1
    ∙ keyed_here s c.args.batch c.args.clerk c.loop-round.round c.loop-round-test.true keyed
    ∙ sym told.0)

pub returns-in_err-papers : goal.returns-in_err-papers
returns-in_err-papers g c = loads_cut c.from_residual.ensures.1 c.loop-round.invariant c.in_err-papers.ensures

pub returns : goal.returns
returns g c = loads_as c.loop-round.invariant
    (λ s is told.
    let none : c.loop-round.round ≡ 0 = omega (arith, c.loop-round-test.false) in
    sym (told ∙ ap (last_keyed s c.args.batch c.args.clerk) none))
