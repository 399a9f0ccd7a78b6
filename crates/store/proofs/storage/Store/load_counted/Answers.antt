-- Proof that `load_counted` meets its contract.
use Rattle.std.proofs.Common.{rules, ◌≡◌, ◌∙◌, Option, Some, true, false, not, is_some, option_map, ap, sym, subst, refl, true≢false}
use Rattle.register.specs.Offices.{WardEntry}
use Rattle.register.specs.Elections.{election_of}
use Rattle.tables.specs.declared.fault.Fault.TheVariants.{Store}
use Rattle.store.specs.Elections.{election_in, IsContestAt, IsCountedInFor}
use Rattle.store.proofs.ElectionLemmas.{in_count_told, in_count_contested, found_counted, bare_in_count}
use Rattle.store.proofs.LoadsLemmas.{loads_as, loads_both, loads_cut, loads_stopped}
use Rattle.store.proofs.storage.Store.load_counted.Goals as goal

pub returns-then-not-is_in_count : goal.returns-then-not-is_in_count
returns-then-not-is_in_count g c =
    loads_as c.in_ok-found.ensures
    (λ s is told.
    let contest = c.in-Some.contest in
    let it : IsContestAt s c.args.ward (Some contest) = rw c.in-Some.is at told in
    let no : c.is_in_count.result ≡ false = search rules in
    bare_in_count s c.args.ward contest it (in_count_told s contest _ _ c.deref.ensures.value it.1 c.is_in_count.ensures ∙ no))

pub returns : goal.returns
returns g c =
    loads_as (loads_both c.in_ok-found.ensures c.in_ok-counted.ensures)
    (λ s is told.
    let contest = c.in-Some.contest in
    let e = election_in s contest in
    let it : IsContestAt s c.args.ward (Some contest) = rw c.in-Some.is at told.0 in
    let yes : c.is_in_count.result ≡ true = search rules in
    let counted = in_count_told s contest _ _ c.deref.ensures.value it.1 c.is_in_count.ensures ∙ yes in
    subst (λ (o : Option WardEntry). IsCountedInFor (option_map (election_of s) o) c.in_ok-counted.counted) (sym it.0)
    (found_counted e c.in_ok-counted.counted counted (told.1 it.1 (in_count_contested e counted))))

pub returns-then-is_none : goal.returns-then-is_none
returns-then-is_none g c =
    loads_stopped {f = Store} refl (loads_both c.in_ok-found.ensures c.in_ok-counted.ensures)
    (λ s is told.
    let contest = c.in-Some.contest in
    let it : IsContestAt s c.args.ward (Some contest) = rw c.in-Some.is at told.0 in
    let yes : c.is_in_count.result ≡ true = search rules in
    let counted = in_count_told s contest _ _ c.deref.ensures.value it.1 c.is_in_count.ensures ∙ yes in
    let found = told.1 it.1 (in_count_contested (election_in s contest) counted) in
    let none : c.is_none.result ≡ true = search rules in
    absurd (true≢false (sym (ap is_some found.1) ∙ c.is_none.ensures ∙ ap not none)))

pub returns-in_err-counted : goal.returns-in_err-counted
returns-in_err-counted g c = loads_cut c.from_residual-in_err-counted.ensures.1 c.in_ok-found.ensures c.in_err-counted.ensures
