-- Proof that `load_sheet` meets its contract.
use Rattle.std.proofs.Common.{rules, ◌≡◌, ◌∙◌, Option, Some, true, false, not, is_some, option_map, ap, sym, subst, refl, true≢false}
use Rattle.register.specs.Offices.{WardEntry}
use Rattle.register.specs.Elections.{election_of}
use Rattle.tables.specs.declared.fault.Fault.TheVariants.{Store}
use Rattle.store.specs.Elections.{IsContestAt, IsSheetFor}
use Rattle.store.proofs.ElectionLemmas.{in_count_told, bare_sheet}
use Rattle.store.proofs.LoadsLemmas.{loads_as, loads_both, loads_cut, loads_stopped}
use Rattle.store.proofs.storage.Store.load_sheet.Goals as goal

pub returns-then-not-is_in_count : goal.returns-then-not-is_in_count
returns-then-not-is_in_count g c =
    loads_as c.in_ok-found.ensures
    (λ s is told.
    let contest = c.in-Some.contest in
    let it : IsContestAt s c.args.ward (Some contest) = rw c.in-Some.is at told in
    let no : c.is_in_count.result ≡ false = search rules in
    bare_sheet s c.args.ward contest it (in_count_told s contest _ _ c.deref.ensures.value it.1 c.is_in_count.ensures ∙ no) _ refl)

pub returns : goal.returns
returns g c =
    loads_as (loads_both c.in_ok-found.ensures c.in_ok-sheet.ensures)
    (λ s is told.
    let contest = c.in-Some.contest in
    let it : IsContestAt s c.args.ward (Some contest) = rw c.in-Some.is at told.0 in
    let yes : c.is_in_count.result ≡ true = search rules in
    subst (λ (o : Option WardEntry). IsSheetFor (option_map (election_of s) o) c.in_ok-sheet.sheet) (sym it.0)
    (told.1 it.1 (in_count_told s contest _ _ c.deref.ensures.value it.1 c.is_in_count.ensures ∙ yes)))

pub returns-then-is_none : goal.returns-then-is_none
returns-then-is_none g c =
    loads_stopped {f = Store} refl (loads_both c.in_ok-found.ensures c.in_ok-sheet.ensures)
    (λ s is told.
    let contest = c.in-Some.contest in
    let it : IsContestAt s c.args.ward (Some contest) = rw c.in-Some.is at told.0 in
    let yes : c.is_in_count.result ≡ true = search rules in
    let found = told.1 it.1 (in_count_told s contest _ _ c.deref.ensures.value it.1 c.is_in_count.ensures ∙ yes) in
    let none : c.is_none.result ≡ true = search rules in
    absurd (true≢false (sym (ap is_some found.1) ∙ c.is_none.ensures ∙ ap not none)))

pub returns-in_err-sheet : goal.returns-in_err-sheet
returns-in_err-sheet g c = loads_cut c.from_residual-in_err-sheet.ensures.1 c.in_ok-found.ensures c.in_err-sheet.ensures
