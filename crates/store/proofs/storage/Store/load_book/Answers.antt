-- Proof that `load_book` meets its contract.
use Rattle.std.proofs.Common.{rules, ◌≡◌, ◌∙◌, Option, Some, None, true, false, option_map, sym, subst}
use Rattle.register.specs.Offices.{WardEntry}
use Rattle.register.specs.Elections.{election_of}
use Rattle.store.specs.Elections.{election_in, IsContestAt, IsCountIfBegunFor}
use Rattle.store.proofs.ElectionLemmas.{contested_told, begun_stages, book_found, uncontested_bare, fresh_bare}
use Rattle.store.proofs.LoadsLemmas.{loads_as, loads_both, loads_cut}
use Rattle.store.proofs.storage.Store.load_book.Goals as goal

pub returns-then-not-is_contested : goal.returns-then-not-is_contested
returns-then-not-is_contested g c =
    loads_as c.in_ok-found.ensures
    (λ s is told.
    let contest = c.in-Some.contest in
    let it : IsContestAt s c.args.ward (Some contest) = rw c.in-Some.is at told in
    let no : c.is_contested.result ≡ false = search rules in
    let none = uncontested_bare (election_in s contest) (contested_told s contest _ _ c.deref.ensures.value it.1 c.is_contested.ensures ∙ no) in
    subst (λ (o : Option WardEntry). IsCountIfBegunFor (option_map (election_of s) o) None) (sym it.0) none)

pub returns-then-contest-eq0 : goal.returns-then-contest-eq0
returns-then-contest-eq0 g c =
    loads_as c.in_ok-found.ensures
    (λ s is told.
    let contest = c.in-Some.contest in
    let it : IsContestAt s c.args.ward (Some contest) = rw c.in-Some.is at told in
    let fresh : contest.ward.done ≡ 0 = search rules in
    subst (λ (o : Option WardEntry). IsCountIfBegunFor (option_map (election_of s) o) None) (sym it.0) (fresh_bare (election_in s contest) fresh))

pub returns : goal.returns
returns g c =
    loads_as (loads_both c.in_ok-found.ensures c.in_ok-count.ensures)
    (λ s is told.
    let contest = c.in-Some.contest in
    let e = election_in s contest in
    let it : IsContestAt s c.args.ward (Some contest) = rw c.in-Some.is at told.0 in
    let yes : c.is_contested.result ≡ true = search rules in
    let some : contest.ward.done ≡ 0 → ⊥ = search rules in
    let begun = begun_stages e (contested_told s contest _ _ c.deref.ensures.value it.1 c.is_contested.ensures ∙ yes) some in
    subst (λ (o : Option WardEntry). IsCountIfBegunFor (option_map (election_of s) o) c.in_ok-count.count) (sym it.0) (book_found e c.in_ok-count.count begun (told.1 it.1 begun)))

pub returns-in_err-count : goal.returns-in_err-count
returns-in_err-count g c = loads_cut c.from_residual-in_err-count.ensures.1 c.in_ok-found.ensures c.in_err-count.ensures
