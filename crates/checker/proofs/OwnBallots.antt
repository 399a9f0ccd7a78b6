-- Checking a text against the ballots of a ward has the same result as comparing it with that ward.
use Rattle.std.proofs.Common.{◌≡◌, ◌∙◌, ℕ, List, refl, sym, subst, Ok}
use Rattle.std.specs.Prelude.{Option, Some, None}
use Rattle.count.specs.Bundles.{Bundle}
use Rattle.sheet.specs.Ballots.{ballots}
use Rattle.sheet.specs.Entries.{SheetEntry}
use Rattle.sheet.specs.declared.ward.Poll.{Poll}
use Rattle.checker.specs.Checks.{Hinders, IsChecked, IsProblem, IsWardCheck, IsWardProblem}
use Rattle.checker.specs.Reading.{ReaderEntry, read}
use Rattle.checker.specs.BallotsRoundTrip.{CanBeReadBack, IsReadBack}
use Rattle.checker.specs.Wards.{ward_told}
use Rattle.checker.specs.declared.differences.Checked.{Checked}
use Rattle.checker.specs.declared.problem.Problem.{Problem}
use Rattle.checker.specs.declared.problem.Problem.TheVariants as problem
use Rattle.checker.proofs.ReadBackLaws.{ballots_back}

-- a fact about the ward in a file is a fact about the ward whose ballots the file contains
told_of_own : (P : SheetEntry → List Bundle → List (ℕ × ℕ) → Type 0) (ward : SheetEntry) (bundles : List Bundle) (lots : List (ℕ × ℕ)) (back : IsReadBack ward bundles lots) (reading : ReaderEntry) →
    read (ballots ward bundles lots) ≡ Ok reading
    → P (ward_told reading) reading.papers.bundles reading.remarks.lots → P ward bundles lots
told_of_own P ward bundles lots back reading understood told =
    let same : reading ≡ back.reading = cc (sym understood ∙ back.understood) in
    let own = subst (λ (r : ReaderEntry). P (ward_told r) r.papers.bundles r.remarks.lots) same told in
    subst (λ w. P w bundles lots) back.ward_is (subst (λ bs. P (ward_told back.reading) bs lots) back.bundles_are
    (subst (λ ls. P (ward_told back.reading) back.reading.papers.bundles ls) back.lots_are own))

-- so the result of checking a text is the same
pub own_check : (ward : SheetEntry) (bundles : List Bundle) (lots : List (ℕ × ℕ)) → CanBeReadBack ward bundles lots → (text : List ℕ) (checked : Checked) →
    IsChecked (ballots ward bundles lots) text checked → IsWardCheck ward.poll ward bundles lots text checked
own_check ward bundles lots can text checked is =
    told_of_own (λ w bs ls. IsWardCheck w.poll w bs ls text checked) ward bundles lots (ballots_back ward bundles lots can) is.reading is.understood is.compared

own_hindered : (ward : SheetEntry) (bundles : List Bundle) (lots : List (ℕ × ℕ)) (back : IsReadBack ward bundles lots) (why : Problem) → Hinders (ballots ward bundles lots) why →
    IsWardProblem ward.poll ward bundles lots why
own_hindered ward bundles lots back why is =
    told_of_own (λ w bs ls. IsWardProblem w.poll w bs ls why) ward bundles lots back is.reading is.understood is.hinders

memory_so : (poll : Option Poll) (ward : SheetEntry) (bundles : List Bundle) (lots : List (ℕ × ℕ)) → IsWardProblem poll ward bundles lots problem.Memory
memory_so None ward bundles lots = refl
memory_so (Some poll) ward bundles lots = tt

-- and a problem is a problem of the count
pub own_problem : (ward : SheetEntry) (bundles : List Bundle) (lots : List (ℕ × ℕ)) → CanBeReadBack ward bundles lots → (why : Problem) → IsProblem (ballots ward bundles lots) why →
    IsWardProblem ward.poll ward bundles lots why
own_problem ward bundles lots can (problem.Line line flaw) is = absurd (cc (sym is ∙ (ballots_back ward bundles lots can).understood))
own_problem ward bundles lots can problem.NoContest is = own_hindered ward bundles lots (ballots_back ward bundles lots can) problem.NoContest is
own_problem ward bundles lots can (problem.LotNeeded stage among) is = own_hindered ward bundles lots (ballots_back ward bundles lots can) (problem.LotNeeded stage among) is
own_problem ward bundles lots can (problem.LotNotAmong stage) is = own_hindered ward bundles lots (ballots_back ward bundles lots can) (problem.LotNotAmong stage) is
own_problem ward bundles lots can (problem.LotNotNeeded stage) is = own_hindered ward bundles lots (ballots_back ward bundles lots can) (problem.LotNotNeeded stage) is
own_problem ward bundles lots can problem.Memory is = memory_so ward.poll ward bundles lots
