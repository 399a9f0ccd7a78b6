-- Proof that `check_row` meets its contract.
use Rattle.std.proofs.Common.{◌≡◌, pos, ◌<ℤ◌, arith, rules, FitsSigned, w64}
use Rattle.std.proofs.lemmas.Int.{ints}
use Rattle.store.specs.EntryRows.{this_version}
use Rattle.store.proofs.TellLemmas.{above_this, version_shown}
use Rattle.store.proofs.opening.check_row.Goals as goal

pub returns-then-version-from-2-clause-told : goal.returns-then-version-from-2-clause-told
returns-then-version-from-2-clause-told c =
    let fits : FitsSigned w64 c.in_ok-version.version = search rules in
    let above : pos this_version <ℤ c.in_ok-version.version = omega (arith, ints, fits) in
    let one : c.in_ok-one.one ≡ pos 1 = omega (arith, ints) in
    let n = above_this c.in_ok-version.version above in
    (n.0, n.2, version_shown c.args.row.now c.in_ok-one.one c.in_ok-version.version n.0 c.in_ok-one.ensures.integer c.in_ok-version.ensures.integer one n.1)
