-- Proof that `sheet_in_count` meets its contract.
use Rattle.std.proofs.Common.{rules, ◌≡◌}
use Rattle.store.specs.Elections.{election_in}
use Rattle.store.proofs.ElectionLemmas.{in_count_contested, begin_sheet}
use Rattle.store.proofs.LoadsLemmas.{loads_told}
use Rattle.store.proofs.storage.Store.sheet_in_count.Goals as goal

pub returns-then-contest-eq0 : goal.returns-then-contest-eq0
returns-then-contest-eq0 g c =
    let fresh : c.args.contest.ward.done ≡ 0 = search rules in
    loads_told c.begin_sheet.ensures (λ s found told there counted. let e = election_in s c.args.contest in begin_sheet e found counted (told there (in_count_contested e counted) fresh))

pub returns-else-contest-eq0 : goal.returns-else-contest-eq0
returns-else-contest-eq0 g c =
    let some : c.args.contest.ward.done ≡ 0 → ⊥ = search rules in
    loads_told c.resume_sheet.ensures (λ s found told there counted. told there counted some)
