-- Proof that `unsealed_ward` meets its contract.
use Rattle.std.proofs.Common.{◌≡◌, ◌∙◌, ℕ, ap, refl, Ok}
use Rattle.std.specs.Prelude.{Result, string_bytes}
use Rattle.checker.specs.IndexPage.{RowEntry}
use Rattle.checker.specs.declared.folder_election.MakeFault.{MakeFault}
use Rattle.checker.proofs.FolderLemmas.{unsealed_again, unsealed_listed}
use Rattle.checker.proofs.folder_unsealed.unsealed_ward.Goals as goal

same_seats : (r : Result ℕ MakeFault) (m n : ℕ) → Ok m ≡ r → r ≡ Ok n → m ≡ n
same_seats r m n one other = cc

pub returns-clause-made : goal.returns-clause-made
returns-clause-made c =
    unsealed_listed c.from.result c.in_ok-seats.seats (string_bytes c.in_ok-name.name) c.args.is_keying c.unsealed_standing.result c.new.result.items
    c.unsealed_standing.ensures c.new.ensures.items

pub returns-clause-again : goal.returns-clause-again
returns-clause-again c = λ ward is row keying.
    unsealed_again c.from.result c.in_ok-seats.seats (string_bytes c.in_ok-name.name) c.args.is_keying c.unsealed_standing.result c.new.result.items ward
    c.unsealed_standing.ensures c.new.ensures.items (c.from.ensures ∙ ap (λ (r : RowEntry). r.number) row) (c.in_ok-name.ensures ward.name (ap (λ (r : RowEntry). r.name) row) is.name)
    (same_seats _ c.in_ok-seats.seats ward.seats refl (c.in_ok-seats.ensures ward.seats (ap (λ (r : RowEntry). r.seats) row) is.seats)) keying
