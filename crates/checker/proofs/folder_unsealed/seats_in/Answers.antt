-- Proof that `seats_in` meets its contract.
use Rattle.std.proofs.Common.{◌≡◌, ◌∙◌, ℕ, ap, arith, Ok, Err}
use Rattle.std.specs.Prelude.{Result}
use Rattle.checker.specs.Numbers.{number_in}
use Rattle.checker.specs.declared.problem.BallotsFlaw.{BallotsFlaw}
use Rattle.checker.proofs.NumberLaws.{number_back}
use Rattle.checker.proofs.folder_unsealed.seats_in.Goals as goal

same_number : (r : Result ℕ BallotsFlaw) (m n : ℕ) → Ok m ≡ r → r ≡ Ok n → m ≡ n
same_number r m n one other = cc

no_flaw : (r : Result ℕ BallotsFlaw) (flaw : BallotsFlaw) (n : ℕ) → Err flaw ≡ r → r ≡ Ok n → ⊥
no_flaw r flaw n one other = absurd (cc)

pub returns-in-Ok : goal.returns-in-Ok
returns-in-Ok c = λ n is few. ap Ok (same_number (number_in 255 c.args.seats.now) c.in-Ok.seats n c.in-Ok.ensures.is (ap (number_in 255) is ∙ number_back 255 n (omega arith) few))

pub returns-in-Err : goal.returns-in-Err
returns-in-Err c = λ n is few. absurd (no_flaw (number_in 255 c.args.seats.now) c.in-Err.field-0 n c.in-Err.ensures.is (ap (number_in 255) is ∙ number_back 255 n (omega arith) few))
