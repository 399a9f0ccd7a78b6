-- Proof that `clerk_under` meets its contract.
use Rattle.std.proofs.Common.{◌-◌, drop, length, take}
use Rattle.wire.proofs.AuthenticationLemmas.{digits-text}
use Rattle.wire.proofs.authentication.clerk_under.Goals as goal

pub returns-in-Err : goal.returns-in-Err
returns-in-Err c =
    let target = c.args.target.now in
    absurd (c.in-Err.ensures.cases.0 (rw c.digits_length-length.ensures.is (digits-text (take (length target - 8) (drop 8 target)))))
