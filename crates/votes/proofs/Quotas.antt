-- The computed quota is the smallest number of votes that more candidates than there are seats can't all reach.
use Rattle.std.proofs.Common.{ℕ, ◌+◌, ◌/◌, arith}
use Rattle.std.proofs.lemmas.Nat.{div-add-mod', div_below}
use Rattle.votes.specs.Units.{IsQuota, quota_of}

-- the computed quota satisfies the definition of the quota
pub quota_of-IsQuota : (papers seats : ℕ) → IsQuota papers seats (quota_of papers seats)
quota_of-IsQuota papers seats = record {
  votes = papers / (seats + 1) + 1;
  whole = omega arith;
  least = record {
    holds = omega (arith, div-add-mod' papers (seats + 1));
    least = λ q enough. let below = div_below papers (seats + 1) q (omega arith) enough in omega (arith, below);
  };
}
