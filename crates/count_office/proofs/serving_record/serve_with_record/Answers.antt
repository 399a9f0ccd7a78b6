-- Proof that `serve_with_record` meets its contract, once the record was begun.
use Rattle.std.proofs.Common.{◌≡◌, false, inr, subst}
use Rattle.std.specs.Prelude.{IfOk}
use Rattle.count_office.specs.Records.{has_failed}
use Rattle.count_office.proofs.serving_record.serve_with_record.Goals as goal

pub returns : goal.returns
returns g c = inr (
  c.begin-begun.result.1,
  c.in-Ok.recorder,
  c.serve-status.result.2,
  c.begin-begun.ensures.reads,
  subst (λ begun. IfOk begun (λ its. has_failed its ≡ false)) c.in-Ok.is c.begin-begun.ensures.whole,
  c.serve-status.ensures,
)
