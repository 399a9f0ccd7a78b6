-- Proof that `ward_page_by` meets its contract.
use Rattle.std.proofs.Common.{sym}
use Rattle.wire.proofs.PublicTargetLemmas.{of-page}
use Rattle.wire.proofs.public_target.ward_page_by.Goals as goal

pub returns-then-starts_with : goal.returns-then-starts_with
returns-then-starts_with c = of-page c.args.target.now c.page_after_prefix.result (sym c.if-starts_with.ensures.value) c.page_after_prefix.ensures
