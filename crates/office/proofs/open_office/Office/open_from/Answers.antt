use Rattle.std.proofs.Common.{refl}
use Rattle.office.proofs.open_office.Office.open_from.Goals as goal

pub returns-in-Ok-clause-reopens : goal.returns-in-Ok-clause-reopens
returns-in-Ok-clause-reopens g c clean db at s left = record { is_open = refl; at = c.in-Ok.ensures.reopens clean db at s left }
