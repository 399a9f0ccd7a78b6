-- Proof of the law of an office that takes the place of another: the mended list leads to the state at which it was opened.
use Rattle.std.proofs.Common.{subst}
use Rattle.register.specs.Machine.{after}
use Rattle.register.specs.Offices.{empty_office}
use Rattle.mending.specs.Mending.{mended}
use Rattle.store.specs.Openings.{IsLeftAt}
use Rattle.count_office.proofs.serving.mended_list_is_kept.Goals as goal

pub returns : goal.returns
returns g c changes made db conn old new rests left opened settings before later most ends recorder recorder_later at_network clean =
    let sent = (mended changes).sent in
    let found = opened.at (at_network.clean clean) db rests (after empty_office sent) (subst (λ s. IsLeftAt s db) made.leads left) in
    at_network.serves.keeps clean opened.is_open sent found.at
