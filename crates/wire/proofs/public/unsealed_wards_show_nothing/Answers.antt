-- Proof that `unsealed_wards_show_nothing` meets its contract.
use Rattle.wire.proofs.PublicLawLemmas.{AlikeShowAlike-all, ListsUnsealed-all, RestsOnWards-all}
use Rattle.wire.proofs.public.unsealed_wards_show_nothing.Goals as goal

pub returns-clause-alike : goal.returns-clause-alike
returns-clause-alike c = AlikeShowAlike-all

pub returns-clause-wards : goal.returns-clause-wards
returns-clause-wards c = RestsOnWards-all

pub returns-clause-unsealed : goal.returns-clause-unsealed
returns-clause-unsealed c = ListsUnsealed-all
