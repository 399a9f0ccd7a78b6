-- Proof that `answer_wards` meets its contract.
use Rattle.std.proofs.Common.{List, map, subst, sym}
use Rattle.store.specs.Overviews.{WardView, ward_view}
use Rattle.wire.specs.PublicReplies.{screen_of}
use Rattle.wire.specs.Serving.{IsReadTold, data_response}
use Rattle.wire.proofs.PublicLemmas.{screen-float}
use Rattle.wire.proofs.public.answer_wards.Goals as goal

pub returns-in-Ok : goal.returns-in-Ok
returns-in-Ok c =
    subst (λ told. IsReadTold (λ (views : List WardView). data_response (screen_of c.args.title.now views)) (λ wards. map ward_view wards.items) told c.valued.result) (sym c.in-Ok.is)
    (c.valued.ensures (screen_of c.args.title.now (map ward_view c.in-Ok.wards.items)) (screen-float c.args.title.now (map ward_view c.in-Ok.wards.items))
    (rw c.deref.ensures.value at c.screen_value.ensures))
