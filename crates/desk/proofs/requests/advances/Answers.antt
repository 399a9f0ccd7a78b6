-- Proof that `advances` meets its contract: one more request is that of the next number.
use Rattle.std.proofs.Common.{◌∙◌, ◌++◌, ◌∷◌, [], ◌+◌, List, ap, sym, map, arith}
use Rattle.std.proofs.lemmas.List.{map-append}
use Rattle.std.proofs.lemmas.List.FromFn.{map-range_with_len_more}
use Rattle.desk.specs.Orders.{Sent, sent_as}
use Rattle.desk.specs.Requests.{advance_at, advances}
use Rattle.desk.proofs.requests.advances.Goals as goal

pub loop-before-preserved : goal.loop-before-preserved
loop-before-preserved c =
    let ward = c.args.ward in
    let id = c.args.id.now in
    let before = c.loop-before.before in
    ap (map sent_as) c.in_ok-push.ensures.items
    ∙ map-append sent_as c.loop-before.requests.items (c.in_ok-advance_at.field-0 ∷ [])
    ∙ ap (λ (first : List Sent). first ++ sent_as c.in_ok-advance_at.field-0 ∷ []) c.loop-before.invariant
    ∙ ap (λ (r : Sent). advances ward id before ++ r ∷ []) c.in_ok-advance_at.ensures
    ∙ sym (map-range_with_len_more (advance_at ward id) 1 before (before + 1) (omega arith))
