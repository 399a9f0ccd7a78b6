-- Proof that `read_body` meets its contract.
use Rattle.std.proofs.Common.{rules, ◌≡◌, ◌∙◌, ◌≤◌, ◌+◌, length, take, ap, sym}
use Rattle.std.proofs.lemmas.List.{length-take-le}
use Rattle.wire.proofs.BodyLemmas.{back_filled, body_in-cut, body_in-whole, one_of_min}
use Rattle.wire.proofs.body.read_body.Goals as goal

pub returns-then-branch-clause-body : goal.returns-then-branch-clause-body
returns-then-branch-clause-body g c =
    let buffer = c.deref_mut.result.now in
    let full : length buffer ≡ c.args.size = search rules in
    let len : c.in_ok-body.body.len ≡ c.args.size = search rules in
    let fits : c.min-front.result + length c.fill.new.room ≡ c.args.size = search rules in
    let within : c.min-front.result ≤ length c.args.behind.now = search rules in
    let begins : take (length (take c.min-front.result c.args.behind.now)) buffer ≡ take c.min-front.result c.args.behind.now = search rules in
    let own = ap (λ n. take n buffer) (length-take-le c.min-front.result c.args.behind.now within) in
    body_in-whole _ _ _ c.fill.new.room _ c.min-front.result c.args.size (back_filled _ _ _ _ _ c.args.size _ len full fits (sym own ∙ begins)) within fits
    (one_of_min _ _ _ c.min-front.ensures) (c.in_ok-fill.ensures.full c.if-branch.true)

pub returns-else-branch-clause-body : goal.returns-else-branch-clause-body
returns-else-branch-clause-body g c =
    let fits : c.min-front.result + length c.fill.new.room ≡ c.args.size = search rules in
    body_in-cut _ _ c.fill.new.room c.min-front.result c.args.size fits (one_of_min _ _ _ c.min-front.ensures) (c.in_ok-fill.ensures.cut c.if-branch.false)
