-- Proof that `flaw_of_names` meets its contract: the flaw has the first of the given names that no order has.
use Rattle.std.proofs.Common.{◌≡◌, false, not, rules, Some, get_or, sym, ap, ◌∙◌, string_bytes, arith}
use Rattle.mending.specs.Changes.{is_name_of_one}
use Rattle.mending.proofs.FirstFlaws.{first_mapped}
use Rattle.mending.proofs.checking.flaw_of_names.Goals as goal

pub returns-then-not-branch-clause-some : goal.returns-then-not-branch-clause-some
returns-then-not-branch-clause-some c =
    let orders = c.args.changes.orders.now in
    let names = c.args.changes.without.now in
    let i = c.loop-name.name-index in
    let name = c.name-item.result in
    let denied : c.in_ok-is_name_of_one.field-0 ≡ false = search rules in
    let unnamed : is_name_of_one orders (string_bytes (get_or names i name)) ≡ false =
    ap (is_name_of_one orders) (ap string_bytes (sym c.name-item.is) ∙ sym c.deref.ensures) ∙ sym c.in_ok-is_name_of_one.ensures ∙ denied in
    c.loop-name.invariant.first ∙ first_mapped string_bytes (λ text. not (is_name_of_one orders text)) names i name (omega arith) (ap not unnamed)
    ∙ ap Some (ap string_bytes (sym c.name-item.is) ∙ sym c.in_ok-clone.ensures.cases)
