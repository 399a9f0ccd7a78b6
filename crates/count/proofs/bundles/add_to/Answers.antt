-- Parts of the proof of `add_to`: the stored number doesn't overflow, and with the new papers it is as in `with_papers`.
use Rattle.std.proofs.Common.{◌≡◌, ◌+◌, ap, ◌∙◌, arith, rules}
use Rattle.std.specs.BTreeMap.{insert_entry}
use Rattle.count.specs.Bundles.{list_cmp, with_papers}
use Rattle.count.proofs.BundleLemmas.{number_of, number-le-papers, inserted-with_papers}
use Rattle.count.proofs.bundles.add_to.Goals as goal

pub overflow_add-lists : goal.overflow_add-lists
overflow_add-lists c =
    let had : c.or_insert.result.now ≡ number_of c.args.list c.args.lists.now.entries = cc (c.in_ok-lists.ensures.value) in
    let few = number-le-papers c.args.list c.args.lists.now.entries in
    omega (arith, had, few, c.requires)

pub returns-clause-ok : goal.returns-clause-ok
returns-clause-ok c =
    let had : c.or_insert.result.now ≡ number_of c.args.list c.args.lists.now.entries = cc (c.in_ok-lists.ensures.value) in
    let put = c.in_ok-lists.ensures.update.1 (c.or_insert.result.now + c.args.papers) in
    let same : insert_entry list_cmp c.args.lists.now.entries c.args.list (c.or_insert.result.now + c.args.papers) ≡ with_papers c.args.lists.now.entries c.args.list c.args.papers =
    ap (λ n. insert_entry list_cmp c.args.lists.now.entries c.args.list (n + c.args.papers)) had
    ∙ inserted-with_papers c.args.list c.args.papers c.args.lists.now.entries c.in_ok-lists.ensures.ordered in
    let whole = put ∙ same in search rules
