-- Proof that `twin_under` meets its contract.
use Rattle.std.proofs.Common.{◌==◌, not, find, ap, ◌∙◌}
use Rattle.store.specs.Piles.{numbers_under}
use Rattle.store.proofs.PileLemmas.{group_told}
use Rattle.store.proofs.overviews.piles.twin_under.Goals as goal

pub returns : goal.returns
returns c =
    let numbers = c.args.numbers.now in
    let group = c.deref.ensures.value ∙ group_told numbers c.as_str.result.now c.in-Some-get.group.now c.in-Some-get.ensures.value ∙ ap (numbers_under numbers) c.as_str.ensures.value in
    rw c.in-Some.is (c.first_other.ensures ∙ ap (find (λ n. not (n == c.args.number))) group)
