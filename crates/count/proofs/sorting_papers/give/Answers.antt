-- Parts of the proof of `give` that are done by hand.
use Rattle.std.proofs.Common.{rules, ◌≡◌, ◌∙◌, ℕ, ◌+◌, ◌<◌, length, ap, refl, arith}
use Rattle.count.specs.Law.Places.{first_of}
use Rattle.count.specs.Inside.Holdings.{total}
use Rattle.count.proofs.ParcelTotals.{total-set, numbered-at, numbered-set}
use Rattle.count.proofs.sorting_papers.give.Goals as goal

pub returns-clause-numbered : goal.returns-clause-numbered
returns-clause-numbered c = numbered-set 0 c.args.holdings.now.items c.from.result c.index_mut-holding.result.now _ c.requires.numbered c.index_mut-holding.ensures.value refl

pub returns-clause-given : goal.returns-clause-given
returns-clause-given c = λ f.
    let within : c.from.result < length c.args.holdings.now.items = search rules in
    let at : c.from.result ≡ first_of c.args.rest.now = c.from.ensures ∙ c.first_preference.ensures in
    let numbered = numbered-at 0 c.args.holdings.now.items c.from.result c.index_mut-holding.result.now c.requires.numbered within c.index_mut-holding.ensures.value in
    let holder : c.index_mut-holding.result.now.holder ≡ first_of c.args.rest.now = omega (arith, numbered, at) in
    total-set f c.args.holdings.now.items c.from.result _ c.index_mut-holding.result.now _ within c.index_mut-holding.ensures.value refl
    (c.in_ok-add_paper.ensures (f c.index_mut-holding.result.now.holder))
    ∙ ap (λ (h : ℕ). total f c.args.holdings.now.items + f h c.args.rest.now c.args.value) holder
