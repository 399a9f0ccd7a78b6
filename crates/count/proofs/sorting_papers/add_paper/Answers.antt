-- Parts of the proof of `add_paper` that are done by hand.
use Rattle.std.proofs.Common.{rules, ◌≡◌, ◌∙◌, ℕ, ◌+◌, ◌-◌, ◌<◌, length, ap, refl}
use Rattle.count.specs.Inside.Holdings.{total_of}
use Rattle.count.proofs.ParcelTotals.{total_of-set}
use Rattle.count.proofs.sorting_papers.add_paper.Goals as goal

pub returns-then-eq : goal.returns-then-eq
returns-then-eq c = λ f.
    let within : c.len-count.result - 1 < length c.args.parcels.now.items = search rules in
    let same : c.index_mut-last.result.now.value ≡ c.args.value = search rules in
    total_of-set f c.args.parcels.now.items (c.len-count.result - 1) c.index_mut-last.result.now _ c.args.rest within c.index_mut-last.ensures.value refl c.in_ok-push.ensures.items
    ∙ ap (λ (v : ℕ). total_of f c.args.parcels.now.items + f c.args.rest.now v) same
