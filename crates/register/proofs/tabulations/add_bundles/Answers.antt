-- Proof that `add_bundles` meets its contract.
use Rattle.std.proofs.Common.{rules, ◌≡◌, ◌++◌, ◌∷◌, ◌∙◌, [], List, map, ap, sym, subst, append-nil}
use Rattle.std.proofs.lemmas.List.{map-append}
use Rattle.count.specs.Bundles.{Bundle}
use Rattle.count.specs.declared.placed.Placed.{Placed}
use Rattle.register.specs.Tabulated.{PlacedEntry, placed_entry}
use Rattle.register.proofs.AddedLemmas.{AreLeft, tabulated, one_less}
use Rattle.register.proofs.tabulations.add_bundles.Goals as goal

pub loop-list-preserved-in-Some-split_first : goal.loop-list-preserved-in-Some-split_first
loop-list-preserved-in-Some-split_first c = λ at lie.
    let steps : c.loop-list.list-iterator ≡ (c.in-Some.list.now, c.in-Some.papers.now) ∷ c.next.new.self = search rules in
    let first : c.loop-list.rest.now ≡ c.in-Some-split_first.at.now ∷ c.in-Some-split_first.others.now = search rules in
    let pushed : c.push.new.self.items ≡ c.loop-list.to.items ++ c.in_ok-placed_bundle.field-0 ∷ [] = search rules in
    let items : List PlacedEntry = map placed_entry c.loop-list.to.items in
    let all : List PlacedEntry = map placed_entry c.args.to.now.items ++ tabulated c.args.ward at c.args.bundles.now in
    let left : AreLeft c.args.ward at items all ((c.in-Some.list.now, c.in-Some.papers.now) ∷ c.next.new.self) (c.in-Some-split_first.at.now ∷ c.in-Some-split_first.others.now) =
    subst (λ (ps : List Placed). AreLeft c.args.ward at items all ((c.in-Some.list.now, c.in-Some.papers.now) ∷ c.next.new.self) ps) first
    (subst (λ (bs : List Bundle). AreLeft c.args.ward at items all bs c.loop-list.rest.now) steps (c.loop-list.invariant at lie)) in
    one_less c.args.ward at items (map placed_entry c.push.new.self.items) all
    (c.in-Some.list.now, c.in-Some.papers.now) c.next.new.self c.in-Some-split_first.at.now c.in-Some-split_first.others.now (placed_entry c.in_ok-placed_bundle.field-0)
    c.in_ok-placed_bundle.ensures (ap (map placed_entry) pushed ∙ map-append placed_entry c.loop-list.to.items (c.in_ok-placed_bundle.field-0 ∷ [])) left

pub returns : goal.returns
returns c = λ at lie.
    let none : c.loop-list.list-iterator ≡ [] = search rules in
    let left = c.loop-list.invariant at lie in
    sym (append-nil (map placed_entry c.loop-list.to.items)) ∙ ap (λ (bs : List Bundle). map placed_entry c.loop-list.to.items ++ tabulated c.args.ward at bs) (sym none) ∙ left.make
