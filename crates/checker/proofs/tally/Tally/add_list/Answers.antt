-- Proof that `add_list` meets its contract.
use Rattle.std.proofs.Common.{◌≡◌, ℕ, List, [], ◌∷◌, ◌++◌, length, sym, ap, subst, ◌∙◌, arith}
use Rattle.std.specs.List.{AllByRecursion}
use Rattle.count.specs.Bundles.{IsBundle, papers_of, with_papers}
use Rattle.count.proofs.BundleLemmas.{length-with_papers}
use Rattle.checker.specs.Tallies.{settled}
use Rattle.checker.proofs.TallyLemmas.{each-push, settled-push}
use Rattle.checker.proofs.tally.Tally.add_list.Goals as goal

pub invariant_of-self-2 : goal.invariant_of-self-2
invariant_of-self-2 c =
    let bs = c.self.inside.bundles in
    let es = c.self.inside.recent.items in
    let items : c.push.new.self.items ≡ es ++ (c.args.list.now, c.args.papers) ∷ [] =
    c.in_ok-push.ensures.items ∙ ap (λ (l : List ℕ). es ++ (l, c.args.papers) ∷ []) c.prefs_of-prefs.ensures in
    let pushed = ap (settled bs) items ∙ settled-push bs es (c.args.list.now, c.args.papers) in
    let held = ap (λ l. length (papers_of l)) (sym c.self.view_is) in (
      c.self.invariant.0,
      subst (AllByRecursion IsBundle) (sym items)
          (each-push es (c.args.list.now, c.args.papers) c.self.invariant.1 (c.requires.some, c.requires.named, c.requires.ranking)),
      omega (arith, ap (λ l. length (papers_of l)) pushed, length-with_papers c.args.list.now c.args.papers (settled bs es), c.self.invariant.2),
      omega (arith, c.requires.few, c.self.invariant.2, held),
    )

pub returns : goal.returns
returns c =
    let bs = c.self.inside.bundles in
    let es = c.self.inside.recent.items in
    let items : c.push.new.self.items ≡ es ++ (c.args.list.now, c.args.papers) ∷ [] =
    c.in_ok-push.ensures.items ∙ ap (λ (l : List ℕ). es ++ (l, c.args.papers) ∷ []) c.prefs_of-prefs.ensures in
    ap (settled bs) items ∙ settled-push bs es (c.args.list.now, c.args.papers) ∙ ap (λ l. with_papers l c.args.list.now c.args.papers) c.self.view_is
