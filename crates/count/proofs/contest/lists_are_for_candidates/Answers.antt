-- Parts of the proof of `lists_are_for_candidates` that are done by hand.
use Rattle.std.proofs.Common.{◌≡◌, ℕ, true, List, nat_eq, refl, sym, ◌∙◌, subst}
use Rattle.std.specs.List.{AllByRecursion, list_any}
use Rattle.paper.specs.Standing.{is_continuing}
use Rattle.count.specs.Bundles.{Bundle}
use Rattle.count.specs.Law.Contest.{In}
use Rattle.count.proofs.ContestLemmas.{all-alike, all-papers, all-lists}
use Rattle.count.proofs.contest.lists_are_for_candidates.Goals as goal

pub returns-then-not-is_for : goal.returns-then-not-is_for
returns-then-not-is_for c =
    let candidates : List ℕ = c.args.candidates.now in
    let P : Bundle → Type 0 = λ b. AllByRecursion (λ d. In d candidates) b.0 in
    let first : AllByRecursion (λ b. AllByRecursion (λ d. In d candidates) b.0) c.args.bundles.now → AllByRecursion (λ d. is_continuing c.new-standing.result d ≡ true) c.as_slice.result.now = λ all.
    subst (λ (l : List ℕ). AllByRecursion (λ d. is_continuing c.new-standing.result d ≡ true) l) (sym c.as_slice.ensures.is)
    (all-alike (λ d. list_any (nat_eq d) candidates) (is_continuing c.new-standing.result) c.in-Some.list.now (λ d. sym (c.new-standing.ensures.continuing d))
    (subst (AllByRecursion P) c.in-Some.ensures.steps (c.loop-list.invariant.rest.0 all)).0) in
    (λ t. cc, λ papers. sym c.if-not-is_for.true ∙ c.is_for.ensures.1 (first (all-lists (λ p. AllByRecursion (λ d. In d candidates) p) c.args.bundles.now c.loop-list.invariant.each papers)))

pub loop-list-preserved : goal.loop-list-preserved
loop-list-preserved c =
    let candidates : List ℕ = c.args.candidates.now in
    let P : Bundle → Type 0 = λ b. AllByRecursion (λ d. In d candidates) b.0 in
    let here : AllByRecursion (λ d. In d candidates) c.in-Some.list.now = all-alike (is_continuing c.new-standing.result)
    (λ d. list_any (nat_eq d) candidates) c.in-Some.list.now c.new-standing.ensures.continuing
    (subst (λ (l : List ℕ). AllByRecursion (λ d. is_continuing c.new-standing.result d ≡ true) l) c.as_slice.ensures.is (c.is_for.ensures.0 c.if-not-is_for.false)) in
    record {
      each = c.loop-list.invariant.each;
      rest = (
        λ all. (subst (AllByRecursion P) c.in-Some.ensures.steps (c.loop-list.invariant.rest.0 all)).1,
        λ behind. c.loop-list.invariant.rest.1 (subst (AllByRecursion P) (sym c.in-Some.ensures.steps) (here, behind)),
      );
    }

pub returns : goal.returns
returns c =
    let candidates : List ℕ = c.args.candidates.now in
    let P : Bundle → Type 0 = λ b. AllByRecursion (λ d. In d candidates) b.0 in
    (λ t. all-papers (λ p. AllByRecursion (λ d. In d candidates) p) c.args.bundles.now (c.loop-list.invariant.rest.1 (subst (AllByRecursion P) (sym c.in-None.ensures.steps.0) tt)), λ papers. refl)
