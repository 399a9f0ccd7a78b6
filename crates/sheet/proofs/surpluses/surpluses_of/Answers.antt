-- Proof that `surpluses_of` meets its contract.
use Rattle.std.proofs.Common.{◌≡◌, ℕ, ap, ◌∙◌, sym, subst, arith}
use Rattle.votes.specs.Units.{quota_of}
use Rattle.count.specs.Books.{BundledBook}
use Rattle.count.specs.Bundles.{papers_of}
use Rattle.count.specs.Law.Contest.{Contest, contest_for}
use Rattle.count.specs.Law.Count.{stages_to}
use Rattle.sheet.specs.Surpluses.{passed_to}
use Rattle.sheet.proofs.SurplusLemmas.{AreOnly, IsRightTo, counted_more, found_more}
use Rattle.sheet.proofs.surpluses.surpluses_of.Goals as goal

pub loop-init : goal.loop-init
loop-init c =
    let contest : Contest = contest_for c.args.candidates c.args.seats (papers_of c.args.bundles.now) in
    let begun : c.in_ok-book.book.contest ≡ contest = ap (λ (b : BundledBook). b.contest) c.in_ok-book.ensures in
    record {
      same = c.in_ok-count_to.ensures.same ∙ begun;
      counted = c.in_ok-count_to.ensures.is ∙ ap (λ (k : Contest). stages_to k c.args.lots.now 0) begun;
      all = c.new-found.ensures.items;
    }

pub add_next-requires-clause-papers : goal.add_next-requires-clause-papers
add_next-requires-clause-papers c = ap (λ (contest : Contest). contest.papers) c.loop.invariant.same

pub add_next-requires-clause-quota : goal.add_next-requires-clause-quota
add_next-requires-clause-quota c =
    c.quota-quota.ensures.is ∙ ap (λ (n : ℕ). quota_of n c.args.seats) c.papers.ensures.is ∙ sym (ap (λ (contest : Contest). contest.quota) c.loop.invariant.same)

pub loop-preserved : goal.loop-preserved
loop-preserved c =
    let contest : Contest = contest_for c.args.candidates c.args.seats (papers_of c.args.bundles.now) in
    let begun : c.in_ok-book.book.contest ≡ contest = ap (λ (b : BundledBook). b.contest) c.in_ok-book.ensures in
    let right : IsRightTo contest c.args.lots.now = subst (λ (k : Contest). IsRightTo k c.args.lots.now) begun c.in_ok-count_to.ensures.right in
    let only : AreOnly contest c.args.lots.now = subst (λ (k : Contest). AreOnly k c.args.lots.now) begun c.in_ok-count_to.ensures.only in
    record {
      same = c.add_next.ensures.same ∙ c.loop.invariant.same;
      counted = counted_more contest c.loop.book.contest c.args.lots.now c.loop.counter c.loop.book.history c.add_next.new.book.history right only c.loop.invariant.same c.loop.invariant.counted
          c.in_ok-add_next.ensures.ok;
      all = found_more contest c.loop.book.contest c.args.lots.now c.args.bundles.now c.loop.counter c.loop.book.history c.loop.found.items c.add_next.new.found.items c.loop.invariant.same
          c.loop.invariant.counted c.loop.invariant.all c.in_ok-add_next.ensures.is;
    }

pub returns-clause-is : goal.returns-clause-is
returns-clause-is c = λ fair.
    let contest : Contest = contest_for c.args.candidates c.args.seats (papers_of c.args.bundles.now) in
    let last : c.loop.counter ≡ c.args.stages = omega (arith, c.loop-test.false, c.loop.auto.counter-end) in
    c.loop.invariant.all ∙ ap (passed_to contest c.args.lots.now c.args.bundles.now) last
