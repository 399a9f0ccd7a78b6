-- Proof that `BundleBook::places` meets its contract.
use Rattle.std.proofs.Common.{reverse, sym, subst, ap, ◌∙◌}
use Rattle.std.specs.List.Sorted.{IsPermutation}
use Rattle.count.specs.Books.{BundledBook}
use Rattle.count.specs.Bundles.{papers_of}
use Rattle.count.specs.Inside.Placing.{contest_on}
use Rattle.count.proofs.BundleBookLemmas.{own-bundles}
use Rattle.count.proofs.bundle_book.BundleBook.places.Goals as goal

pub returns-clause-bundles : goal.returns-clause-bundles
returns-clause-bundles c bundles are order =
    own-bundles (contest_on c.self.inside.terms c.self.inside.bundles.now) (reverse c.self.inside.stages.items) c.self.inside.bundles.now bundles c.self.inside.places.items c.self.invariant are
    (subst (IsPermutation (papers_of bundles)) (sym (ap (λ (b : BundledBook). b.contest.papers) c.self.view_is)) order)
    ∙ ap (λ (b : BundledBook). b.bundles) c.self.view_is
