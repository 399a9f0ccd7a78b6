-- Of the proof of `goes_on_from`: what a count that goes on asks holds of the one that stood.
use Rattle.std.proofs.Common.{rules, ◌≡◌, ℕ, List, map, reverse, subst, sym, ap, ◌∙◌}
use Rattle.std.specs.List.Sorted.{IsPermutation}
use Rattle.std.proofs.lemmas.List.Sorted.{IsPermutation-refl}
use Rattle.count.specs.Books.{BundledBook, placed}
use Rattle.count.specs.Bundles.{Bundle, AreBundles, papers_of}
use Rattle.count.specs.Law.Contest.{Contest, History, contest_for}
use Rattle.count.specs.Law.Count.{stages_to}
use Rattle.count.specs.Law.Places.{place}
use Rattle.count.specs.Law.Right.{IsRight}
use Rattle.layer_tests.proofs.count_elections.books.goes_on_from.Goals as goal

pub resume_again-requires-clause-right : goal.resume_again-requires-clause-right
resume_again-requires-clause-right g c =
    let lots : List (ℕ × ℕ) = c.args.worked.now.lots.now in
    let on : c.in_ok-stood.stood.contest ≡ contest_for c.first_columns-candidates.result c.args.worked.now.seats (papers_of c.args.bundles.now) = ap
    (λ (b : BundledBook). b.contest) c.in_ok-stood.ensures in
    let made : reverse c.stages-made.result.now ≡ stages_to c.in_ok-stood.stood.contest lots c.args.stages = c.stages-made.ensures.is ∙ c.in_ok-count_to.ensures.is in
    record {
      lots = lots;
      right = subst (λ (k : Contest). IsRight k lots (reverse c.stages-made.result.now)) on
          (subst (λ (h : History). IsRight c.in_ok-stood.stood.contest lots h) (sym made) (c.count_to.ensures.right c.args.stages));
    }

pub resume_again-requires-clause-places : goal.resume_again-requires-clause-places
resume_again-requires-clause-places g c =
    let K : Contest = contest_for c.first_columns-candidates.result c.args.worked.now.seats (papers_of c.args.bundles.now) in
    let book : BundledBook = c.count_to.new.book in
    let on : book.contest ≡ K = c.in_ok-count_to.ensures.same ∙ ap (λ (b : BundledBook). b.contest) c.in_ok-stood.ensures in
    let are : AreBundles c.args.bundles.now = search rules in
    let papers : IsPermutation (papers_of c.args.bundles.now) book.contest.papers = subst (λ (k : Contest). IsPermutation (papers_of c.args.bundles.now) k.papers)
    (sym on) (IsPermutation-refl (papers_of c.args.bundles.now)) in
    c.places-places.ensures.places
    ∙ ap (λ (k : Contest). map (λ (b : Bundle). placed (place k book.history b.0)) book.bundles) on
    ∙ ap (λ (h : History). map (λ (b : Bundle). placed (place K h b.0)) book.bundles) (sym c.stages-made.ensures.is)
    ∙ ap (map (λ (b : Bundle). placed (place K (reverse c.stages-made.result.now) b.0))) (sym (c.places-places.ensures.bundles c.args.bundles.now are papers))
