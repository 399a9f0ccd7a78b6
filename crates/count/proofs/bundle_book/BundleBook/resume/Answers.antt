-- Parts of the proof of `resume` that are done by hand.
use Rattle.std.proofs.Common.{◌≡◌, ◌∙◌, List, reverse, refl, sym, ap, subst}
use Rattle.count.specs.Bundles.{papers_of}
use Rattle.count.specs.Law.Contest.{Contest, contest_for, IsContest}
use Rattle.count.specs.Law.Right.{IsRightByItself}
use Rattle.count.specs.StoredCounts.{places_after}
use Rattle.count.specs.Inside.Placing.{contest_on}
use Rattle.count.specs.declared.stages.Stage.{Stage}
use Rattle.count.proofs.BundleBookLemmas.{some-own}
use Rattle.count.proofs.bundle_book.BundleBook.resume.Goals as goal

pub invariant_of-result : goal.invariant_of-result
invariant_of-result c =
    let asked : Contest = contest_for c.args.candidates c.args.seats (papers_of c.args.bundles.now) in
    let contest : Contest = contest_on c.terms_on-terms.result c.args.bundles.now in
    let same : contest ≡ asked = c.terms_on-terms.ensures.is c.requires.contest in
    let copied : c.in_ok-stages.stages.items ≡ c.args.stages.now = c.in_ok-stages.ensures.items in
    record {
      fair = subst IsContest (sym same) c.requires.contest;
      right =
          subst (λ (k : Contest). IsRightByItself k (reverse c.in_ok-stages.stages.items)) (sym same)
          (subst (λ (l : List Stage). IsRightByItself asked (reverse l)) (sym copied) (some-own asked (reverse c.args.stages.now) c.requires.right));
      bundles_are = c.terms_on-terms.ensures.bundles;
      papers_are = refl;
      places_are =
          c.in_ok-places.ensures.items ∙ c.requires.places
          ∙ ap (λ (k : Contest). places_after k (reverse c.args.stages.now) c.args.bundles.now) (sym same)
          ∙ ap (λ (l : List Stage). places_after contest (reverse l) c.args.bundles.now) (sym copied);
    }
