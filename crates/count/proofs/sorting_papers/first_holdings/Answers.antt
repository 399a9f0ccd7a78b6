-- Parts of the proof of `first_holdings` that are done by hand.
use Rattle.std.proofs.Common.{◌≡◌, ◌∙◌, ℕ, ◌<◌, List, length, get_or, ap, arith}
use Rattle.std.proofs.lemmas.List.Sums.{sum_by_more}
use Rattle.votes.specs.Units.{one_vote}
use Rattle.count.specs.Law.Places.{first_of}
use Rattle.count.proofs.FirstLemmas.{rankings-more}
use Rattle.count.proofs.sorting_papers.first_holdings.Goals as goal

pub loop-prefs-preserved : goal.loop-prefs-preserved
loop-prefs-preserved c =
    let within : c.loop-prefs.prefs-index < length c.args.papers.now = omega arith in
    record {
      len = c.in_ok-give.ensures.len;
      numbered = c.in_ok-give.ensures.numbered;
      dealt = λ f.
          let value_is : c.from_units.result ≡ one_vote = c.from_units.ensures in
          let g : List ℕ → ℕ = λ paper. f (first_of paper) paper one_vote in
          let at : f (first_of c.as_slice.result.now) c.as_slice.result.now c.from_units.result ≡ g (get_or c.args.papers.now c.loop-prefs.prefs-index c.prefs-item.result) =
          ap (f (first_of c.as_slice.result.now) c.as_slice.result.now) value_is ∙ ap g (c.as_slice.ensures.is ∙ c.prefs-item.is) in
          omega (arith, c.in_ok-give.ensures.given f, c.loop-prefs.invariant.dealt f, sum_by_more g c.args.papers.now c.loop-prefs.prefs-index c.prefs-item.result within, at);
      rankings = rankings-more c.args.papers.now c.loop-prefs.prefs-index c.prefs-item.result within c.prefs-item.is c.as_slice.ensures.ranking c.loop-prefs.invariant.rankings;
    }
