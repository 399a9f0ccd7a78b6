-- In any state, a count can be read back from its tabulation.
use Rattle.std.proofs.Common.{◌≡◌, ℕ, suc, ◌+◌, ◌<◌, ◌≤◌, not, ◌==◌, true, List, [], ◌∷◌, ◌++◌, length, map, fold, replicate, drop, get_or, reverse, Some, refl, sym, subst, ap, ◌∙◌}
use Rattle.std.proofs.Common.{append_assoc, arith, length-append, drop-cons, add-one}
use Rattle.std.specs.List.{AllByRecursion}
use Rattle.std.specs.List.Sorted.{IsStrictlySortedBy}
use Rattle.std.specs.Map.{keys_of}
use Rattle.std.specs.Ordering.{match_ordering, ordering_reverse}
use Rattle.std.specs.Cmp.Lexicographic.{nat_list_cmp_total}
use Rattle.std.specs.declared.cmp.Ordering.{Ordering}
use Rattle.std.specs.declared.cmp.Ordering.TheVariants.{Less, Greater}
use Rattle.std.proofs.lemmas.Bool.{and_parts, cond-true}
use Rattle.std.proofs.lemmas.List.{map-append, length-replicate}
use Rattle.votes.specs.Units.{max_papers, one_vote}
use Rattle.paper.specs.Columns.{max_candidates}
use Rattle.count.specs.Books.{AreRankings}
use Rattle.count.specs.Bundles.{Bundle, list_cmp, papers_of, with_papers, bundled, IsBundle, AreBundles}
use Rattle.count.specs.StoredCounts.{IsStoredCountOf, places_after}
use Rattle.count.specs.Law.Contest.{History}
use Rattle.count.specs.Law.Right.{IsRightForSome}
use Rattle.count.specs.Marks.{figures_at, all_figures}
use Rattle.count.specs.declared.figures.Figure.{Figure}
use Rattle.count.specs.declared.placed.Placed.{Placed}
use Rattle.count.specs.declared.stages.Stage.{Stage}
use Rattle.count.proofs.Law.CountLemmas.{stages_right}
use Rattle.count.proofs.BundleLemmas.{bundles-with_papers}
use Rattle.count.proofs.OrderLemmas.{bundled-length}
use Rattle.count.proofs.PlaceLemmas.{sound-places}
use Rattle.register.specs.Offices.{WardEntry, OfficeState, ward_at, candidates_of}
use Rattle.register.specs.Marks.{columns_of}
use Rattle.register.specs.Polls.{piles_of}
use Rattle.register.specs.Elections.{ElectionEntry, election_of, has_count, contest_of, stages_of}
use Rattle.register.specs.StateConditions.{IsState}
use Rattle.register.specs.Tabulated.{PlacedEntry, FigureEntry, AreOfCount, bundle_of, placed_of, shown_of, placed_after, bundles_in, figure_at, figures_to, figures_in, has_stages}
use Rattle.register.proofs.MapLemmas.{each_weaker}
use Rattle.register.proofs.ContestLemmas.{columns_are_set, papers_are_rankings, papers_have_some, contest_is_fair}

-- the rest of a list consists of the next element and the rest after it
pub left_at : {X : Type 0} (xs : List X) (i : ℕ) (x : X) → i < length xs → x ≡ get_or xs i x → drop i xs ≡ x ∷ drop (i + 1) xs
left_at xs i x within is = drop-cons xs i x within ∙ ap (λ y. y ∷ drop (suc i) xs) (sym is) ∙ ap (λ n. x ∷ drop n xs) (sym (add-one i))

-- ---- bundles in order, one at a time

at_end : (bs rest : List Bundle) (b : Bundle) → IsStrictlySortedBy list_cmp (keys_of (bs ++ b ∷ rest)) → with_papers bs b.0 b.1 ≡ bs ++ b ∷ []
unfolding IsStrictlySortedBy
at_end [] rest b up = refl
at_end (c ∷ bs) rest b up =
    let above : list_cmp b.0 c.0 ≡ Greater = nat_list_cmp_total.antisymm b.0 c.0 ∙ ap ordering_reverse (below bs up.0) in
    ap (λ (o : Ordering). match_ordering o ((b.0, b.1) ∷ c ∷ bs) ((c.0, c.1 + b.1) ∷ bs) (c ∷ with_papers bs b.0 b.1)) above ∙ ap (λ (cs : List Bundle). c ∷ cs) (at_end bs rest b up.1)
  where
    below : (ds : List Bundle) → AllByRecursion (λ list. list_cmp c.0 list ≡ Less) (keys_of (ds ++ b ∷ rest)) → list_cmp c.0 b.0 ≡ Less
    below [] above = above.0
    below (d ∷ ds) above = below ds above.1

-- the next bundle follows the earlier ones
pub next_bundle : (all bs new rest : List Bundle) (b : Bundle) → AreBundles all → all ≡ bs ++ b ∷ rest → new ≡ with_papers bs b.0 b.1 → all ≡ new ++ rest
next_bundle all bs new rest b are left more =
    let up : IsStrictlySortedBy list_cmp (keys_of (bs ++ b ∷ rest)) = subst (λ (cs : List Bundle). IsStrictlySortedBy list_cmp (keys_of cs)) left are.rise in
    left ∙ sym (append_assoc bs (b ∷ []) rest) ∙ ap (λ (cs : List Bundle). cs ++ rest) (sym (more ∙ at_end bs rest b up))

each_behind : (bs rest : List Bundle) (b : Bundle) → AllByRecursion IsBundle (bs ++ b ∷ rest) → IsBundle b
each_behind [] rest b each = each.0
each_behind (c ∷ bs) rest b each = each_behind bs rest b each.1

papers_behind : (bs rest : List Bundle) (b : Bundle) → length (papers_of bs) + b.1 ≤ length (papers_of (bs ++ b ∷ rest))
papers_behind [] rest b = omega (arith, length-append (replicate b.1 b.0) (papers_of rest), length-replicate b.1 b.0)
papers_behind (c ∷ bs) rest b = omega (arith, length-append (replicate c.1 c.0) (papers_of bs), length-append (replicate c.1 c.0) (papers_of (bs ++ b ∷ rest)), papers_behind bs rest b)

-- the next bundle is valid, and there is room for it
pub next_fits : (all bs rest : List Bundle) (b : Bundle) → AreBundles all → length (papers_of all) ≤ max_papers → all ≡ bs ++ b ∷ rest → IsBundle b × (length (papers_of bs) + b.1 ≤ max_papers)
next_fits all bs rest b are few left =
    (each_behind bs rest b (subst (AllByRecursion IsBundle) left are.each), omega (arith, papers_behind bs rest b, few, ap (λ (cs : List Bundle). length (papers_of cs)) left))

-- ---- what is read back from an election's tabulation

bundled_again : (e : ElectionEntry) (bs : List Bundle) → map bundle_of (map (placed_after e (stages_of e)) bs) ≡ bs
bundled_again e [] = refl
bundled_again e (b ∷ bs) = ap (λ (cs : List Bundle). b ∷ cs) (bundled_again e bs)

placed_again : (e : ElectionEntry) (bs : List Bundle) → map placed_of (map (placed_after e (stages_of e)) bs) ≡ places_after (contest_of e) (stages_of e) bs
placed_again e [] = refl
placed_again e (b ∷ bs) = ap (λ (ps : List Placed). placed_of (placed_after e (stages_of e) b) ∷ ps) (placed_again e bs)

shown_again : (ward stage : ℕ) (fs : List Figure) → map shown_of (map (figure_at ward stage) fs) ≡ fs
shown_again ward stage [] = refl
shown_again ward stage (f ∷ fs) = ap (λ (gs : List Figure). f ∷ gs) (shown_again ward stage fs)

all_shown_again : (ward : ℕ) (candidates : List ℕ) (stages : History) → map shown_of (figures_to ward candidates stages) ≡ all_figures candidates stages
all_shown_again ward candidates [] = refl
all_shown_again ward candidates (s ∷ before) =
    let new : List Figure = figures_at candidates (s ∷ before) in
    map-append shown_of (figures_to ward candidates before) (map (figure_at ward (length before + 1)) new)
    ∙ ap (λ fs. fs ++ map shown_of (map (figure_at ward (length before + 1)) new)) (all_shown_again ward candidates before)
    ∙ ap (λ fs. all_figures candidates before ++ fs) (shown_again ward (length before + 1) new)

module _ (e : ElectionEntry) (candidates : List ℕ) (seats : ℕ) (bundles : List PlacedEntry) (figures : List FigureEntry) (of : AreOfCount e candidates seats bundles figures) where
  all_placed : bundles ≡ map (placed_after e (stages_of e)) (bundled e.ballots.papers)
  all_placed = of.bundles_are ∙ cond-true (has_stages e) _ _ of.begun

  pub read_bundles : map bundle_of bundles ≡ bundled e.ballots.papers
  read_bundles = ap (map bundle_of) all_placed ∙ bundled_again e (bundled e.ballots.papers)

  pub read_places : map placed_of bundles ≡ places_after (contest_of e) (stages_of e) (bundled e.ballots.papers)
  read_places = ap (map placed_of) all_placed ∙ placed_again e (bundled e.ballots.papers)

  pub read_figures : map shown_of figures ≡ all_figures candidates (stages_of e)
  read_figures =
      ap (map shown_of) (of.figures_are ∙ cond-true (has_stages e) _ _ of.begun)
      ∙ all_shown_again e.ward.number (columns_of e.candidates) (stages_of e)
      ∙ ap (λ cs. all_figures cs (stages_of e)) (sym of.candidates_are)

  pub are_bundles : AreBundles (map bundle_of bundles)
  are_bundles = subst AreBundles (sym read_bundles) of.papers_are_bundled

  pub few_papers : length (papers_of (map bundle_of bundles)) ≤ max_papers
  few_papers = omega (arith, ap (λ bs. length (papers_of bs)) read_bundles, bundled-length e.ballots.papers, of.fair.few_papers)

  pub few_holders : AllByRecursion (λ (at : Placed). at.holder ≤ max_candidates) (map placed_of bundles)
  few_holders =
      subst (AllByRecursion (λ (at : Placed). at.holder ≤ max_candidates)) (sym read_places)
      (each_weaker (λ (at : Placed). (at.holder ≤ max_candidates) × (at.value ≤ one_vote)) (λ (at : Placed). at.holder ≤ max_candidates) _ (λ at sound. sound.0)
      (sound-places (contest_of e) (stages_of e) (bundled e.ballots.papers) of.fair of.papers_are_bundled.each))

  pub right_so_far : IsRightForSome (contest_of e) (stages_of e)
  right_so_far = record { lots = e.lots; right = stages_right (contest_of e) e.lots e.ward.done }

  -- what is read back is what was stored about the count
  pub kept_again : (kept : List Bundle) (places : List Placed) (stages : List Stage) → kept ≡ map bundle_of bundles → places ≡ map placed_of bundles → stages ≡ reverse (stages_of e)
      → IsStoredCountOf (contest_of e) (stages_of e) (record { candidates = candidates; seats = seats; bundles = kept; places = places; stages = stages })
  kept_again kept places stages same lie done = record {
    fair = of.fair;
    right = right_so_far;
    candidates_are = of.candidates_are;
    seats_are = of.seats_are;
    bundles_are = same ∙ read_bundles;
    places_are = lie ∙ read_places ∙ ap (places_after (contest_of e) (stages_of e)) (sym (same ∙ read_bundles));
    stages_are = done;
  }

-- ---- in a state

-- bundles are valid if each of their papers ranks at least one candidate, without repetition
bundles_from : (bs : List Bundle) (papers : List (List ℕ)) → AreBundles bs → AllByRecursion (λ (paper : List ℕ). 1 ≤ length paper) papers → AreRankings papers
    → AreBundles (fold (λ cs paper. with_papers cs paper 1) bs papers)
bundles_from bs [] are some ranked = are
bundles_from bs (paper ∷ papers) are some ranked = bundles_from (with_papers bs paper 1) papers (bundles-with_papers paper 1 bs (omega arith, some.0, ranked.0) are) some.1 ranked.1

-- the bundles of an election are valid bundles
pub election_bundles : (s : OfficeState) (w : WardEntry) → AreBundles (bundled (election_of s w).ballots.papers)
unfolding IsStrictlySortedBy
election_bundles s w =
    let columns : List ℕ = columns_of (candidates_of s w.number) in
    bundles_from [] (election_of s w).ballots.papers (record { rise = tt; each = tt }) (papers_have_some columns (piles_of s w.number))
    (papers_are_rankings columns (piles_of s w.number) (columns_are_set (candidates_of s w.number)))

pub counted_at : (s : OfficeState) (w : WardEntry) → IsState s → ward_at s w.number ≡ Some w → has_stages (election_of s w) ≡ true
    → AreOfCount (election_of s w) (columns_of (candidates_of s w.number)) w.seats (bundles_in (election_of s w)) (figures_in (election_of s w))
counted_at s w is found begun = record {
  begun = begun;
  fair = contest_is_fair s w is.in_range is.keyed is.rise found (and_parts (has_count (election_of s w)) (not (w.done == 0)) begun).0;
  papers_are_bundled = election_bundles s w;
  candidates_are = refl;
  seats_are = refl;
  bundles_are = refl;
  figures_are = refl;
}
