-- The laws of a count hold for every bundle book, and a book that advances remains a bundle book.
use Rattle.std.proofs.Common.{◌≡◌, ℕ, suc, zero, ◌+◌, ◌<◌, ◌≤◌, List, [], ◌∷◌, ◌++◌, length, map, replicate, reverse, Option, sym, ap, ◌∙◌, arith, subst, Some}
use Rattle.std.specs.List.{AllByRecursion}
use Rattle.std.proofs.lemmas.List.{length-reverse}
use Rattle.paper.proofs.ColumnSets.{length_columns}
use Rattle.paper.specs.Ranking.{IsRanking}
use Rattle.count.specs.Advance.{Adds}
use Rattle.count.specs.Books.{AreRankings}
use Rattle.std.specs.List.Sorted.{IsPermutation}
use Rattle.count.specs.Bundles.{Bundle, papers_of, IsBundle, AreBundles}
use Rattle.count.specs.Law.Contest.{Contest, History, numbers}
use Rattle.count.specs.Law.Count.{begun}
use Rattle.count.specs.Law.Due.{drawn, due_after, lot_for}
use Rattle.count.specs.Law.Figures.{votes_after, non_transferable_after, lost_after}
use Rattle.count.specs.Law.Laws.{IsConserved, IsShort, FillsSeats, OnlyCandidatesHaveVotes, IsAmongSeveral}
use Rattle.count.specs.Law.Right.{IsRightBy, IsRightByItself, IsRightForSome, candidate_of}
use Rattle.count.specs.Inside.BookInvariants.{with_newly_elected, IsAdded}
use Rattle.count.specs.Inside.Holdings.{newest_lost}
use Rattle.count.specs.StoredCounts.{places_after}
use Rattle.count.specs.Inside.Placing.{contest_on, IsBundled, IsFigured, IsSound}
use Rattle.votes.specs.Units.{max_units}
use Rattle.count.specs.declared.placed.Placed.{Placed}
use Rattle.count.specs.declared.stages.Action.{Action}
use Rattle.count.specs.declared.stages.Due.{Due}
use Rattle.count.specs.declared.stages.Due.TheVariants.{Finished}
use Rattle.count.specs.declared.stages.Stage.{Stage}
use Rattle.count.specs.declared.terms.Terms.{Terms}
use Rattle.count.proofs.BookLemmas.{adds-advances, adds-right, drawn-due}
use Rattle.count.proofs.BundleLaws.{same-bundles}
use Rattle.count.proofs.PlaceLemmas.{sound-places}
use Rattle.count.proofs.BundleFigureLemmas.{lost-few}
use Rattle.count.proofs.Law.ActionLemmas.{stages-bound}
use Rattle.count.proofs.Law.ConservedLemmas.{all-conserved}
use Rattle.count.proofs.Law.FinishLemmas.{finished-elected, lots-several}
use Rattle.count.proofs.Law.LengthLemmas.{stages-few}
use Rattle.count.proofs.Law.OwnLotLemmas.{drawn-own}
use Rattle.count.proofs.Law.VotelessLemmas.{others-voteless}

by_itself : History → Stage → Option ℕ
by_itself before s = candidate_of s.action

rankings_more : (n : ℕ) (p : List ℕ) (rest : List (List ℕ)) → IsRanking p → AreRankings rest → AreRankings (replicate n p ++ rest)
rankings_more zero p rest ranking others = others
rankings_more (suc n) p rest ranking others = (ranking, rankings_more n p rest ranking others)

-- the papers of bundles are rankings
rankings_of : (bundles : List Bundle) → AllByRecursion IsBundle bundles → AreRankings (papers_of bundles)
rankings_of [] each = tt
rankings_of (b ∷ bs) each = rankings_more b.1 b.0 (papers_of bs) each.0.2 (rankings_of bs each.1)

rankings-book : (contest : Contest) (history : History) (bundles : List Bundle) (places : List Placed) → IsBundled contest history bundles places → AreRankings contest.papers
rankings-book contest history bundles places book = subst AreRankings (sym book.papers_are) (rankings_of bundles book.bundles_are.each)

-- the stage numbers of a book fit in one byte
pub bundled-few : (contest : Contest) (stages : List Stage) (bundles : List Bundle) (places : List Placed) → IsBundled contest (reverse stages) bundles places → length stages < 255
unfolding by_itself
bundled-few contest stages bundles places book =
    omega (arith, stages-bound contest by_itself (reverse stages) book.fair book.right, length-reverse stages, length_columns contest.candidates book.fair.candidate_set)

-- the laws of a count hold for a book
pub bundled-conserved : (contest : Contest) (history : History) (bundles : List Bundle) (places : List Placed) → IsBundled contest history bundles places → IsConserved contest history
unfolding by_itself
bundled-conserved contest history bundles places book = all-conserved contest by_itself history book.fair book.right (rankings-book contest history bundles places book)

pub bundled-short : (contest : Contest) (history : History) (bundles : List Bundle) (places : List Placed) → IsBundled contest history bundles places → IsShort contest history
unfolding by_itself
bundled-short contest history bundles places book = stages-few contest by_itself history book.fair (rankings-book contest history bundles places book) book.right

pub bundled-others : (contest : Contest) (history : History) (bundles : List Bundle) (places : List Placed) → IsBundled contest history bundles places → OnlyCandidatesHaveVotes contest history
unfolding by_itself
bundled-others contest history bundles places book = others-voteless contest by_itself history book.fair book.right

pub bundled-several : (contest : Contest) (history : History) (bundles : List Bundle) (places : List Placed) → IsBundled contest history bundles places → IsAmongSeveral (due_after contest history)
unfolding by_itself
bundled-several contest history bundles places book = lots-several contest by_itself history book.fair book.right

pub bundled-filled : (contest : Contest) (history : History) (bundles : List Bundle) (places : List Placed) → IsBundled contest history bundles places → due_after contest history ≡ Finished →
    FillsSeats contest history
unfolding by_itself
bundled-filled contest history bundles places book h = finished-elected contest by_itself history book.fair book.right h

-- a stage with its figures and its newly elected candidates is the one that the law requires for its action
pub figured-adds : (terms : Terms) (bundles : List Bundle) (old new : History) (action : Action) (bare : Stage) → IsFigured (contest_on terms bundles) old action bare → IsAdded terms old bare new →
    Adds (contest_on terms bundles) old action new
figured-adds terms bundles old new action bare figured is_added =
    let contest : Contest = contest_on terms bundles in
    record {
      stage = with_newly_elected bare is_added.newly;
      one_more = is_added.one_more;
      of_action = figured.of_action;
      tells = record {
        votes_told = figured.votes_are ∙ ap (λ (a : Action). map (votes_after contest (begun a [] ∷ old)) numbers) (sym figured.of_action);
        elected_told = is_added.newly_is;
        non_transferable_told = figured.non_transferable_is ∙ ap (λ (a : Action). non_transferable_after contest (begun a [] ∷ old)) (sym figured.of_action);
        lost_told = figured.lost_is ∙ ap (λ (a : Action). lost_after contest (begun a [] ∷ old)) (sym figured.of_action);
      };
    }

-- the places computed for the action are those after its stage
pub places-adds : (contest : Contest) (old new : History) (action : Action) (bundles : List Bundle) → Adds contest old action new →
    places_after contest (begun action [] ∷ old) bundles ≡ places_after contest new bundles
places-adds contest old new action bundles adds =
    ap (λ (a : Action). places_after contest (begun a [] ∷ old) bundles) (sym adds.of_action)
    ∙ ap (λ (h : History). places_after contest h bundles) (sym adds.one_more)

-- a book that advances remains a bundle book
pub adds-bundled : (contest : Contest) (before : History) (lot : Option ℕ) (action : Action) (after : History) (bundles : List Bundle) (old new : List Placed) →
    IsBundled contest before bundles old → drawn contest before lot (due_after contest before) ≡ Some action →
    Adds contest before action after → new ≡ places_after contest after bundles → IsBundled contest after bundles new
adds-bundled contest before lot action after bundles old new book was adds are =
    record { fair = book.fair; right = adds-right contest before lot action after book.right was adds; bundles_are = book.bundles_are; papers_are = book.papers_are; places_are = are }

-- the numbers of a book are in range
pub book-sound : (contest : Contest) (history : History) (bundles : List Bundle) (places : List Placed) → IsBundled contest history bundles places → AllByRecursion IsSound places
book-sound contest history bundles places book = subst (AllByRecursion IsSound) (sym book.places_are) (sound-places contest history bundles book.fair book.bundles_are.each)

pub book-lost : (contest : Contest) (history : History) (bundles : List Bundle) (places : List Placed) → IsBundled contest history bundles places → newest_lost history ≤ max_units
book-lost contest history bundles places book = lost-few contest history book.fair book.right

own_lots : (contest : Contest) (handed : History → Stage → Option ℕ) (stages : History) → IsRightBy contest handed stages → IsRightByItself contest stages
own_lots contest handed [] right = tt
own_lots contest handed (s ∷ before) right =
    (own_lots contest handed before right.0, record { was_due = drawn-own contest before (handed before s) (due_after contest before) s.action right.1.was_due; tells = right.1.tells })

-- stages that are correct for some lots are correct for the lots that they themselves name
pub some-own : (contest : Contest) (stages : History) → IsRightForSome contest stages → IsRightByItself contest stages
some-own contest stages right = own_lots contest (λ before s. lot_for right.lots (length before + 1)) stages right.right

-- the bundles of a book are those of its papers
pub own-bundles : (contest : Contest) (history : History) (own bundles : List Bundle) (places : List Placed) → IsBundled contest history own places → AreBundles bundles →
    IsPermutation (papers_of bundles) contest.papers → bundles ≡ own
own-bundles contest history own bundles places is are order = same-bundles bundles own are is.bundles_are (subst (IsPermutation (papers_of bundles)) is.papers_are order)

pub ruleset book_laws = (bundled-conserved, bundled-others, bundled-short)

pub ruleset book_facts = (bundled-filled, adds-advances)

-- a lot that is due is drawn among several candidates; stated for borrowed stages
pub due-several : (contest : Contest) (lent stages : List Stage) (bundles : List Bundle) (places : List Placed) (due : Due) → lent ≡ stages → due ≡ due_after contest (reverse lent) →
    IsBundled contest (reverse stages) bundles places → IsAmongSeveral due
due-several contest lent stages bundles places due same is book =
    subst IsAmongSeveral (sym (is ∙ ap (λ (l : List Stage). due_after contest (reverse l)) same)) (bundled-several contest (reverse stages) bundles places book)
