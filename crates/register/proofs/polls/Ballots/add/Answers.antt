-- Proof that `Ballots::add` meets its contract.
use Rattle.std.proofs.Common.{◌≡◌, ℕ, ◌++◌, ◌∷◌, [], ◌&&◌, List, map, fold, Result, Ok, Err, IfOk, refl, subst, ap, ◌∙◌}
use Rattle.std.specs.List.{flat_map}
use Rattle.std.specs.declared.alloc.AllocError.{AllocError}
use Rattle.register.specs.declared.polls.Judgement.{Judgement}
use Rattle.register.specs.Offices.{keyed_entry, judged_entry}
use Rattle.register.specs.Agreement.{of_three}
use Rattle.register.specs.Polls.{Pile, BallotsEntry, StandFor, is_settled, judgements_in, preferences_by, ballots_in}
use Rattle.register.specs.Walks.{and_rejected}
use Rattle.register.proofs.PollLemmas.{added}
use Rattle.register.proofs.polls.Ballots.add.Goals as goal

pub returns : goal.returns
returns g c = by_result c.count_each.result (rw c.agreed-papers.ensures at c.count_each.ensures.papers) (rw c.agreed-papers.ensures at c.count_each.ensures.rejected)
  where
    pile : Pile
    pile = record { keyings = of_three (map keyed_entry c.args.first.now) (map keyed_entry c.args.second.now) (map keyed_entry c.args.third.now); verdicts = map judged_entry c.args.verdicts.now }

    told : List Judgement
    told = judgements_in c.args.columns pile

    settled : c.count_each.new.self.settled ≡ (c.args.self.now.settled && is_settled pile)
    settled = c.count_each.ensures.settled ∙ rw (c.are_taken.ensures, c.count_open-judged.ensures, c.agreed-papers.ensures) refl

    by_result : (r : Result (Unit {0}) AllocError) → IfOk r (λ _. (papers : List (List ℕ)) → g.P.KeepsPapers.holds c.args.self.now.papers papers
        → g.P.KeepsPapers.holds c.count_each.new.self.papers (papers ++ flat_map preferences_by told))
        → IfOk r (λ _. c.count_each.new.self.rejected ≡ fold and_rejected c.args.self.now.rejected told)
        → IfOk r (λ _. (piles : List Pile) → StandFor g.P.KeepsPapers.holds c.args.self.now (ballots_in c.args.columns piles)
        → StandFor g.P.KeepsPapers.holds c.count_each.new.self (ballots_in c.args.columns (piles ++ pile ∷ [])))
    by_result (Ok done) papers rejected = λ piles was.
        let old : BallotsEntry = ballots_in c.args.columns piles in
        let new : BallotsEntry = record { papers = old.papers ++ flat_map preferences_by told; rejected = fold and_rejected old.rejected told; settled = old.settled && is_settled pile } in
        subst (StandFor g.P.KeepsPapers.holds c.count_each.new.self) (added c.args.columns piles pile old new refl refl refl refl)
        (record {
          papers_held = papers old.papers was.papers_held;
          rejected_are = rejected ∙ ap (λ (r : List ℕ). fold and_rejected r told) was.rejected_are;
          settled_is = settled ∙ ap (λ b. b && is_settled pile) was.settled_is;
        })
    by_result (Err e) papers rejected = tt
