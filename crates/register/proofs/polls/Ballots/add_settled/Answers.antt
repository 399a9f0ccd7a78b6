-- Proof that `Ballots::add_settled` meets its contract.
use Rattle.std.proofs.Common.{◌≡◌, ℕ, ◌++◌, ◌∷◌, [], List, map, Result, Ok, Err, IfOk}
use Rattle.std.specs.declared.alloc.AllocError.{AllocError}
use Rattle.register.specs.declared.polls.Judgement.{Judgement}
use Rattle.register.specs.Offices.{keyed_entry, judged_entry}
use Rattle.register.specs.Polls.{StandFor, judgement_on, preferences_by, ballots_by}
use Rattle.register.specs.Walks.{and_rejected}
use Rattle.register.proofs.PollLemmas.{judged_more}
use Rattle.register.proofs.polls.Ballots.add_settled.Goals as goal

pub returns : goal.returns
returns g c = by_result c.count.result (rw c.judgement_on.ensures at c.count.ensures.papers) (rw c.judgement_on.ensures at c.count.ensures.rejected)
  where
    told : Judgement
    told = judgement_on c.args.columns (map judged_entry c.args.verdicts.now) (keyed_entry c.args.keyed.now)

    by_result : (r : Result (Unit {0}) AllocError) → IfOk r (λ _. (papers : List (List ℕ)) → g.P.KeepsPapers.holds c.args.self.now.papers papers
        → g.P.KeepsPapers.holds c.count.new.self.papers (papers ++ preferences_by told))
        → IfOk r (λ _. c.count.new.self.rejected ≡ and_rejected c.args.self.now.rejected told)
        → IfOk r (λ _. (js : List Judgement) → StandFor g.P.KeepsPapers.holds c.args.self.now (ballots_by js) → StandFor g.P.KeepsPapers.holds c.count.new.self (ballots_by (js ++ told ∷ [])))
    by_result (Ok done) papers rejected = λ js was. judged_more g.P.KeepsPapers.holds c.args.self.now c.count.new.self js told papers rejected c.count.ensures.settled was
    by_result (Err e) papers rejected = tt
