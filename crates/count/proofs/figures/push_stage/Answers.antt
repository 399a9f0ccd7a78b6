-- Parts of the proof of `push_stage` that are done by hand.
use Rattle.std.proofs.Common.{rules, ◌≡◌, ◌∙◌, ℕ, ◌+◌, List, [], ◌∷◌, ◌++◌, length, ap, sym, subst}
use Rattle.count.specs.Law.Due.{lot_for}
use Rattle.count.specs.Inside.Reading.{elected_shown}
use Rattle.count.specs.Marks.{figure_of}
use Rattle.count.specs.declared.figures.Figure.{Figure}
use Rattle.count.specs.declared.stages.Stage.{Stage}
use Rattle.count.proofs.ReadingLemmas.{between, first-shown, last-shown}
use Rattle.count.proofs.ReadBackLemmas.{IsReadOf, elected-back, stage-read}
use Rattle.count.proofs.figures.push_stage.Goals as goal

pub returns-clause-stage : goal.returns-clause-stage
returns-clause-stage c = λ contest s before fair right known are elected.
    let made : Stage = record { action = c.action_in.result; votes = c.votes_in.result; elected = c.without.result; non_transferable = c.from_units.result; lost = c.from_units-2.result } in
    let f : ℕ → Figure = figure_of s (s ∷ before) in
    let body = between f c.args.candidates.now _ _ c.args.figures.now c.len-last.result are c.len-last.ensures.is in
    let read : IsReadOf c.args.candidates.now c.args.elected.now s before c.elected_in-now.result made = record {
      now_is = c.elected_in-now.ensures f body;
      action_is = c.action_in.ensures f body;
      votes_are = c.votes_in.ensures f body;
      newly_are = c.without.ensures;
      none_is = c.from_units.ensures ∙ ap (λ (g : Figure). g.units) (first-shown _ _ _ c.args.figures.now are);
      lost_is = c.from_units-2.ensures ∙ ap (λ (g : Figure). g.units) (last-shown f c.args.candidates.now _ _ _ c.args.figures.now c.len-last.result are c.len-last.ensures.is);
    } in
    let own : IsReadOf contest.candidates c.args.elected.now s before c.elected_in-now.result made = subst
    (λ (cs : List ℕ). IsReadOf cs c.args.elected.now s before c.elected_in-now.result made) (sym known) read in
    let is : made ≡ s = stage-read contest (λ b t. lot_for right.lots (length b + 1)) s before c.args.elected.now c.elected_in-now.result made fair right.right elected own in
    let pushed : c.push.new.self.items ≡ c.args.stages.now.items ++ made ∷ [] = search rules in
    pushed ∙ ap (λ (t : Stage). c.args.stages.now.items ++ t ∷ []) is

pub returns-clause-elected : goal.returns-clause-elected
returns-clause-elected c = λ contest s before fair right known are.
    let f : ℕ → Figure = figure_of s (s ∷ before) in
    c.elected_in-now.ensures f (between f c.args.candidates.now _ _ c.args.figures.now c.len-last.result are c.len-last.ensures.is)
    ∙ ap (elected_shown f) (sym known)
    ∙ elected-back contest (λ b t. lot_for right.lots (length b + 1)) s before fair right.right
