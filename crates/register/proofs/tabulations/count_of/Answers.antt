-- Proof that `count_of` meets its contract.
use Rattle.std.proofs.Common.{rules, ◌≡◌, ◌∙◌, map, is_some, ap, sym, subst}
use Rattle.std.proofs.lemmas.Option.{IfSome_then}
use Rattle.count.specs.StoredCounts.{IsStoredCountOf}
use Rattle.count.specs.Marks.{all_figures}
use Rattle.register.specs.Elections.{ElectionEntry, contest_of, stages_of}
use Rattle.register.specs.Tabulated.{AreOfCount, placed_entry, figure_entry}
use Rattle.register.proofs.CountReadBackLemmas.{read_figures, are_bundles, few_papers, few_holders, right_so_far, kept_again}
use Rattle.register.proofs.tabulations.count_of.Goals as goal
use Rattle.register.proofs.tabulations.count_of.Goals.{In-Some-3}

pub returns-in_default-2-clause-some : goal.returns-in_default-2-clause-some
returns-in_default-2-clause-some c = λ e of. ap is_some (sym c.in_default-2.is) ∙ c.in_ok-kept.ensures.some (are_bundles e _ _ _ _ of) (few_papers e _ _ _ _ of)

pub returns-in_default-3-clause-some : goal.returns-in_default-3-clause-some
returns-in_default-3-clause-some c = λ e of. ap is_some (sym c.in_default-3.is) ∙ c.in_ok-places.ensures.some (few_holders e _ _ _ _ of)

pub returns-in_default-4-clause-some : goal.returns-in_default-4-clause-some
returns-in_default-4-clause-some c = λ e of.
    let figures : c.deref.result.now ≡ all_figures c.args.candidates (stages_of e) = c.deref.ensures.value ∙ c.in_ok-figures.ensures ∙ read_figures e _ _ _ _ of in
    ap is_some (sym c.in_default-4.is) ∙ c.in_ok-stages.ensures.some (contest_of e) (stages_of e) of.fair (right_so_far e _ _ _ _ of) (sym of.candidates_are) figures

-- what was read is what was stored of the count
kept : (c : In-Some-3) (e : ElectionEntry) → AreOfCount e c.args.candidates c.args.seats (map placed_entry c.args.bundles.now) (map figure_entry c.args.figures.now)
    → IsStoredCountOf (contest_of e) (stages_of e)
    (record { candidates = c.args.candidates; seats = c.in-Ok.seats; bundles = c.in-Some.kept; places = c.in-Some-2.places.items; stages = c.in-Some-3.stages.items })
kept c e of =
    let number : c.in-Ok.seats ≡ c.args.seats = search rules in
    let figures : c.deref.result.now ≡ all_figures c.args.candidates (stages_of e) = c.deref.ensures.value ∙ c.in_ok-figures.ensures ∙ read_figures e _ _ _ _ of in
    let again : AreOfCount e c.args.candidates c.in-Ok.seats (map placed_entry c.args.bundles.now) (map figure_entry c.args.figures.now) =
    subst (λ n. AreOfCount e c.args.candidates n (map placed_entry c.args.bundles.now) (map figure_entry c.args.figures.now)) (sym number) of in
    kept_again e _ _ _ _ again c.in-Some.kept c.in-Some-2.places.items c.in-Some-3.stages.items ((rw c.in-Some.is at c.in_ok-kept.ensures.is) (are_bundles e _ _ _ _ of))
    (rw c.in-Some-2.is at c.in_ok-places.ensures.is)
    ((rw c.in-Some-3.is at c.in_ok-stages.ensures.is) (contest_of e) (stages_of e) of.fair (right_so_far e _ _ _ _ of) (sym of.candidates_are) figures)

pub returns-clause-is : goal.returns-clause-is
returns-clause-is c = IfSome_then c.resume.result c.resume.ensures.is
    (λ whole same e of. subst (IsStoredCountOf (contest_of e) (stages_of e)) (sym same) (kept (goal.at.returns-clause-is c).In-Some-3 e of))

pub returns-clause-some : goal.returns-clause-some
returns-clause-some c = λ e of. c.resume.ensures.some (contest_of e) (stages_of e) (kept (goal.at.returns-clause-some c).In-Some-3 e of)
