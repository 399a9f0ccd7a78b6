-- Parts of the proof of `add_parcel_stage` that are done by hand.
use Rattle.std.proofs.Common.{◌∙◌, refl, ℕ, ◌+◌, List, map, reverse, ap}
use Rattle.count.specs.Law.Contest.{numbers}
use Rattle.count.specs.Inside.Holdings.{votes_with, worth_to, newest_non_transferable, lost_with}
use Rattle.count.specs.declared.stages.Stage.{Stage}
use Rattle.count.proofs.RecordLemmas.{recorded}
use Rattle.count.proofs.parcel_figures.add_parcel_stage.Goals as goal

pub returns : goal.returns
returns c =
    let old : List Stage = c.args.stages.now.items in
    let q : ℕ = c.args.terms.now.quota in
    let bare : Stage = record { action = c.args.action.now; votes = c.all_votes.result; elected = c.empty.result; non_transferable = c.non_transferable_with.result; lost = c.lost_with.result } in
    recorded c.args.terms.now (reverse old) (reverse c.add_stage.new.stages.items) c.args.action.now c.args.moved.now bare c.add_stage.ensures refl
    (c.all_votes.ensures ∙ ap (λ (l : List Stage). map (votes_with q (reverse l) c.args.action.now c.args.moved.now) numbers) c.deref.ensures.value)
    (c.non_transferable_with.ensures ∙ ap (λ (l : List Stage). newest_non_transferable (reverse l) + worth_to 0 c.args.moved.now) c.deref-2.ensures.value)
    (c.lost_with.ensures ∙ ap (λ (l : List Stage). lost_with q (reverse l) c.args.action.now c.args.moved.now) c.deref-3.ensures.value)
