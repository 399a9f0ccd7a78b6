-- Proof that `step_in` meets its contract.
use Rattle.std.proofs.Common.{◌≡◌, ◌∙◌, ap, map, sym, List, ℕ}
use Rattle.count.specs.declared.stages.Due.{Due}
use Rattle.register.specs.declared.phase.Phase.{Phase}
use Rattle.register.specs.declared.phase.Phase.TheVariants.{Sealed}
use Rattle.register.specs.Offices.{WardEntry, CandidateEntry, candidate_entry, ward_entry}
use Rattle.register.specs.Elections.{due_of, election_of, is_counted}
use Rattle.register.specs.Counts.{stage_after}
use Rattle.register.specs.NextSteps.{NextStepEntry, count_goes, next_in}
use Rattle.store.proofs.LoadsLemmas.{loads_none}
use Rattle.store.proofs.storage.Store.step_in.Goals as goal

pub returns-in-Sealed : goal.returns-in-Sealed
returns-in-Sealed g c =
    loads_none c.requires
    (λ s is w counted.
    let here : ward_entry c.args.found.ward ≡ w = counted.ward_is in
    let phase : w.phase ≡ Sealed = sym (ap (λ (x : WardEntry). x.phase) here) ∙ c.in-Sealed.is in
    let stage : c.stage_after.result ≡ stage_after w.done = c.stage_after.ensures ∙ ap (λ (x : WardEntry). stage_after x.done) here in
    let due : c.due_in.result ≡ due_of (election_of s w) = c.due_in.ensures (election_of s w) counted (ap is_counted phase) in
    let found : List CandidateEntry = map candidate_entry c.args.found.candidates.items in
    ap (λ (n : ℕ). count_goes n c.due_in.result found) stage
    ∙ ap (λ (d : Due). count_goes (stage_after w.done) d found) due
    ∙ ap (λ (l : List CandidateEntry). count_goes (stage_after w.done) (due_of (election_of s w)) l) counted.candidates_are
    ∙ sym (ap (λ (p : Phase). next_in p s w) phase))
