-- Papers that are counted after others.
use Rattle.std.proofs.Common.{◌≡◌, ℕ, Bool, true, ◌&&◌, Option, Some, None, List, [], ◌∷◌, ◌++◌, map, sym, ap, subst, ◌∙◌, append-nil, append_assoc}
use Rattle.std.proofs.lemmas.List.{map-append}
use Rattle.std.proofs.lemmas.List.Concat.{flat_map-append}
use Rattle.register.specs.declared.keyings.KeyedPaper.{KeyedPaper}
use Rattle.register.specs.declared.polls.Judgement.{Judgement}
use Rattle.register.specs.declared.polls.Ballots.{Ballots}
use Rattle.register.specs.Offices.{WardEntry, CandidateEntry, BatchEntry, JudgedEntry, OfficeState, keyed_entry, ward_at, candidates_of, verdicts_of}
use Rattle.register.specs.Agreement.{batches_of}
use Rattle.register.specs.Polls.{piles_of, StandFor, judgement_on, judgements_on, settled_papers, settled_judgements, ballots_in, ballots_by}
use Rattle.register.specs.Nominations.{is_contested}
use Rattle.register.specs.Elections.{election_of, is_counted, is_in_count}
use Rattle.register.specs.StateConditions.{IsState}
use Rattle.register.proofs.MapLemmas.{found_number}
use Rattle.store.specs.Elections.{is_counted_with, IsInCount}
use Rattle.store.specs.Settled.{CountAfter}
use Rattle.store.proofs.ElectionLemmas.{ward_there}

module _ {P : Type 0} (holds : P → List (List ℕ) → Type 0) (were : List Judgement → Type 0) (columns : List ℕ) (verdicts : List JudgedEntry) where
  -- no papers have been counted yet
  pub count_none : (ballots : Ballots P) → ((js : List Judgement) → were js → StandFor holds ballots (ballots_by js)) → CountAfter holds were columns verdicts ballots []
  count_none ballots start = λ js counted. subst (λ (ls : List Judgement). StandFor holds ballots (ballots_by ls)) (sym (append-nil js)) (start js counted)

  -- another paper is counted after the others
  pub count_more : (old new : Ballots P) (before : List KeyedPaper) (k : KeyedPaper)
      → ((js : List Judgement) → StandFor holds old (ballots_by js) → StandFor holds new (ballots_by (js ++ judgement_on columns verdicts (keyed_entry k) ∷ [])))
      → CountAfter holds were columns verdicts old (map keyed_entry before) → CountAfter holds were columns verdicts new (map keyed_entry (before ++ k ∷ []))
  count_more old new before k added counted = λ js were_counted.
      let told = judgements_on columns verdicts (map keyed_entry before) in
      let all : told ++ judgement_on columns verdicts (keyed_entry k) ∷ [] ≡ judgements_on columns verdicts (map keyed_entry (before ++ k ∷ [])) =
      sym (ap (judgements_on columns verdicts) (map-append keyed_entry before (k ∷ [])) ∙ map-append (judgement_on columns verdicts) (map keyed_entry before) (keyed_entry k ∷ [])) in
      subst (λ (ls : List Judgement). StandFor holds new (ballots_by ls)) (append_assoc js told (judgement_on columns verdicts (keyed_entry k) ∷ []) ∙ ap
      (λ (ls : List Judgement). js ++ ls) all) (added (js ++ told) (counted js were_counted))

-- the judgements on another batch
pub judgements_after : (s : OfficeState) (columns : List ℕ) (bs : List BatchEntry) (b : BatchEntry)
    → settled_judgements s columns bs ++ judgements_on columns (verdicts_of s b.number) (settled_papers s b) ≡ settled_judgements s columns (bs ++ b ∷ [])
judgements_after s columns bs b =
    let own = λ (x : BatchEntry). judgements_on columns (verdicts_of s x.number) (settled_papers s x) in
    sym (flat_map-append own bs (b ∷ []) ∙ ap (λ (js : List Judgement). settled_judgements s columns bs ++ js) (append-nil (own b)))

-- ---- wards in count

-- a ward recognized as being in count is in count
pub found_in_count : (s : OfficeState) (ward : ℕ) (found : Option WardEntry) (candidates : List CandidateEntry) (in_count : Bool) → found ≡ ward_at s ward → candidates ≡ candidates_of s ward
    → in_count ≡ is_counted_with found candidates → in_count ≡ true → IsInCount s ward
found_in_count s ward None candidates in_count there all tells counted = absurd cc
found_in_count s ward (Some w) candidates in_count there all tells counted =
    let number = found_number (λ (x : WardEntry). x.number) s.wards ward w (sym there) in
    (w, sym there, subst (λ (cs : List CandidateEntry). (is_counted w.phase && is_contested w cs) ≡ true) (all ∙ ap (candidates_of s) number) (sym tells ∙ counted))

-- the ballots of the ward's papers are those of the papers that settled its batches
pub counted_alone : ((s : OfficeState) (w : WardEntry) (columns : List ℕ) → IsState s → ward_at s w.number ≡ Some w → is_in_count (election_of s w) ≡ true
    → ballots_in columns (piles_of s w.number) ≡ ballots_by (settled_judgements s columns (batches_of s w.number)))
    → (s : OfficeState) → IsState s → (ward : ℕ) (columns : List ℕ) → IsInCount s ward → ballots_by (settled_judgements s columns (batches_of s ward)) ≡ ballots_in columns (piles_of s ward)
counted_alone suffice s is ward columns (w, there, counted) =
    let number : ward ≡ w.number = found_number (λ (x : WardEntry). x.number) s.wards ward w there in
    sym (subst (λ n. ballots_in columns (piles_of s n) ≡ ballots_by (settled_judgements s columns (batches_of s n))) (sym number) (suffice s w columns is (ward_there s ward w there) counted))
