-- Among the answers to many requests, a clerk's answers are the ones that this clerk's requests alone would get.
use Rattle.std.proofs.Common.{◌≡◌, inl, inr, ℕ, zero, suc, Bool, true, false, cond, not, ◌==◌, List, [], ◌∷◌, map, filter, take, Result, Ok, Err, string_bytes, refl, sym, ap, ◌∙◌, subst}
use Rattle.std.proofs.lemmas.Bool.{and_parts, eqb-true}
use Rattle.std.specs.List.{zip}
use Rattle.sqlite.specs.State.{State}
use Rattle.register.specs.declared.command.Command.{Command}
use Rattle.register.specs.declared.command.Request.{Request}
use Rattle.register.specs.Ranges.{is_office}
use Rattle.register.specs.Offices.{OfficeState}
use Rattle.register.specs.StateConditions.{IsState}
use Rattle.register.specs.Seen.{seen_by}
use Rattle.register.specs.Machine.{Ruling, accepts, keeps, refuses, ruling_at, outcome_at, step, step_of, after_one}
use Rattle.register.proofs.MachineLemmas.{step_stays}
use Rattle.register.proofs.SeenLemmas.{ruling_on_seen, unseen_by, stands_alone}
use Rattle.tables.specs.declared.fault.Fault.{Fault}
use Rattle.store.specs.StateTables.{LeavesState}
use Rattle.office.specs.declared.answers.Answer.{Answer}
use Rattle.office.specs.Answers.{told, told_of, Handled}
use Rattle.office.specs.Runs.{outcomes}
use Rattle.office.specs.Clerks.{none_is_the_office, own_requests, own_answers}

-- the content of the answer to a ruling doesn't depend on the state
told_alike : (s t : OfficeState) (r : Ruling) → told_of (outcome_at s r) ≡ told_of (outcome_at t r)
told_alike s t (accepts change reply) = refl
told_alike s t (keeps reply) = refl
told_alike s t (refuses why) = refl

-- a clerk gets the answer that follows from what the clerk can see, and from nothing else
pub told_seen : (s : OfficeState) (actor : ℕ) (id : List ℕ) (command : Command) → is_office actor ≡ false → told_of (step s actor id command) ≡ told_of (step (seen_by actor s) actor id command)
unfolding step
told_seen s actor id command clerk =
    told_alike s (seen_by actor s) (ruling_at s actor id command) ∙ ap (λ (r : Ruling). told_of (outcome_at (seen_by actor s) r)) (sym (ruling_on_seen s actor id command clerk))

-- after a stop during a clerk's request, any other clerk sees the same things as before
pub leaves_unseen : (s : OfficeState) (actor : ℕ) (id : List ℕ) (command : Command) (other : ℕ) → is_office actor ≡ false → (actor == other) ≡ false
    → (r : Result Answer Fault) (closed : Bool) (st : State)
    → Handled s (step s actor id command) r closed st → LeavesState st (λ x. seen_by other x ≡ seen_by other s)
leaves_unseen s actor id command other clerk apart (Ok answer) closed st handled = λ trees may.
    let it = handled.1.at.leaves trees may in
    (it.0, ap (seen_by other) it.1 ∙ unseen_by s actor id clerk command other apart, it.2)
leaves_unseen s actor id command other clerk apart (Err f) closed st handled = elim handled [
  | inl kept ↦ λ trees may. let it = kept.open_at.at.leaves trees may in (it.0, ap (seen_by other) it.1, it.2)
  | inr shut ↦ λ trees may. let it = shut.leaves trees may in elim it.1 [
    | inl before ↦ (it.0, ap (seen_by other) before, it.2)
    | inr next ↦ (it.0, ap (seen_by other) next ∙ unseen_by s actor id clerk command other apart, it.2)
  ]
]

-- ---- a list of clerks' requests

no_office : (b : Bool) → not b ≡ true → b ≡ false
no_office true h = absurd (cc)
no_office false h = refl

module _ (clerk : ℕ) where
  -- what the first request adds to the answers
  first_told : (s : OfficeState) (r : Request) (a : Answer) (rs next : List Request) (given : List Answer) → IsState s → is_office r.actor ≡ false → told a ≡ told_of (step_of s r)
      → map told (own_answers clerk rs given) ≡ map told_of (outcomes (seen_by clerk (after_one s r)) (own_requests clerk next))
      → map told (own_answers clerk (r ∷ rs) (a ∷ given)) ≡ map told_of (outcomes (seen_by clerk s) (own_requests clerk (r ∷ next)))
  first_told s r a rs next given is good same later = go (r.actor == clerk) refl
    where
      go : (b : Bool) → (r.actor == clerk) ≡ b
          → map told (map (λ (p : Request × Answer). p.1) (cond b ((r, a) ∷ filter (λ (p : Request × Answer). p.0.actor == clerk) (zip rs given))
          (filter (λ (p : Request × Answer). p.0.actor == clerk) (zip rs given))))
          ≡ map told_of (outcomes (seen_by clerk s) (cond b (r ∷ own_requests clerk next) (own_requests clerk next)))
      go true own =
          let here : told_of (step_of s r) ≡ told_of (step_of (seen_by clerk s) r) = subst (λ (n : ℕ). told_of (step_of s r) ≡ told_of (step_of (seen_by n s) r))
          (eqb-true r.actor clerk own) (told_seen s r.actor (string_bytes r.id) r.command good) in
          let alone : seen_by clerk (after_one s r) ≡ after_one (seen_by clerk s) r = subst (λ (n : ℕ). seen_by n (after_one s r) ≡ after_one (seen_by n s) r)
          (eqb-true r.actor clerk own) (stands_alone s r.actor (string_bytes r.id) good is r.command) in
          ap (λ t. t ∷ map told (own_answers clerk rs given)) (same ∙ here)
          ∙ ap (λ ts. told_of (step_of (seen_by clerk s) r) ∷ ts) (later ∙ ap (λ (x : OfficeState). map told_of (outcomes x (own_requests clerk next))) alone)
      go false other = later ∙ ap (λ (x : OfficeState). map told_of (outcomes x (own_requests clerk next))) (unseen_by s r.actor (string_bytes r.id) good r.command clerk other)

  -- a clerk's answers among the answers to the first requests
  pub told_alone : (s : OfficeState) (rs : List Request) (n : ℕ) (given : List Answer) → IsState s → none_is_the_office rs ≡ true → map told given ≡ map told_of (outcomes s (take n rs))
      → map told (own_answers clerk rs given) ≡ map told_of (outcomes (seen_by clerk s) (own_requests clerk (take n rs)))
  told_alone s [] zero given is good same = refl
  told_alone s [] (suc n) given is good same = refl
  told_alone s (r ∷ rs) zero [] is good same = refl
  told_alone s (r ∷ rs) zero (a ∷ given) is good same = absurd (cc)
  told_alone s (r ∷ rs) (suc n) [] is good same = absurd (cc)
  told_alone s (r ∷ rs) (suc n) (a ∷ given) is good same =
      let both = and_parts (not (is_office r.actor)) (none_is_the_office rs) good in
      let later = told_alone (after_one s r) rs n given (step_stays s r.actor (string_bytes r.id) r.command is) both.1 (cc) in
      first_told s r a rs (take n rs) given is (no_office (is_office r.actor) both.0) (cc) later
