-- What a clerk sees, and the decisions on the clerk's own requests, follow from what the clerk has observed.
use Rattle.std.proofs.Common.{◌≡◌, ℕ, Bool, true, false, cond, not, ◌&&◌, ◌==◌, List, [], ◌∷◌, ◌++◌, map, filter, Option, Some, None, string_bytes, refl, sym, ap, subst, ◌∙◌}
use Rattle.std.specs.Prelude.{⊤}
use Rattle.std.specs.Ordering.{is_eq, is_lt}
use Rattle.std.specs.Str.{bytes_eq}
use Rattle.std.proofs.lemmas.Bool.{and_parts, eqb-true, ne_eqb}
use Rattle.register.specs.declared.phase.Phase.{Phase}
use Rattle.register.specs.declared.refusal.Reason.{Reason}
use Rattle.register.specs.declared.refusal.Reason.TheVariants.{BadId, IdUsed}
use Rattle.register.specs.declared.command.Command.{Command}
use Rattle.register.specs.declared.command.Command.TheVariants.{Ward, Candidate, Batch, Keying, Verdict, Count}
use Rattle.register.specs.declared.command.Request.{Request}
use Rattle.register.specs.declared.wards.WardCommand.TheVariants as ward_command
use Rattle.register.specs.declared.candidates.CandidateCommand.TheVariants as candidate_command
use Rattle.register.specs.declared.batches.BatchCommand.TheVariants as batch_command
use Rattle.register.specs.declared.counts.CountCommand.TheVariants as count_command
use Rattle.register.specs.Reasons.{first_reason}
use Rattle.register.specs.Ranges.{is_clerk, is_id, is_office}
use Rattle.register.specs.Offices.{KeyedEntry, OfficeState, ReceiptEntry, WardEntry, changed, put, receipt_at, receipt_cmp, ward_cmp, ward_compared}
use Rattle.register.specs.StateConditions.{IsState}
use Rattle.register.specs.Effects.{ChangeEntry, EffectEntry, at_stage, batch_added, batch_reopened, candidate_added, candidate_withdrawn, in_phase, lot_drawn, paper_judged, papers_keyed}
use Rattle.register.specs.Effects.{stage_counted, third_set, ward_added, ward_moved, with_change, with_effect}
use Rattle.register.specs.Machine.{Ruling, accepts, keeps, refuses, after_one, answered, decided, effect_of, judged, objections, outcome_at, part_of, ruling_at, state_after, step, subject_of}
use Rattle.register.specs.CommandInputs.{CommandInputEntries}
use Rattle.register.specs.Seen.{seen_by}
use Rattle.register.proofs.MachineLemmas.{step_stays}
use Rattle.register.proofs.MapLemmas.{filter_put}
use Rattle.register.specs.Status.{paper_at, work_of}
use Rattle.register.proofs.SeenLemmas.{paper_seen, ruling_on_seen, stands_alone, unseen_by, work_seen}
use Rattle.laws.specs.Blindness.{AlikeOfficesAnswerAlike, ClerksAreBlind, DecidedByObserved, Observation, IsUnobserved, OwnAreObserved, SeenIsAlike, SeenIsObserved, asked, decided_alone}
use Rattle.laws.specs.Blindness.{observed_at, observed_by, observed_of, is_shown, is_shown_command, made, own_rulings, ruling_on, seen_after}

-- ---- how a change looks to a clerk

-- filtering twice is the same as filtering once
filter_again : {X : Type 0} (p : X → Bool) (xs : List X) → filter p (filter p xs) ≡ filter p xs
filter_again p [] = refl
filter_again {X} p (x ∷ xs) = go (p x) refl (filter_again p xs)
  where
    go : (b : Bool) → p x ≡ b → filter p (filter p xs) ≡ filter p xs → filter p (cond b (x ∷ filter p xs) (filter p xs)) ≡ cond b (x ∷ filter p xs) (filter p xs)
    go true passes later = rw passes (ap (λ (ys : List X). x ∷ ys) later)
    go false passes later = later

-- reducing wards to what clerks see twice is the same as doing it once
seen_wards : (ws : List WardEntry) → map (at_stage 0) (map (at_stage 0) ws) ≡ map (at_stage 0) ws
seen_wards [] = refl
seen_wards (w ∷ ws) = ap (λ (xs : List WardEntry). at_stage 0 w ∷ xs) (seen_wards ws)

-- adding a ward to wards reduced to what clerks see, and reducing the result, is the same as adding it before reducing
seen_put : (w : WardEntry) (ws : List WardEntry) → map (at_stage 0) (put ward_cmp w (map (at_stage 0) ws)) ≡ map (at_stage 0) (put ward_cmp w ws)
seen_put w [] = refl
seen_put w (x ∷ ws) = go (is_lt (ward_cmp w x)) (seen_put w ws)
  where
    go : (b : Bool) → map (at_stage 0) (put ward_cmp w (map (at_stage 0) ws)) ≡ map (at_stage 0) (put ward_cmp w ws)
        → map (at_stage 0) (cond b (w ∷ at_stage 0 x ∷ map (at_stage 0) ws) (at_stage 0 x ∷ put ward_cmp w (map (at_stage 0) ws)))
        ≡ map (at_stage 0) (cond b (w ∷ x ∷ ws) (x ∷ put ward_cmp w ws))
    go true later = ap (λ (xs : List WardEntry). at_stage 0 w ∷ at_stage 0 x ∷ xs) (seen_wards ws)
    go false later = ap (λ (xs : List WardEntry). at_stage 0 x ∷ xs) later

-- moving a ward to another phase among such reduced wards, and reducing the result, is the same as moving it before reducing
seen_moved : (n : ℕ) (phase : Phase) (ws : List WardEntry)
    → map (at_stage 0) (changed (ward_compared n) (in_phase phase) (map (at_stage 0) ws)) ≡ map (at_stage 0) (changed (ward_compared n) (in_phase phase) ws)
seen_moved n phase [] = refl
seen_moved n phase (w ∷ ws) = go (is_eq (ward_compared n w)) (seen_moved n phase ws)
  where
    go : (b : Bool) → map (at_stage 0) (changed (ward_compared n) (in_phase phase) (map (at_stage 0) ws)) ≡ map (at_stage 0) (changed (ward_compared n) (in_phase phase) ws)
        → at_stage 0 (cond b (in_phase phase (at_stage 0 w)) (at_stage 0 w)) ∷ map (at_stage 0) (changed (ward_compared n) (in_phase phase) (map (at_stage 0) ws))
        ≡ at_stage 0 (cond b (in_phase phase w) w) ∷ map (at_stage 0) (changed (ward_compared n) (in_phase phase) ws)
    go true later = ap (λ (xs : List WardEntry). at_stage 0 (in_phase phase w) ∷ xs) later
    go false later = ap (λ (xs : List WardEntry). at_stage 0 w ∷ xs) later

-- setting the number of completed stages doesn't affect what clerks see of the wards
seen_staged : (n done : ℕ) (ws : List WardEntry) → map (at_stage 0) (changed (ward_compared n) (at_stage done) ws) ≡ map (at_stage 0) ws
seen_staged n done [] = refl
seen_staged n done (w ∷ ws) = go (is_eq (ward_compared n w)) (seen_staged n done ws)
  where
    go : (b : Bool) → map (at_stage 0) (changed (ward_compared n) (at_stage done) ws) ≡ map (at_stage 0) ws
        → at_stage 0 (cond b (at_stage done w) w) ∷ map (at_stage 0) (changed (ward_compared n) (at_stage done) ws) ≡ at_stage 0 w ∷ map (at_stage 0) ws
    go true later = ap (λ (xs : List WardEntry). at_stage 0 w ∷ xs) later
    go false later = ap (λ (xs : List WardEntry). at_stage 0 w ∷ xs) later

-- an effect that keys no papers, as is the case for every office command
abbrev IsNoKeying : EffectEntry → Type 0
IsNoKeying (papers_keyed papers) = ⊥
IsNoKeying effect = ⊤

module _ (clerk : ℕ) (s : OfficeState) where
  -- if a clerk's own keyings and receipts are unchanged, the clerk still sees the same ones
  own_again : (wards : List WardEntry) (t : OfficeState) → t.keyings ≡ s.keyings → t.receipts ≡ s.receipts → wards ≡ map (at_stage 0) t.wards
      → record (seen_by clerk t) {
        wards = wards;
        keyings = filter (λ (k : KeyedEntry). k.clerk == clerk) (filter (λ (k : KeyedEntry). k.clerk == clerk) s.keyings);
        receipts = filter (λ (r : ReceiptEntry). r.actor == clerk) (filter (λ (r : ReceiptEntry). r.actor == clerk) s.receipts);
      }
      ≡ seen_by clerk t
  own_again wards t keyings receipts same =
      ap (λ (ks : List KeyedEntry). record (seen_by clerk t) {
        wards = wards;
        keyings = ks;
        receipts = filter (λ (r : ReceiptEntry). r.actor == clerk)
            (filter (λ (r : ReceiptEntry). r.actor == clerk) s.receipts);
      })
      (filter_again (λ (k : KeyedEntry). k.clerk == clerk) s.keyings ∙ ap (filter (λ (k : KeyedEntry). k.clerk == clerk)) (sym keyings))
      ∙ ap (λ (rs : List ReceiptEntry). record (seen_by clerk t) { wards = wards; receipts = rs })
      (filter_again (λ (r : ReceiptEntry). r.actor == clerk) s.receipts ∙ ap (filter (λ (r : ReceiptEntry). r.actor == clerk)) (sym receipts))
      ∙ ap (λ (ws : List WardEntry). record (seen_by clerk t) { wards = ws }) same

  -- after an effect of the office that is shown, a clerk sees the result of applying it to what they saw before; after any other effect, a
  -- clerk sees the same as before
  shown : (effect : EffectEntry) → is_shown effect ≡ true → seen_by clerk (with_effect effect (seen_by clerk s)) ≡ seen_by clerk (with_effect effect s)
  shown (ward_added w) is = own_again _ (with_effect (ward_added w) s) refl refl (seen_put w s.wards)
  shown (ward_moved ward phase) is = own_again _ (with_effect (ward_moved ward phase) s) refl refl (seen_moved ward phase s.wards)
  shown (candidate_added c) is = own_again _ (with_effect (candidate_added c) s) refl refl (seen_wards s.wards)
  shown (candidate_withdrawn ward candidate) is = own_again _ (with_effect (candidate_withdrawn ward candidate) s) refl refl (seen_wards s.wards)
  shown (batch_added b) is = own_again _ (with_effect (batch_added b) s) refl refl (seen_wards s.wards)
  shown (batch_reopened batch round) is = own_again _ (with_effect (batch_reopened batch round) s) refl refl (seen_wards s.wards)
  shown (third_set t) is = own_again _ (with_effect (third_set t) s) refl refl (seen_wards s.wards)
  shown effect is = absurd (cc)

  unshown : (effect : EffectEntry) → is_shown effect ≡ false → IsNoKeying effect → seen_by clerk (with_effect effect s) ≡ seen_by clerk s
  unshown (papers_keyed papers) is none = absurd none
  unshown (paper_judged v) is none = refl
  unshown (stage_counted ward done) is none = ap (λ (ws : List WardEntry). record (seen_by clerk s) { wards = ws }) (seen_staged ward done s.wards)
  unshown (lot_drawn l) is none = refl
  unshown effect is none = absurd (cc)

  -- a clerk doesn't see another actor's receipt
  receipt_unseen : (change : ChangeEntry) → (change.receipt.actor == clerk) ≡ false → seen_by clerk (with_change change s) ≡ seen_by clerk (with_effect change.effect s)
  receipt_unseen change other =
      ap (λ (rs : List ReceiptEntry). record (seen_by clerk (with_effect change.effect s)) { receipts = rs })
      (filter_put receipt_cmp (λ (r : ReceiptEntry). r.actor == clerk) change.receipt (with_effect change.effect s).receipts other)

-- ---- a request from the office

-- the ruling on it: its change, if any, has a receipt for an actor other than the clerk, and keys no papers
abbrev IsByOffice : ℕ → Ruling → Type 0
IsByOffice clerk (accepts change reply) = ((change.receipt.actor == clerk) ≡ false) × IsNoKeying change.effect
IsByOffice clerk (keeps reply) = ⊤
IsByOffice clerk (refuses why) = ⊤

-- the office isn't a clerk, and only clerks may key papers
no_clerk : (actor : ℕ) → is_office actor ≡ true → is_clerk actor ≡ false
no_clerk actor office = ap is_clerk (eqb-true actor 0 office)

module _ (clerk actor : ℕ) (id : List ℕ) (other : (actor == clerk) ≡ false) (office : is_office actor ≡ true) where
  by_office : (c : Command) (part : CommandInputEntries) → IsNoKeying (effect_of actor c part) → IsByOffice clerk (judged actor id c part (first_reason (objections actor c part)))
  by_office c part none = go (first_reason (objections actor c part))
    where
      go : (o : Option Reason) → IsByOffice clerk (judged actor id c part o)
      go (Some why) = tt
      go None = (other, none)

  judged_so : (c : Command) (part : CommandInputEntries) → IsByOffice clerk (judged actor id c part (first_reason (objections actor c part)))
  judged_so (Ward (ward_command.Add ward seats name)) part = by_office (Ward (ward_command.Add ward seats name)) part tt
  judged_so (Ward (ward_command.Close ward)) part = by_office (Ward (ward_command.Close ward)) part tt
  judged_so (Candidate (candidate_command.Add ward candidate name)) part = by_office (Candidate (candidate_command.Add ward candidate name)) part tt
  judged_so (Candidate (candidate_command.Withdraw ward candidate)) part = by_office (Candidate (candidate_command.Withdraw ward candidate)) part tt
  judged_so (Batch (batch_command.Add batch ward size first_clerk second_clerk)) part = by_office (Batch (batch_command.Add batch ward size first_clerk second_clerk)) part tt
  judged_so (Batch (batch_command.Again batch)) part = by_office (Batch (batch_command.Again batch)) part tt
  judged_so (Batch (batch_command.Third batch third)) part = by_office (Batch (batch_command.Third batch third)) part tt
  judged_so (Keying c) part = rw (no_clerk actor office) tt
  judged_so (Verdict c) part = by_office (Verdict c) part tt
  judged_so (Count (count_command.Seal ward)) part = by_office (Count (count_command.Seal ward)) part tt
  judged_so (Count (count_command.Advance ward)) part = by_office (Count (count_command.Advance ward)) part tt
  judged_so (Count (count_command.Lot ward stage candidate)) part = by_office (Count (count_command.Lot ward stage candidate)) part tt
  judged_so (Count (count_command.Declare ward)) part = by_office (Count (count_command.Declare ward)) part tt

  decided_so : (s : OfficeState) (command : Command) → IsByOffice clerk (ruling_at s actor id command)
  unfolding decided
  decided_so s command = go (is_id id) (receipt_at s actor id)
    where
      go : (b : Bool) (o : Option ReceiptEntry) → IsByOffice clerk (cond b (answered actor id command o (part_of s actor command)) (refuses BadId))
      go false o = tt
      go true (Some r) = elim (bytes_eq r.subject (subject_of command)) as (λ b. IsByOffice clerk (cond b (keeps r.reply) (refuses IdUsed))) [ true ↦ tt | false ↦ tt ]
      go true None = judged_so command (part_of s actor command)

-- a clerk observes nothing of a command if clerks don't see its change
module _ (actor : ℕ) (id : List ℕ) (office : is_office actor ≡ true) where
  judged_unobserved : (s : OfficeState) (c : Command) (part : CommandInputEntries) → is_shown_command c ≡ false → observed_of (judged actor id c part (first_reason (objections actor c part))) ≡ []
  judged_unobserved s (Keying c) part unshown = rw (no_clerk actor office) refl
  judged_unobserved s (Verdict c) part unshown = nothing (first_reason (objections actor (Verdict c) part))
    where
      nothing : (o : Option Reason) → observed_of (judged actor id (Verdict c) part o) ≡ []
      nothing (Some why) = refl
      nothing None = refl
  judged_unobserved s (Count (count_command.Advance ward)) part unshown = nothing (first_reason (objections actor (Count (count_command.Advance ward)) part))
    where
      nothing : (o : Option Reason) → observed_of (judged actor id (Count (count_command.Advance ward)) part o) ≡ []
      nothing (Some why) = refl
      nothing None = refl
  judged_unobserved s (Count (count_command.Lot ward stage candidate)) part unshown = nothing (first_reason (objections actor (Count (count_command.Lot ward stage candidate)) part))
    where
      nothing : (o : Option Reason) → observed_of (judged actor id (Count (count_command.Lot ward stage candidate)) part o) ≡ []
      nothing (Some why) = refl
      nothing None = refl
  judged_unobserved s c part unshown = absurd (cc)

  ruling_unobserved : (s : OfficeState) (c : Command) → is_shown_command c ≡ false → observed_of (ruling_at s actor id c) ≡ []
  unfolding decided
  ruling_unobserved s c unshown = go (is_id id) (receipt_at s actor id)
    where
      go : (b : Bool) (o : Option ReceiptEntry) → observed_of (cond b (answered actor id c o (part_of s actor c)) (refuses BadId)) ≡ []
      go false o = refl
      go true (Some r) = elim (bytes_eq r.subject (subject_of c)) as (λ b. observed_of (cond b (keeps r.reply) (refuses IdUsed)) ≡ []) [ true ↦ refl | false ↦ refl ]
      go true None = judged_unobserved s c (part_of s actor c) unshown

-- so a request is unobserved if it is neither the clerk's own nor an office request whose change clerks see
pub unobserved : (clerk : ℕ) (r : Request) → (r.actor ≡ clerk → ⊥) → (is_office r.actor && is_shown_command r.command) ≡ false → IsUnobserved clerk r
unobserved clerk r other none s = rw (ne_eqb r.actor clerk other) (go (is_office r.actor) refl (is_shown_command r.command) refl none)
  where
    go : (b : Bool) → is_office r.actor ≡ b → (c : Bool) → is_shown_command r.command ≡ c → (b && c) ≡ false → cond b (observed_of (ruling_on s r)) [] ≡ []
    go false office c shown none = refl
    go true office true shown none = absurd (cc)
    go true office false shown none = ruling_unobserved r.actor (string_bytes r.id) office s r.command shown

module _ (clerk : ℕ) where
  -- what a clerk sees after a ruling is determined by what they saw before
  made_seen : (s : OfficeState) (ruling : Ruling) → IsByOffice clerk ruling → seen_by clerk (state_after s (outcome_at s ruling)) ≡ seen_after clerk (seen_by clerk s) (observed_of ruling)
  made_seen s (accepts change reply) by = receipt_unseen clerk s change by.0 ∙ go (is_shown change.effect) refl
    where
      go : (b : Bool) → is_shown change.effect ≡ b → seen_by clerk (with_effect change.effect s) ≡ seen_after clerk (seen_by clerk s) (cond b (made change.effect ∷ []) [])
      go true is = sym (shown clerk s change.effect is)
      go false is = unshown clerk s change.effect is by.1
  made_seen s (keeps reply) by = refl
  made_seen s (refuses why) by = refl

  -- the ruling isn't on any of the clerk's own requests
  none_decided : (seen : OfficeState) (ruling : Ruling) (observed : List Observation)
      → decided_alone clerk seen (observed_of ruling ++ observed) ≡ decided_alone clerk (seen_after clerk seen (observed_of ruling)) observed
  none_decided seen (accepts change reply) observed =
      elim (is_shown change.effect) as (λ b. decided_alone clerk seen (cond b (made change.effect ∷ []) [] ++ observed)
      ≡ decided_alone clerk (seen_after clerk seen (cond b (made change.effect ∷ []) [])) observed) [ true ↦ refl | false ↦ refl ]
  none_decided seen (keeps reply) observed = refl
  none_decided seen (refuses why) observed = refl

  -- adding further observations
  seen_more : (seen : OfficeState) (before observed : List Observation) → seen_after clerk seen (before ++ observed) ≡ seen_after clerk (seen_after clerk seen before) observed
  seen_more seen [] observed = refl
  seen_more seen (asked r ∷ before) observed = seen_more (after_one seen r) before observed
  seen_more seen (made effect ∷ before) observed = seen_more (seen_by clerk (with_effect effect seen)) before observed

  -- ---- one request

  module _ (s : OfficeState) (r : Request) (good : is_office clerk ≡ false) (is : IsState s) where
    not_office : (r.actor == clerk) ≡ true → is_office r.actor ≡ false
    not_office own = ap is_office (eqb-true r.actor clerk own) ∙ good

    own_seen : (r.actor == clerk) ≡ true → seen_by clerk (after_one s r) ≡ after_one (seen_by clerk s) r
    own_seen own =
        subst (λ (n : ℕ). seen_by n (after_one s r) ≡ after_one (seen_by n s) r) (eqb-true r.actor clerk own) (stands_alone s r.actor (string_bytes r.id) (not_office own) is r.command)

    own_decided : (r.actor == clerk) ≡ true → ruling_on s r ≡ ruling_on (seen_by clerk s) r
    own_decided own =
        subst (λ (n : ℕ). ruling_on s r ≡ ruling_on (seen_by n s) r) (eqb-true r.actor clerk own) (sym (ruling_on_seen s r.actor (string_bytes r.id) r.command (not_office own)))

    office_seen : (r.actor == clerk) ≡ false → is_office r.actor ≡ true → seen_by clerk (after_one s r) ≡ seen_after clerk (seen_by clerk s) (observed_of (ruling_on s r))
    unfolding step
    office_seen other office = made_seen s (ruling_on s r) (decided_so clerk r.actor (string_bytes r.id) other office s r.command)

    other_seen : (r.actor == clerk) ≡ false → is_office r.actor ≡ false → seen_by clerk (after_one s r) ≡ seen_by clerk s
    other_seen other clerks = unseen_by s r.actor (string_bytes r.id) clerks r.command clerk other

    -- what the clerk sees after the request is determined by what they observed of it
    one_seen : seen_by clerk (after_one s r) ≡ seen_after clerk (seen_by clerk s) (observed_at clerk s r)
    one_seen = go (r.actor == clerk) refl (is_office r.actor) refl
      where
        go : (b : Bool) → (r.actor == clerk) ≡ b → (c : Bool) → is_office r.actor ≡ c
            → seen_by clerk (after_one s r) ≡ seen_after clerk (seen_by clerk s) (cond b (asked r ∷ []) (cond c (observed_of (ruling_on s r)) []))
        go true own c office = own_seen own
        go false other true office = office_seen other office
        go false other false clerks = other_seen other clerks

    -- the rulings on the clerk's own request, and on later ones, are also determined by what they observed
    one_decided : (observed : List Observation) (later : List Ruling) → later ≡ decided_alone clerk (seen_by clerk (after_one s r)) observed
        → cond (r.actor == clerk) (ruling_on s r ∷ later) later ≡ decided_alone clerk (seen_by clerk s) (observed_at clerk s r ++ observed)
    one_decided observed later same = go (r.actor == clerk) refl (is_office r.actor) refl
      where
        go : (b : Bool) → (r.actor == clerk) ≡ b → (c : Bool) → is_office r.actor ≡ c
            → cond b (ruling_on s r ∷ later) later ≡ decided_alone clerk (seen_by clerk s) (cond b (asked r ∷ []) (cond c (observed_of (ruling_on s r)) []) ++ observed)
        go true own c office =
            ap (λ (x : Ruling). x ∷ later) (own_decided own)
            ∙ ap (λ (xs : List Ruling). ruling_on (seen_by clerk s) r ∷ xs) (same ∙ ap (λ (v : OfficeState). decided_alone clerk v observed) (own_seen own))
        go false other true office =
            same ∙ ap (λ (v : OfficeState). decided_alone clerk v observed) (office_seen other office) ∙ sym (none_decided (seen_by clerk s) (ruling_on s r) observed)
        go false other false clerks = same ∙ ap (λ (v : OfficeState). decided_alone clerk v observed) (other_seen other clerks)

-- ---- any list of requests

pub seen_is_observed : SeenIsObserved
seen_is_observed clerk s [] good is = refl
seen_is_observed clerk s (r ∷ rs) good is =
    seen_is_observed clerk (after_one s r) rs good (step_stays s r.actor (string_bytes r.id) r.command is)
    ∙ ap (λ (v : OfficeState). seen_after clerk v (observed_by clerk (after_one s r) rs)) (one_seen clerk s r good is)
    ∙ sym (seen_more clerk (seen_by clerk s) (observed_at clerk s r) (observed_by clerk (after_one s r) rs))

pub decided_by_observed : DecidedByObserved
decided_by_observed clerk s [] good is = refl
decided_by_observed clerk s (r ∷ rs) good is =
    one_decided clerk s r good is (observed_by clerk (after_one s r) rs) (own_rulings clerk (after_one s r) rs)
    (decided_by_observed clerk (after_one s r) rs good (step_stays s r.actor (string_bytes r.id) r.command is))

pub own_observed : OwnAreObserved
own_observed clerk s [] none = refl
own_observed clerk s (r ∷ rs) none =
    let both = and_parts (not (is_office r.actor)) _ none in
    go (r.actor == clerk) (is_office r.actor) both.0 (own_observed clerk (after_one s r) rs both.1)
  where
    go : (b c : Bool) → not c ≡ true → observed_by clerk (after_one s r) rs ≡ map asked (filter (λ (x : Request). x.actor == clerk) rs)
        → cond b (asked r ∷ []) (cond c (observed_of (ruling_on s r)) []) ++ observed_by clerk (after_one s r) rs
        ≡ map asked (cond b (r ∷ filter (λ (x : Request). x.actor == clerk) rs) (filter (λ (x : Request). x.actor == clerk) rs))
    go true c clerks later = ap (λ (hs : List Observation). asked r ∷ hs) later
    go false true clerks later = absurd (cc)
    go false false clerks later = later

-- ---- two offices

pub seen_alike : SeenIsAlike
seen_alike clerk s = sym (own_again clerk s (map (at_stage 0) (map (at_stage 0) s.wards)) s refl refl (seen_wards s.wards))

pub alike_offices_answer_alike : AlikeOfficesAnswerAlike
alike_offices_answer_alike clerk s t good alike = record {
  decided = λ id command.
      sym (ruling_on_seen s clerk id command good) ∙ ap (λ (v : OfficeState). ruling_at v clerk id command) alike ∙ ruling_on_seen t clerk id command good;
  work = sym (work_seen s clerk) ∙ ap (λ (v : OfficeState). work_of v clerk) alike ∙ work_seen t clerk;
  paper = λ batch. sym (paper_seen s clerk batch) ∙ ap (λ (v : OfficeState). paper_at v clerk batch) alike ∙ paper_seen t clerk batch;
}

pub clerks_blind : ClerksAreBlind
clerks_blind clerk s t rs qs good is too alike observed = record {
  decided =
      decided_by_observed clerk s rs good is ∙ ap (λ (v : OfficeState). decided_alone clerk v (observed_by clerk s rs)) alike
      ∙ ap (decided_alone clerk (seen_by clerk t)) observed ∙ sym (decided_by_observed clerk t qs good too);
  alike =
      seen_is_observed clerk s rs good is ∙ ap (λ (v : OfficeState). seen_after clerk v (observed_by clerk s rs)) alike
      ∙ ap (seen_after clerk (seen_by clerk t)) observed ∙ sym (seen_is_observed clerk t qs good too);
}
