-- The decision for a clerk depends only on what the clerk sees, and a clerk's requests don't change what any other clerk
-- sees.
use Rattle.std.proofs.Common.{◌≡◌, ℕ, ◌+◌, Bool, true, false, cond, not, ◌&&◌, ◌==◌, List, [], ◌∷◌, map, filter, Option, Some, None, option_map, option_and_then, refl, sym, ap, ◌∙◌}
use Rattle.std.specs.List.{list_all}
use Rattle.std.specs.Ordering.{nat_cmp, is_eq, ordering_then}
use Rattle.std.specs.Cmp.Lexicographic.{slice_cmp}
use Rattle.std.specs.Str.{bytes_eq}
use Rattle.std.proofs.lemmas.Bool.{and_parts, and_from, both_ways, eq-eqb}
use Rattle.register.specs.declared.phase.Phase.TheVariants.{Keying}
use Rattle.register.specs.declared.refusal.Reason.{Reason}
use Rattle.register.specs.declared.refusal.Reason.TheVariants.{BadId, IdUsed, NumberOutOfRange}
use Rattle.register.specs.declared.command.Command.{Command}
use Rattle.register.specs.declared.command.Command.TheVariants.{Ward, Candidate, Batch, Keying as Key, Count}
use Rattle.register.specs.declared.wards.WardCommand.TheVariants.{Close}
use Rattle.register.specs.declared.candidates.CandidateCommand.TheVariants.{Withdraw}
use Rattle.register.specs.declared.batches.BatchCommand.TheVariants.{Again}
use Rattle.register.specs.declared.counts.CountCommand.TheVariants.{Seal}
use Rattle.register.specs.declared.keyings.KeyingCommand.{KeyingCommand}
use Rattle.register.specs.Reasons.{first_reason}
use Rattle.register.specs.Ranges.{is_id, is_office}
use Rattle.register.specs.Offices.{WardEntry, BatchEntry, KeyedEntry, ReceiptEntry, OfficeState, put, put_each, entry_at, keyed_cmp, receipt_cmp, ward_compared, ward_at, batch_at, third_at}
use Rattle.register.specs.Offices.{keying_of, receipt_at}
use Rattle.register.specs.Seen.{seen_by}
use Rattle.register.specs.StateConditions.{IsState}
use Rattle.register.specs.Effects.{at_stage, with_change}
use Rattle.register.specs.Batches.{ward_for}
use Rattle.register.specs.Keyings as keyings
use Rattle.register.specs.Keyings.{texts_of, papers_from}
use Rattle.register.specs.CommandInputs.{CommandInputEntries, is_in_phase}
use Rattle.register.specs.Agreement.{is_keyed, is_its_clerk}
use Rattle.register.specs.Status.{BallotPaperEntry, WorkEntry, is_work, work_on, work_of, paper_of, paper_for, paper_at}
use Rattle.register.specs.Machine.{Ruling, keeps, refuses, part_of, objections, subject_of, receipt_for, judged, answered, decided, ruling_at, outcome_at, step, state_after}
use Rattle.register.proofs.MapLemmas.{filter_put, filter_put_in, filter_put_each, found_filter, same_number, both_equal}
use Rattle.register.proofs.ItemLemmas.{receipt_total}
use Rattle.register.proofs.KeyingLemmas.{keyed_among}

-- ---- commands that a clerk may not send

-- for any actor other than the office, every command except a keying is refused in any state
data IsOwn : Command → Type 0 where
  key : (command : KeyingCommand) → IsOwn (Key command)
  not_his : (command : Command) → ((part : CommandInputEntries) (actor : ℕ) → is_office actor ≡ false → first_reason (objections actor command part) ≡ Some NumberOutOfRange) → IsOwn command

kind_of : (command : Command) → IsOwn command
kind_of (Key command) = key command
kind_of (Ward (Close ward)) = not_his _ (λ part actor other. rw other refl)
kind_of (Candidate (Withdraw ward candidate)) = not_his _ (λ part actor other. rw other refl)
kind_of (Batch (Again batch)) = not_his _ (λ part actor other. rw other refl)
kind_of (Count (Seal ward)) = not_his _ (λ part actor other. rw other refl)
kind_of command = not_his _ (λ part actor other. rw other refl)

-- ---- what a clerk sees of the part of the state that a request needs

-- filtering by a weaker test first doesn't change the result of filtering by a stronger one
filter_both : {X : Type 0} (p q : X → Bool) → ((x : X) → p x ≡ true → q x ≡ true) → (xs : List X) → filter p (filter q xs) ≡ filter p xs
filter_both p q stronger [] = refl
filter_both {X} p q stronger (x ∷ xs) = go (q x) refl (p x) refl (filter_both p q stronger xs)
  where
    go : (b : Bool) → q x ≡ b → (c : Bool) → p x ≡ c → filter p (filter q xs) ≡ filter p xs → filter p (cond b (x ∷ filter q xs) (filter q xs)) ≡ cond c (x ∷ filter p xs) (filter p xs)
    go true is c passes later = rw passes (ap (λ (ys : List X). cond c (x ∷ ys) ys) later)
    go false is true passes later = absurd (both_ways (q x) is (stronger x passes))
    go false is false passes later = later

module _ (s : OfficeState) (actor : ℕ) where
  receipt_seen : (id : List ℕ) → receipt_at (seen_by actor s) actor id ≡ receipt_at s actor id
  receipt_seen id = found_filter (λ (r : ReceiptEntry). ordering_then (nat_cmp actor r.actor) (slice_cmp nat_cmp id r.id)) (λ r. r.actor == actor) s.receipts
      (λ r tied. eq-eqb r.actor actor (sym (same_number actor r.actor (both_equal (nat_cmp actor r.actor) (slice_cmp nat_cmp id r.id) tied).0)))

  ward_seen : (n : ℕ) → ward_at (seen_by actor s) n ≡ option_map (at_stage 0) (ward_at s n)
  ward_seen n = go s.wards
    where
      go : (ws : List WardEntry) → entry_at (ward_compared n) (map (at_stage 0) ws) ≡ option_map (at_stage 0) (entry_at (ward_compared n) ws)
      go [] = refl
      go (w ∷ ws) =
          elim (is_eq (ward_compared n w)) as (λ b. cond b (Some (at_stage 0 w)) (entry_at (ward_compared n) (map (at_stage 0) ws))
          ≡ option_map (at_stage 0) (cond b (Some w) (entry_at (ward_compared n) ws))) [ true ↦ refl | false ↦ go ws ]

  own_seen : (batch round : ℕ) → keying_of (seen_by actor s) batch round actor ≡ keying_of s batch round actor
  own_seen batch round = filter_both (λ (k : KeyedEntry). (k.batch == batch) && ((k.round == round) && (k.clerk == actor))) (λ k. k.clerk == actor)
      (λ k passes. (and_parts (k.round == round) (k.clerk == actor) (and_parts (k.batch == batch) ((k.round == round) && (k.clerk == actor)) passes).1).1) s.keyings

  -- the part of the state that a keying needs is the same in what the clerk sees, apart from the completed stages of its
  -- ward
  part_seen : (command : KeyingCommand) → keyings.part_of (seen_by actor s) actor command
      ≡ record (keyings.part_of s actor command) { ward = option_map (at_stage 0) (ward_for s (batch_at s command.batch)) }
  part_seen command =
      ap (λ (own : List KeyedEntry). record (keyings.part_of s actor command) { ward = ward_for (seen_by actor s) (batch_at s command.batch); own = own }) (own_seen command.batch command.round)
      ∙ ap (λ (ward : Option WardEntry). record (keyings.part_of s actor command) { ward = ward }) (by_batch (batch_at s command.batch))
    where
      by_batch : (o : Option BatchEntry) → ward_for (seen_by actor s) o ≡ option_map (at_stage 0) (ward_for s o)
      by_batch None = refl
      by_batch (Some b) = ward_seen b.ward

-- the number of completed stages doesn't affect the objections to a keying
objections_alike : (actor : ℕ) (command : KeyingCommand) (part : CommandInputEntries) (ward : Option WardEntry)
    → keyings.objections actor command (record part { ward = option_map (at_stage 0) ward }) ≡ keyings.objections actor command (record part { ward = ward })
objections_alike actor command part None = refl
objections_alike actor command part (Some w) = refl

-- ---- decisions

judged_alike : (s : OfficeState) (actor : ℕ) (id : List ℕ) (command : Command) → is_office actor ≡ false
    → judged actor id command (part_of (seen_by actor s) actor command) (first_reason (objections actor command (part_of (seen_by actor s) actor command)))
    ≡ judged actor id command (part_of s actor command) (first_reason (objections actor command (part_of s actor command)))
judged_alike s actor id command other_actor = go command (kind_of command)
  where
    go : (command : Command) → IsOwn command → judged actor id command (part_of (seen_by actor s) actor command) (first_reason (objections actor command (part_of (seen_by actor s) actor command)))
        ≡ judged actor id command (part_of s actor command) (first_reason (objections actor command (part_of s actor command)))
    go command (not_his _ refused) = rw (refused (part_of (seen_by actor s) actor command) actor other_actor) (rw (refused (part_of s actor command) actor other_actor) refl)
    go (Key command) (key _) =
        let part = keyings.part_of s actor command in
        ap (λ (p : CommandInputEntries). judged actor id (Key command) p (first_reason (keyings.objections actor command p))) (part_seen s actor command)
        ∙ ap (λ (os : List (Option Reason)). judged actor id (Key command) part (first_reason os)) (objections_alike actor command part (ward_for s (batch_at s command.batch)))

-- the decision for a clerk depends only on what the clerk sees
pub ruling_on_seen : (s : OfficeState) (actor : ℕ) (id : List ℕ) (command : Command) → is_office actor ≡ false → ruling_at (seen_by actor s) actor id command ≡ ruling_at s actor id command
unfolding decided
ruling_on_seen s actor id command other_actor =
    ap (cond_on (is_id id)) (ap (λ (o : Option ReceiptEntry). answered actor id command o (part_of (seen_by actor s) actor command)) (receipt_seen s actor id) ∙ go (receipt_at s actor id))
  where
    cond_on : Bool → Ruling → Ruling
    cond_on b ruling = cond b ruling (refuses BadId)

    go : (o : Option ReceiptEntry) → answered actor id command o (part_of (seen_by actor s) actor command) ≡ answered actor id command o (part_of s actor command)
    go (Some r) = refl
    go None = judged_alike s actor id command other_actor

-- ---- how requests change what a clerk sees

-- the papers of a keying belong to its clerk
papers_own : (batch round clerk paper : ℕ) (texts : List (List ℕ)) → list_all (λ (k : KeyedEntry). k.clerk == clerk) (papers_from batch round clerk paper texts) ≡ true
unfolding papers_from
papers_own batch round clerk paper [] = refl
papers_own batch round clerk paper (marks ∷ others) = and_from _ _ (eq-eqb clerk clerk refl) (papers_own batch round clerk (paper + 1) others)

papers_other : (batch round clerk other paper : ℕ) (texts : List (List ℕ)) → (clerk == other) ≡ false
    → list_all (λ (k : KeyedEntry). not (k.clerk == other)) (papers_from batch round clerk paper texts) ≡ true
unfolding papers_from
papers_other batch round clerk other paper [] apart = refl
papers_other batch round clerk other paper (marks ∷ others) apart = and_from _ _ (ap not apart) (papers_other batch round clerk other (paper + 1) others apart)

module _ (s : OfficeState) (actor : ℕ) (id : List ℕ) (other_actor : is_office actor ≡ false) where
  -- an accepted keying doesn't change what any other clerk sees
  keyed_unseen : (other : ℕ) → (actor == other) ≡ false → (command : KeyingCommand) (r : ReceiptEntry) → r.actor ≡ actor
      → seen_by other (with_change (record { effect = keyings.effect_of actor command; receipt = r }) s) ≡ seen_by other s
  keyed_unseen other apart command r own =
      ap (λ (ks : List KeyedEntry). record (seen_by other s) { keyings = ks; receipts = filter (λ (x : ReceiptEntry). x.actor == other) (put receipt_cmp r s.receipts) })
      (filter_put_each keyed_cmp (λ (k : KeyedEntry). k.clerk == other) (papers_from command.batch command.round actor 1 (texts_of command)) s.keyings
      (papers_other command.batch command.round actor other 1 (texts_of command) apart))
      ∙ ap (λ (rs : List ReceiptEntry). record (seen_by other s) { receipts = rs })
      (filter_put receipt_cmp (λ (x : ReceiptEntry). x.actor == other) r s.receipts (ap (λ (n : ℕ). n == other) own ∙ apart))

  judged_unseen : (other : ℕ) → (actor == other) ≡ false → (command : Command) → IsOwn command
      → seen_by other (state_after s (outcome_at s (judged actor id command (part_of s actor command) (first_reason (objections actor command (part_of s actor command)))))) ≡ seen_by other s
  judged_unseen other apart command (not_his _ refused) = rw (refused (part_of s actor command) actor other_actor) refl
  judged_unseen other apart (Key command) (key _) = go (first_reason (keyings.objections actor command (keyings.part_of s actor command)))
    where
      go : (o : Option Reason) → seen_by other (state_after s (outcome_at s (judged actor id (Key command) (keyings.part_of s actor command) o))) ≡ seen_by other s
      go (Some why) = refl
      go None = keyed_unseen other apart command (receipt_for actor id (Key command) (keyings.part_of s actor command)) refl

  -- a clerk's request doesn't change what any other clerk sees
  pub unseen_by : (command : Command) (other : ℕ) → (actor == other) ≡ false → seen_by other (state_after s (step s actor id command)) ≡ seen_by other s
  unfolding step decided
  unseen_by command other apart = go (is_id id) (receipt_at s actor id)
    where
      go : (b : Bool) (o : Option ReceiptEntry) → seen_by other (state_after s (outcome_at s (cond b (answered actor id command o (part_of s actor command)) (refuses BadId)))) ≡ seen_by other s
      go false o = refl
      go true (Some r) =
          elim (bytes_eq r.subject (subject_of command)) as (λ b. seen_by other (state_after s (outcome_at s (cond b (keeps r.reply) (refuses IdUsed))))
          ≡ seen_by other s) [ true ↦ refl | false ↦ refl ]
      go true None = judged_unseen other apart command (kind_of command)

  module _ (is : IsState s) where
    -- an accepted keying changes what its clerk sees in the same way as it changes the state
    keyed_alone : (command : KeyingCommand) (r : ReceiptEntry) → r.actor ≡ actor → first_reason (keyings.objections actor command (keyings.part_of s actor command)) ≡ None
        → seen_by actor (with_change (record { effect = keyings.effect_of actor command; receipt = r }) s)
        ≡ with_change (record { effect = keyings.effect_of actor command; receipt = r }) (seen_by actor s)
    keyed_alone command r own none =
        ap (λ (ks : List KeyedEntry). record (seen_by actor s) { keyings = ks; receipts = filter (λ (x : ReceiptEntry). x.actor == actor) (put receipt_cmp r s.receipts) })
        (keyed_among s actor command (λ (k : KeyedEntry). k.clerk == actor) is none (papers_own command.batch command.round actor 1 (texts_of command)))
        ∙ ap (λ (rs : List ReceiptEntry). record (seen_by actor s) {
          keyings = put_each keyed_cmp (papers_from command.batch command.round actor 1 (texts_of command))
              (filter (λ (k : KeyedEntry). k.clerk == actor) s.keyings);
          receipts = rs;
        })
        (filter_put_in receipt_total (λ (x : ReceiptEntry). x.actor == actor) r s.receipts (eq-eqb r.actor actor own) is.rise.receipts)

    judged_alone : (command : Command) → IsOwn command → seen_by actor
        (state_after s (outcome_at s (judged actor id command (part_of s actor command) (first_reason (objections actor command (part_of s actor command))))))
        ≡ state_after (seen_by actor s) (outcome_at (seen_by actor s) (judged actor id command (part_of s actor command) (first_reason (objections actor command (part_of s actor command)))))
    judged_alone command (not_his _ refused) = rw (refused (part_of s actor command) actor other_actor) refl
    judged_alone (Key command) (key _) = go (first_reason (keyings.objections actor command (keyings.part_of s actor command))) refl
      where
        go : (o : Option Reason) → first_reason (keyings.objections actor command (keyings.part_of s actor command)) ≡ o
            → seen_by actor (state_after s (outcome_at s (judged actor id (Key command) (keyings.part_of s actor command) o)))
            ≡ state_after (seen_by actor s) (outcome_at (seen_by actor s) (judged actor id (Key command) (keyings.part_of s actor command) o))
        go (Some why) told = refl
        go None told = keyed_alone command (receipt_for actor id (Key command) (keyings.part_of s actor command)) refl told

    ruled_alone : (command : Command) → seen_by actor (state_after s (outcome_at s (ruling_at s actor id command)))
        ≡ state_after (seen_by actor s) (outcome_at (seen_by actor s) (ruling_at s actor id command))
    unfolding decided
    ruled_alone command = go (is_id id) (receipt_at s actor id)
      where
        go : (b : Bool) (o : Option ReceiptEntry) → seen_by actor (state_after s (outcome_at s (cond b (answered actor id command o (part_of s actor command)) (refuses BadId))))
            ≡ state_after (seen_by actor s) (outcome_at (seen_by actor s) (cond b (answered actor id command o (part_of s actor command)) (refuses BadId)))
        go false o = refl
        go true (Some r) =
            elim (bytes_eq r.subject (subject_of command)) as (λ b. seen_by actor (state_after s (outcome_at s (cond b (keeps r.reply) (refuses IdUsed))))
            ≡ state_after (seen_by actor s) (outcome_at (seen_by actor s) (cond b (keeps r.reply) (refuses IdUsed)))) [ true ↦ refl | false ↦ refl ]
        go true None = judged_alone command (kind_of command)

    -- a clerk's request changes what the clerk sees in the same way as it changes the state
    pub stands_alone : (command : Command) → seen_by actor (state_after s (step s actor id command)) ≡ state_after (seen_by actor s) (step (seen_by actor s) actor id command)
    unfolding step
    stands_alone command = ruled_alone command ∙ ap (λ (ruling : Ruling). state_after (seen_by actor s) (outcome_at (seen_by actor s) ruling)) (sym (ruling_on_seen s actor id command other_actor))

-- ---- a clerk's work

in_keying_seen : (o : Option WardEntry) → is_in_phase Keying (option_map (at_stage 0) o) ≡ is_in_phase Keying o
in_keying_seen None = refl
in_keying_seen (Some w) = refl

-- a clerk's work depends only on what the clerk sees
pub work_seen : (s : OfficeState) (clerk : ℕ) → work_of (seen_by clerk s) clerk ≡ work_of s clerk
work_seen s clerk = go s.batches
  where
    is_seen : (b : BatchEntry) → is_work (seen_by clerk s) clerk b ≡ is_work s clerk b
    is_seen b = ap (λ (phased : Bool). is_its_clerk clerk b (third_at s b.number) && phased) (ap (is_in_phase Keying) (ward_seen s clerk b.ward) ∙ in_keying_seen (ward_at s b.ward))

    on_seen : (b : BatchEntry) → work_on (seen_by clerk s) clerk b ≡ work_on s clerk b
    on_seen b = ap (λ (own : List KeyedEntry). record (work_on s clerk b) { keyed = is_keyed own }) (own_seen s clerk b.number b.round)

    both : (b : BatchEntry) (ws xs : List WorkEntry) → ws ≡ xs → work_on (seen_by clerk s) clerk b ∷ ws ≡ work_on s clerk b ∷ xs
    both b ws xs later = ap (λ (w : WorkEntry). w ∷ ws) (on_seen b) ∙ ap (λ (vs : List WorkEntry). work_on s clerk b ∷ vs) later

    go : (bs : List BatchEntry) → map (work_on (seen_by clerk s) clerk) (filter (is_work (seen_by clerk s) clerk) bs) ≡ map (work_on s clerk) (filter (is_work s clerk) bs)
    go [] = refl
    go (b ∷ bs) = rw (is_seen b) (here (is_work s clerk b) (go bs))
      where
        here : (x : Bool) → map (work_on (seen_by clerk s) clerk) (filter (is_work (seen_by clerk s) clerk) bs) ≡ map (work_on s clerk) (filter (is_work s clerk) bs)
            → map (work_on (seen_by clerk s) clerk) (cond x (b ∷ filter (is_work (seen_by clerk s) clerk) bs) (filter (is_work (seen_by clerk s) clerk) bs))
            ≡ map (work_on s clerk) (cond x (b ∷ filter (is_work s clerk) bs) (filter (is_work s clerk) bs))
        here true later = both b _ _ later
        here false later = later

-- ---- the ballot paper text for the papers to be keyed

-- the ballot paper text depends only on what the clerk sees: everything about a ward except the number of completed
-- stages
pub paper_seen : (s : OfficeState) (clerk batch : ℕ) → paper_at (seen_by clerk s) clerk batch ≡ paper_at s clerk batch
paper_seen s clerk batch = go (batch_at s batch)
  where
    named : (o : Option WardEntry) → option_map (paper_of (seen_by clerk s)) (option_map (at_stage 0) o) ≡ option_map (paper_of s) o
    named None = refl
    named (Some w) = refl

    go : (o : Option BatchEntry) → option_and_then (paper_for (seen_by clerk s) clerk) o ≡ option_and_then (paper_for s clerk) o
    go None = refl
    go (Some b) =
        ap (λ (p : Option BallotPaperEntry). cond (is_its_clerk clerk b (third_at s b.number)) p None)
        (ap (option_map (paper_of (seen_by clerk s))) (ward_seen s clerk b.ward) ∙ named (ward_at s b.ward))
