-- Every step from a state leads to a state, and a repeated request gets the reply to the original one if that
-- was accepted.
use Rattle.std.proofs.Common.{◌≡◌, ℕ, Bool, true, false, cond, List, [], ◌∷◌, Option, Some, None, string_bytes, refl, ap, ◌∙◌}
use Rattle.std.specs.Ordering.{nat_cmp, ordering_then}
use Rattle.std.specs.Cmp.Lexicographic.{slice_cmp}
use Rattle.std.specs.Str.{bytes_eq}
use Rattle.std.proofs.lemmas.Bool.{and_from}
use Rattle.std.proofs.lemmas.Slice.Eq.{bytes_eq-Decides}
use Rattle.register.specs.declared.refusal.Reason.{Reason}
use Rattle.register.specs.declared.refusal.Reason.TheVariants.{BadId, IdUsed}
use Rattle.register.specs.declared.command.Command.{Command}
use Rattle.register.specs.declared.command.Request.{Request}
use Rattle.register.specs.declared.command.Command.TheVariants.{Ward, Candidate, Batch, Keying, Verdict, Count}
use Rattle.register.specs.declared.counts.CountCommand.TheVariants.{Advance, Lot, Declare}
use Rattle.register.specs.Reasons.{first_reason}
use Rattle.register.specs.Ranges.{is_id}
use Rattle.register.specs.Offices.{OfficeState, ReceiptEntry, receipt_at, entry_at}
use Rattle.register.specs.StateConditions.{is_receipt, IsState}
use Rattle.register.specs.Effects.{EffectEntry, with_effect, with_receipt}
use Rattle.register.specs.CommandInputs.{CommandInputEntries}
use Rattle.register.specs.Machine.{keeps, refuses, kept, refused, part_of, objections, subject_of, reply_to, effect_of, receipt_for, judged, answered, decided, ruling_at, outcome_at, step}
use Rattle.register.specs.Machine.{state_after, after, after_one, RepeatGetsSameReply}
use Rattle.register.specs.Views.{IsToldAlike, IsAdvanced}
use Rattle.register.proofs.MapLemmas.{found_put, found_put_new}
use Rattle.register.proofs.ItemLemmas.{IsFit, receipt_total, receipt_stays, same_receipts}
use Rattle.register.proofs.WardLemmas.{ward_fits}
use Rattle.register.proofs.CandidateLemmas.{candidate_fits}
use Rattle.register.proofs.BatchLemmas.{batch_fits}
use Rattle.register.proofs.KeyingLemmas.{keying_fits}
use Rattle.register.proofs.VerdictLemmas.{verdict_fits}
use Rattle.register.proofs.CountLemmas.{count_fits, advance_adds, lot_keeps, declare_keeps}

-- ---- the commands, by subject

pub fits : (s : OfficeState) (actor : ℕ) (command : Command) → IsState s → first_reason (objections actor command (part_of s actor command)) ≡ None
    → IsFit s actor (effect_of actor command (part_of s actor command)) (subject_of command) (reply_to command (part_of s actor command))
fits s actor (Ward command) is none = ward_fits s actor command is none
fits s actor (Candidate command) is none = candidate_fits s actor command is none
fits s actor (Batch command) is none = batch_fits s actor command is none
fits s actor (Keying command) is none = keying_fits s actor command is none
fits s actor (Verdict command) is none = verdict_fits s actor command is none
fits s actor (Count command) is none = count_fits s actor command is none

-- ---- a request in a state

-- if there is a receipt, the decision doesn't depend on any other part of the state
alike : (actor : ℕ) (id : List ℕ) (command : Command) (receipt : Option ReceiptEntry) (part other : CommandInputEntries) → (receipt ≡ None → part ≡ other)
    → decided actor id command receipt part ≡ decided actor id command receipt other
unfolding decided
alike actor id command None part other same = ap (decided actor id command None) (same refl)
alike actor id command (Some receipt) part other same = refl

-- a decision based on the receipt in a state and, if there is none, on the part that the command needs, is the
-- decision in that state
pub ruling_on : (s : OfficeState) (actor : ℕ) (id : List ℕ) (command : Command) (receipt : Option ReceiptEntry) (part : CommandInputEntries) → receipt ≡ receipt_at s actor id
    → (receipt_at s actor id ≡ None → part ≡ part_of s actor command)
    → decided actor id command receipt part ≡ ruling_at s actor id command
ruling_on s actor id command receipt part same_receipt same_part = rw same_receipt (alike actor id command (receipt_at s actor id) part (part_of s actor command) same_part)

-- the outcome of such a decision is the outcome of the step in that state
pub step_on : (s : OfficeState) (actor : ℕ) (id : List ℕ) (command : Command) (receipt : Option ReceiptEntry) (part : CommandInputEntries) → receipt ≡ receipt_at s actor id
    → (receipt_at s actor id ≡ None → part ≡ part_of s actor command)
    → outcome_at s (decided actor id command receipt part) ≡ step s actor id command
unfolding step
step_on s actor id command receipt part same_receipt same_part = ap (outcome_at s) (ruling_on s actor id command receipt part same_receipt same_part)

-- no effect changes which receipt is found
same_found : (effect : EffectEntry) (s : OfficeState) (actor : ℕ) (id : List ℕ) → receipt_at (with_effect effect s) actor id ≡ receipt_at s actor id
same_found effect s actor id = ap (entry_at (λ (r : ReceiptEntry). ordering_then (nat_cmp actor r.actor) (slice_cmp nat_cmp id r.id))) (same_receipts effect s)

-- a receipt is never lost
module _ (s : OfficeState) (actor : ℕ) (id : List ℕ) (receipt : ReceiptEntry) (found : receipt_at s actor id ≡ Some receipt) where
  judged_lasts : (other : ℕ) (key : List ℕ) (command : Command) → receipt_at s other key ≡ None → (o : Option Reason)
      → receipt_at (state_after s (outcome_at s (judged other key command (part_of s other command) o))) actor id ≡ Some receipt
  judged_lasts other key command new (Some why) = found
  judged_lasts other key command new None =
      let effect = effect_of other command (part_of s other command) in
      found_put_new receipt_total (record { actor = actor; id = id; subject = []; reply = [] }) (receipt_for other key command (part_of s other command)) receipt (with_effect effect s).receipts
      (same_found effect s other key ∙ new) (same_found effect s actor id ∙ found)

  step_lasts : (other : ℕ) (key : List ℕ) (command : Command) → receipt_at (state_after s (step s other key command)) actor id ≡ Some receipt
  unfolding step decided
  step_lasts other key command = go (is_id key) (receipt_at s other key) refl
    where
      go : (b : Bool) (o : Option ReceiptEntry) → receipt_at s other key ≡ o
          → receipt_at (state_after s (outcome_at s (cond b (answered other key command o (part_of s other command)) (refuses BadId)))) actor id ≡ Some receipt
      go false o is = found
      go true (Some r) is =
          elim (bytes_eq r.subject (subject_of command)) as (λ b. receipt_at (state_after s (outcome_at s (cond b (keeps r.reply) (refuses IdUsed)))) actor id
          ≡ Some receipt) [ true ↦ found | false ↦ found ]
      go true None is = judged_lasts other key command is (first_reason (objections other command (part_of s other command)))

lasts : (s : OfficeState) (actor : ℕ) (id : List ℕ) (receipt : ReceiptEntry) (others : List Request) → receipt_at s actor id ≡ Some receipt → receipt_at (after s others) actor id ≡ Some receipt
lasts s actor id receipt [] found = found
lasts s actor id receipt (r ∷ rs) found = lasts (after_one s r) actor id receipt rs (step_lasts s actor id receipt found r.actor (string_bytes r.id) r.command)

module _ (s : OfficeState) (actor : ℕ) (id : List ℕ) (command : Command) where
  -- if there is no receipt for an actor and id, there is still none after the effect
  still_new : receipt_at s actor id ≡ None → receipt_at (with_effect (effect_of actor command (part_of s actor command)) s) actor id ≡ None
  still_new new = same_found (effect_of actor command (part_of s actor command)) s actor id ∙ new

  judged_stays : IsState s → is_id id ≡ true → receipt_at s actor id ≡ None → (o : Option Reason) → first_reason (objections actor command (part_of s actor command)) ≡ o
      → IsState (state_after s (outcome_at s (judged actor id command (part_of s actor command) o)))
  unfolding is_receipt
  judged_stays is good new (Some why) told = is
  judged_stays is good new None told =
      let fit = fits s actor command is told in
      receipt_stays (with_effect (effect_of actor command (part_of s actor command)) s) (receipt_for actor id command (part_of s actor command))
      (and_from _ _ fit.about (and_from _ _ fit.text (and_from _ _ good fit.line))) (still_new new) fit.state

  -- every step from a state leads to a state
  pub step_stays : IsState s → IsState (state_after s (step s actor id command))
  unfolding step decided
  step_stays is = go (is_id id) refl (receipt_at s actor id) refl
    where
      go : (b : Bool) → is_id id ≡ b → (o : Option ReceiptEntry) → receipt_at s actor id ≡ o
          → IsState (state_after s (outcome_at s (cond b (answered actor id command o (part_of s actor command)) (refuses BadId))))
      go false good o found = is
      go true good (Some r) found = elim (bytes_eq r.subject (subject_of command)) as (λ b. IsState (state_after s (outcome_at s (cond b (keeps r.reply) (refuses IdUsed))))) [ true ↦ is | false ↦ is ]
      go true good None found = judged_stays is good found (first_reason (objections actor command (part_of s actor command))) refl

  judged_again : is_id id ≡ true → receipt_at s actor id ≡ None → (o : Option Reason) → RepeatGetsSameReply actor id command (outcome_at s (judged actor id command (part_of s actor command) o))
  unfolding step decided
  judged_again good new (Some why) = tt
  judged_again good new None = λ others.
      let receipt = receipt_for actor id command (part_of s actor command) in
      let later = with_effect (effect_of actor command (part_of s actor command)) s in
      let found : receipt_at (after (with_receipt receipt later) others) actor id ≡ Some receipt =
      lasts (with_receipt receipt later) actor id receipt others (found_put receipt_total receipt later.receipts (still_new new))
      in
      let same : bytes_eq (subject_of command) (subject_of command) ≡ true = (bytes_eq-Decides (subject_of command) (subject_of command)).1 refl in
      rw good (rw found (rw same refl))

  -- an accepted request gets the same reply when it is repeated
  pub accepted_is_kept : RepeatGetsSameReply actor id command (step s actor id command)
  unfolding step decided
  accepted_is_kept = go (is_id id) refl (receipt_at s actor id) refl
    where
      go : (b : Bool) → is_id id ≡ b → (o : Option ReceiptEntry) → receipt_at s actor id ≡ o
          → RepeatGetsSameReply actor id command (outcome_at s (cond b (answered actor id command o (part_of s actor command)) (refuses BadId)))
      go false good o found = tt
      go true good (Some r) found =
          elim (bytes_eq r.subject (subject_of command)) as (λ b. RepeatGetsSameReply actor id command (outcome_at s (cond b (keeps r.reply) (refuses IdUsed)))) [ true ↦ tt | false ↦ tt ]
      go true good None found = judged_again good found (first_reason (objections actor command (part_of s actor command)))

-- ---- the stages of a count

module _ (s : OfficeState) (actor : ℕ) (id : List ℕ) where
  -- kept and refused requests don't affect the stages, so only commands without objections matter
  advances_where : (command : Command) → ((reply : List ℕ) → IsAdvanced s command (kept reply)) → ((why : Reason) → IsAdvanced s command (refused why))
      → (first_reason (objections actor command (part_of s actor command)) ≡ None → IsAdvanced s command (outcome_at s (judged actor id command (part_of s actor command) None)))
      → IsAdvanced s command (step s actor id command)
  unfolding step decided
  advances_where command of_kept of_refused of_accepted = go (is_id id) (receipt_at s actor id)
    where
      added : (o : Option Reason) → first_reason (objections actor command (part_of s actor command)) ≡ o → IsAdvanced s command (outcome_at s (judged actor id command (part_of s actor command) o))
      added (Some why) told = of_refused why
      added None told = of_accepted told

      go : (b : Bool) (o : Option ReceiptEntry) → IsAdvanced s command (outcome_at s (cond b (answered actor id command o (part_of s actor command)) (refuses BadId)))
      go false o = of_refused BadId
      go true (Some r) =
          elim (bytes_eq r.subject (subject_of command)) as (λ b. IsAdvanced s command (outcome_at s (cond b (keeps r.reply) (refuses IdUsed)))) [ true ↦ of_kept r.reply | false ↦ of_refused IdUsed ]
      go true None = added (first_reason (objections actor command (part_of s actor command))) refl

  abbrev own_receipt : Command → ReceiptEntry
  own_receipt command = receipt_for actor id command (part_of s actor command)

  -- an accepted Advance adds the stage that is due; an accepted Lot or Declare leaves the completed stages
  -- unchanged
  pub advances : (command : Command) → IsState s → IsAdvanced s command (step s actor id command)
  advances (Count (Advance ward)) is = advances_where (Count (Advance ward)) (λ reply. tt) (λ why. tt) (λ none. advance_adds s actor ward (own_receipt (Count (Advance ward))) is none)
  advances (Count (Lot ward stage candidate)) is =
      advances_where (Count (Lot ward stage candidate)) (λ reply. tt) (λ why. tt) (λ none. lot_keeps s actor ward stage candidate (own_receipt (Count (Lot ward stage candidate))) is none)
  advances (Count (Declare ward)) is = advances_where (Count (Declare ward)) (λ reply. tt) (λ why. tt) (λ none. declare_keeps s actor ward (own_receipt (Count (Declare ward))) is none)
  advances command is = tt

-- ---- replies to a clerk

-- the reply to an accepted keying depends only on the command
pub told_alike : (actor : ℕ) (id : List ℕ) (command : Command) (receipt : Option ReceiptEntry) (part : CommandInputEntries) → IsToldAlike command (decided actor id command receipt part)
unfolding decided
told_alike actor id (Keying command) receipt part = go (is_id id) receipt
  where
    alike : (o : Option Reason) → IsToldAlike (Keying command) (judged actor id (Keying command) part o)
    alike (Some why) = tt
    alike None = refl

    go : (b : Bool) (o : Option ReceiptEntry) → IsToldAlike (Keying command) (cond b (answered actor id (Keying command) o part) (refuses BadId))
    go false o = tt
    go true (Some r) = elim (bytes_eq r.subject (subject_of (Keying command))) as (λ b. IsToldAlike (Keying command) (cond b (keeps r.reply) (refuses IdUsed))) [ true ↦ tt | false ↦ tt ]
    go true None = alike (first_reason (objections actor (Keying command) part))
told_alike actor id command receipt part = tt
