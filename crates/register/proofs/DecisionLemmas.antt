-- The tabulation of a state and what an accepted request adds together make up the tabulation of the next state.
use Rattle.std.proofs.Common.{◌≡◌, ℕ, ◌+◌, Bool, true, false, cond, List, Option, Some, None, Result, Ok, Err, option_map, string_bytes, refl, sym, ap, subst, ◌∙◌}
use Rattle.std.specs.Result.{IfOk}
use Rattle.std.specs.Str.{bytes_eq}
use Rattle.std.specs.declared.string.String.{String}
use Rattle.std.specs.declared.alloc.Global.{Global}
use Rattle.std.proofs.lemmas.List.Sorted.{IsPermutation-refl}
use Rattle.register.specs.declared.refusal.Reason.{Reason}
use Rattle.register.specs.declared.refusal.Reason.TheVariants.{BadId, IdUsed}
use Rattle.register.specs.declared.command.Command.{Command}
use Rattle.register.specs.declared.command.Command.TheVariants.{Ward, Candidate, Batch, Count}
use Rattle.register.specs.declared.wards.WardCommand.TheVariants.{Close}
use Rattle.register.specs.declared.candidates.CandidateCommand.TheVariants.{Withdraw}
use Rattle.register.specs.declared.batches.BatchCommand.TheVariants.{Again}
use Rattle.register.specs.declared.counts.CountCommand.TheVariants.{Advance}
use Rattle.register.specs.declared.elections.Count.{Count as CountValue}
use Rattle.register.specs.declared.tabulations.Addition.{Addition}
use Rattle.register.specs.declared.decision.Change.{Change}
use Rattle.register.specs.declared.decision.Decision.{Decision}
use Rattle.register.specs.declared.decision.Decision.TheVariants.{Accepted, Kept, Refused}
use Rattle.register.specs.declared.view.View.{View}
use Rattle.register.specs.Reasons.{first_reason}
use Rattle.register.specs.Ranges.{is_id}
use Rattle.register.specs.Offices.{WardEntry, ReceiptEntry, OfficeState, ward_at, receipt_at, receipt_entry}
use Rattle.register.specs.StateConditions.{IsState}
use Rattle.register.specs.Effects.{EffectEntry, ChangeEntry, stage_counted, with_effect, with_receipt, with_change, change_entry}
use Rattle.register.specs.Counts.{next_stage}
use Rattle.register.specs.Elections.{election_of}
use Rattle.register.specs.CommandInputs.{input_entries}
use Rattle.register.specs.Machine.{accepts, keeps, refuses, part_of, objections, subject_of, reply_to, effect_of, receipt_for, judged, answered, decided, ruling_at}
use Rattle.register.specs.Tabulated.{AdditionEntries, no_addition, addition_entries, with_addition, tabulation_of, SameTabulation, IsCountFor, AddsWhatIsCounted}
use Rattle.register.specs.Additions.{addition_at, addition_due, IsAddedBy, IsAddedFor, DecidesAddition, IsAddedAt, AddsNoMore}
use Rattle.register.specs.Views.{IsViewOf, decided_on, ruling_of}
use Rattle.register.proofs.MapLemmas.{found_number}
use Rattle.register.proofs.CountLemmas.{HasStageDue, advance_due}
use Rattle.register.proofs.AdditionLemmas.{stage_tabulated}
use Rattle.register.proofs.MachineLemmas.{fits, ruling_on}

-- two facts about a value, combined
pub IfOk-both : {X Y : Type 0} (r : Result X Y) (P Q R : X → Type 0) → ((x : X) → P x → Q x → R x) → IfOk r P → IfOk r Q → IfOk r R
IfOk-both (Ok x) P Q R both first second = both x first second
IfOk-both (Err y) P Q R both first second = tt

-- a receipt doesn't change the tabulation
of_receipt : (r : ReceiptEntry) (s : OfficeState) → tabulation_of (with_receipt r s) ≡ tabulation_of s
unfolding tabulation_of
of_receipt r s = refl

-- if nothing is added, the tabulation is unchanged
nothing_added : (s t : OfficeState) (addition : AdditionEntries) → addition ≡ no_addition → tabulation_of t ≡ tabulation_of s
    → SameTabulation (with_addition addition (tabulation_of s)) (tabulation_of t)
nothing_added s t addition none same = rw (none, same) (record { bundles = IsPermutation-refl _; figures = IsPermutation-refl _ })

-- two accepting rulings are equal only if their changes are equal
same_change : (c d : ChangeEntry) (r t : List ℕ) → accepts c r ≡ accepts d t → c ≡ d
same_change c d r t same = cc

module _ (s : OfficeState) (actor : ℕ) (id : List ℕ) (command : Command) where
  abbrev own_change : ChangeEntry
  own_change = record { effect = effect_of actor command (part_of s actor command); receipt = receipt_for actor id command (part_of s actor command) }

  -- a request is accepted: there is no receipt with its id, there is no objection to its command, and this is
  -- its change
  record IsAccepted (change : ChangeEntry) : Type 0 where
    new : receipt_at s actor id ≡ None
    free : first_reason (objections actor command (part_of s actor command)) ≡ None
    change_is : own_change ≡ change

  is_accepted : (change : ChangeEntry) (reply : List ℕ) → ruling_at s actor id command ≡ accepts change reply → IsAccepted change
  unfolding decided
  is_accepted change reply = go (is_id id) (receipt_at s actor id) refl
    where
      kept : (b : Bool) (told : List ℕ) → cond b (keeps told) (refuses IdUsed) ≡ accepts change reply → IsAccepted change
      kept true told is = absurd (cc)
      kept false told is = absurd (cc)

      fresh : receipt_at s actor id ≡ None → (why : Option Reason) → first_reason (objections actor command (part_of s actor command)) ≡ why
          → judged actor id command (part_of s actor command) why ≡ accepts change reply → IsAccepted change
      fresh found (Some why) told is = absurd (cc)
      fresh found None told is = record { new = found; free = told; change_is = same_change own_change change (reply_to command (part_of s actor command)) reply is }

      go : (b : Bool) (o : Option ReceiptEntry) → receipt_at s actor id ≡ o → cond b (answered actor id command o (part_of s actor command)) (refuses BadId) ≡ accepts change reply → IsAccepted change
      go false o found is = absurd (cc)
      go true (Some r) found is = kept (bytes_eq r.subject (subject_of command)) r.reply is
      go true None found is = fresh found (first_reason (objections actor command (part_of s actor command))) refl is

-- ---- each command

module _ (s : OfficeState) (actor : ℕ) (is : IsState s) (receipt : ReceiptEntry) (shown : Option CountValue) (addition : Addition) where
  -- applying the addition yields the tabulation of the state after the effect and the receipt
  abbrev IsTold : EffectEntry → Type 0
  IsTold effect = SameTabulation (with_addition (addition_entries addition) (tabulation_of s)) (tabulation_of (with_receipt receipt (with_effect effect s)))

  -- a command that adds nothing and leaves the tabulation unchanged
  stays : (command : Command) → addition_entries addition ≡ no_addition → tabulation_of (with_effect (effect_of actor command (part_of s actor command)) s) ≡ tabulation_of s
      → IsTold (effect_of actor command (part_of s actor command))
  stays command none same =
      let later = with_effect (effect_of actor command (part_of s actor command)) s in
      nothing_added s (with_receipt receipt later) (addition_entries addition) none (of_receipt receipt later ∙ same)

  -- an Advance adds the stage of the action that is due
  stage_alone : (ward : ℕ) → IsCountFor s (Count (Advance ward)) shown → IsAddedFor (Count (Advance ward)) shown addition → (due : HasStageDue s ward)
      → addition_entries addition ≡ addition_at (election_of s due.own) due.action
  stage_alone ward count adds due =
      let own = count due.own due.found due.due.contested in
      let added = subst (λ (o : Option CountValue). IsAddedBy (Advance ward) o addition) own.1 adds in
      added (election_of s due.own) own.2 (found_number (λ (w : WardEntry). w.number) s.wards ward due.own due.found) ∙ ap (addition_due (election_of s due.own)) due.due.next

  advanced : (ward : ℕ) → IsCountFor s (Count (Advance ward)) shown → IsAddedFor (Count (Advance ward)) shown addition → HasStageDue s ward → IsTold (stage_counted ward (next_stage (ward_at s ward)))
  advanced ward count adds due =
      let stage = due.due in
      subst (λ (k : ℕ). IsTold (stage_counted ward k)) (sym stage.stage)
      (subst (λ (a : AdditionEntries). SameTabulation (with_addition a (tabulation_of s)) (tabulation_of (with_receipt receipt (with_effect (stage_counted ward (due.own.done + 1)) s))))
      (sym (stage_alone ward count adds due))
      (subst (SameTabulation (with_addition (addition_at (election_of s due.own) due.action) (tabulation_of s))) (sym (of_receipt receipt (with_effect (stage_counted ward (due.own.done + 1)) s)))
      (stage_tabulated s ward due.own is due.found due.action stage)))

  -- what each command adds: an Advance adds its stage; any other command adds nothing
  added : (command : Command) → first_reason (objections actor command (part_of s actor command)) ≡ None → IsCountFor s command shown → IsAddedFor command shown addition → IsAddedAt s command addition
  added (Count (Advance ward)) free count adds =
      let due = advance_due s actor ward is free in
      record { own = due.own; found = due.found; action = due.action; due = due.due.next; adds = stage_alone ward count adds due }
  added command free count adds = adds

  told : (command : Command) → first_reason (objections actor command (part_of s actor command)) ≡ None → IsCountFor s command shown → IsAddedFor command shown addition
      → IsTold (effect_of actor command (part_of s actor command))
  told (Count (Advance ward)) free count adds = advanced ward count adds (advance_due s actor ward is free)
  told (Ward (Close ward)) free count adds = stays (Ward (Close ward)) adds (fits s actor (Ward (Close ward)) is free).tabulated
  told (Candidate (Withdraw ward candidate)) free count adds = stays (Candidate (Withdraw ward candidate)) adds (fits s actor (Candidate (Withdraw ward candidate)) is free).tabulated
  told (Batch (Again batch)) free count adds = stays (Batch (Again batch)) adds (fits s actor (Batch (Again batch)) is free).tabulated
  told command free count adds = stays command adds (fits s actor command is free).tabulated

-- ---- a decision

module _ (s : OfficeState) (view : View) (command : Command) where
  -- a change decided on a view of the state is the change made by an accepted request
  decided_there : (change : Change) (reply : String Global) → IsViewOf s command view → ruling_of (Accepted change reply) ≡ decided_on view command
      → IsAccepted s view.actor view.id.now command (change_entry change)
  decided_there change reply shows same =
      is_accepted s view.actor view.id.now command (change_entry change) (string_bytes reply)
      (sym (same ∙ ruling_on s view.actor view.id.now command (option_map receipt_entry view.receipt) (input_entries view.part) shows.receipt shows.part))

  -- a decision on a view of a state adds to the tabulation what is counted
  pub adds_counted : (decision : Decision) → IsState s → IsViewOf s command view → ruling_of decision ≡ decided_on view command → DecidesAddition command view.part.count decision
      → AddsWhatIsCounted s decision
  adds_counted (Accepted change reply) is shows same adds =
      let by = decided_there change reply shows same in
      subst (λ (made : ChangeEntry). SameTabulation (with_addition (addition_entries change.addition) (tabulation_of s)) (tabulation_of (with_change made s))) by.change_is
      (told s view.actor is (receipt_for view.actor view.id.now command (part_of s view.actor command)) view.part.count change.addition command by.free (shows.count by.new) adds)
  adds_counted (Kept reply) is shows same adds = tt
  adds_counted (Refused why) is shows same adds = tt

  -- a decision on a view of a state adds nothing beyond what is counted
  pub adds_no_more : (decision : Decision) → IsState s → IsViewOf s command view → ruling_of decision ≡ decided_on view command → DecidesAddition command view.part.count decision
      → AddsNoMore s command decision
  adds_no_more (Accepted change reply) is shows same adds =
      let by = decided_there change reply shows same in
      added s view.actor is (receipt_for view.actor view.id.now command (part_of s view.actor command)) view.part.count change.addition command by.free (shows.count by.new) adds
  adds_no_more (Kept reply) is shows same adds = tt
  adds_no_more (Refused why) is shows same adds = tt
