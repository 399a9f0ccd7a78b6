-- The content of an answer, given the decision.
use Rattle.std.proofs.Common.{◌≡◌, ◌⊎◌, inl, inr, ℕ, List, [], Bool, true, false, Result, Ok, Err, IfOk, OnOk, sym, ap, subst, ◌∙◌, true≢false}
use Rattle.sqlite.specs.State.{State}
use Rattle.register.specs.Offices.{OfficeState}
use Rattle.register.specs.declared.command.Command.{Command}
use Rattle.register.specs.Machine.{Outcome, accepted, kept, refused, state_after, is_accepted, step, RepeatGetsSameReply}
use Rattle.tables.specs.declared.fault.Fault.{Fault}
use Rattle.tables.specs.declared.fault.Fault.TheVariants.{Memory, Store}
use Rattle.store.specs.StateTables.{IsAt, LeavesState}
use Rattle.office.specs.declared.answers.Answer.{Answer}
use Rattle.office.specs.Answers.{told, told_of, reply_of, IsOpenAt, Handled, HandledAgain}

-- the answer has the content of the outcome, and the office is open in the state that it leads to
pub handled_ok : (s : OfficeState) (o x : Outcome) (a : Answer) (closed : Bool) (st : State) → x ≡ o → told a ≡ told_of x → closed ≡ false → IsAt (state_after s x) st → Handled s o (Ok a) closed st
handled_ok s o x a closed st same tells is_open at =
    (tells ∙ ap told_of same, record { is_open = is_open; at = subst (λ (y : Outcome). IsAt (state_after s y) st) same at })

-- an answer has the content of the outcome
pub answer_told : (s : OfficeState) (o : Outcome) (r : Result Answer Fault) (closed : Bool) (st : State) → Handled s o r closed st → IfOk r (λ a. told a ≡ told_of o)
answer_told s o (Ok a) closed st handled = handled.0
answer_told s o (Err f) closed st handled = tt

-- a fault closed the office, and after a stop the state is either the previous one or the one that the outcome leads to
pub handled_err : (s : OfficeState) (o x : Outcome) (f : Fault) (closed : Bool) (st : State) → x ≡ o → closed ≡ true → (f ≡ Memory) ⊎ (f ≡ Store) → (f ≡ Memory → is_accepted x ≡ true)
    → LeavesState st (λ y. (y ≡ s) ⊎ (y ≡ state_after s x)) → Handled s o (Err f) closed st
handled_err s o x f closed st same is_closed cause inside leaves = inr (record {
  is_closed = is_closed;
  fault = cause;
  inside = λ want. subst (λ z. is_accepted z ≡ true) same (inside want);
  leaves = subst (λ (z : Outcome). LeavesState st (λ y. (y ≡ s) ⊎ (y ≡ state_after s z))) same leaves;
})

-- an accepted request is kept in the state that it led to
kept_there : (s : OfficeState) (actor : ℕ) (id : List ℕ) (command : Command) (o : Outcome) → is_accepted o ≡ true → RepeatGetsSameReply actor id command o
    → step (state_after s o) actor id command ≡ kept (reply_of o)
kept_there s actor id command (accepted next reply) h again = again []
kept_there s actor id command (kept reply) h again = absurd (true≢false (sym h))
kept_there s actor id command (refused why) h again = absurd (true≢false (sym h))

-- so the answer in that state repeats the reply, and the state doesn't change
pub handled_again : (s : OfficeState) (actor : ℕ) (id : List ℕ) (command : Command) (o : Outcome) → step s actor id command ≡ o → is_accepted o ≡ true
    → (r : Result Answer Fault) (closed : Bool) (st : State)
    → OnOk r ((x : OfficeState) → RepeatGetsSameReply actor id command (step x actor id command)) → Handled (state_after s o) (step (state_after s o) actor id command) r closed st
    → HandledAgain s o r closed st
handled_again s actor id command o is accepted_o (Ok answer) closed st again handled =
    let kept_o = kept_there s actor id command o accepted_o (subst (RepeatGetsSameReply actor id command) is (again s)) in
    let there = subst (λ (x : Outcome). (told answer ≡ told_of x) × IsOpenAt (state_after (state_after s o) x) closed st) kept_o handled in
    (there.0, there.1)
handled_again s actor id command o is accepted_o (Err f) closed st again handled = elim handled [ inl open_at ↦ inl open_at | inr shut ↦ inr shut.is_closed ]
