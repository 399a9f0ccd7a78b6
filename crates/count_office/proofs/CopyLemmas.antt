-- What is printed for a copy, and for closing its files afterwards.
use Rattle.std.proofs.Common.{◌≡◌, ◌∙◌, ℕ, Bool, true, false, true≢false, List, Option, inl, inr, refl, sym, ap, subst, arith, eqb-true}
use Rattle.std.specs.Prelude.{◌==◌}
use Rattle.sqlite.specs.Held.{Held}
use Rattle.sqlite.specs.State.{State}
use Rattle.register.specs.Offices.{OfficeState}
use Rattle.office.specs.Answers.{WhenOpenAt}
use Rattle.office.specs.Values.{OfficeValue}
use Rattle.desk.specs.Copying.{HoldsCopy, IsCopiedOpen}
use Rattle.desk.specs.Pages.{Cut, IsErrorTold, IsShown, IsWhole, Outputs, Page, Tells, below, closed_page, cut_below, failed, outputs_of}
use Rattle.desk.specs.declared.copying.CopyState.{CopyState}
use Rattle.desk.specs.declared.lines.Failure.{Failure}
use Rattle.desk.specs.declared.lines.Failure.TheVariants.{CopyFailed}
use Rattle.desk.proofs.PageLemmas.{error_shown, shown_last}
use Rattle.desk.proofs.TellingLemmas.{goes_after_zero, shown_whole, shown_zero}
use Rattle.server.specs.ServedOrders.{IsCopyTold}
use Rattle.count_office.specs.Done.{EndsCopy}

-- if the status is 0, everything printed was written completely
pub whole_at_zero : (cut : Cut) (old new : Outputs) (page : Page) (status : ℕ) → status ≡ 0 → IsShown cut old new page status → IsWhole old new page status
whole_at_zero cut old new page status zero shown = shown_whole false cut old new page status shown (goes_after_zero false status zero)

-- what is printed for a copy of an open office
copy_told : (s : OfficeState) (page : Page) (left : CopyState) (old new blank full : State) → IsCopiedOpen s page left old new blank full → IsCopyTold s page
copy_told s page left old new blank full (inl made) = inl made.0
copy_told s page left old new blank full (inr (failure, is, ends, leaves)) = inr (inr (failure, is))

-- what is printed for a copy, if the status is 0, followed by the failure saying that the log couldn't be copied into the database file
copy_unclosed : (s : OfficeState) (page : Page) (left : CopyState) (old new blank full : State) → page.status ≡ 0 → IsCopiedOpen s page left old new blank full
    → IsCopyTold s (below page (failed CopyFailed))
copy_unclosed s page left old new blank full zero (inl made) = inr (inl (ap (λ (p : Page). below p (failed CopyFailed)) made.0))
copy_unclosed s page left old new blank full zero (inr (failure, is, ends, leaves)) = let three : page.status ≡ 3 = ap (λ (p : Page). p.status) is in absurd (omega arith)

-- a failure has status 3
pub error_ends : {E : Type 0} (taken : E → Option (List ℕ)) (calls : E → ℕ) (old new : E) (text : List ℕ) (ends : ℕ) → IsErrorTold taken calls old new text 3 ends → ends ≡ 3
error_ends taken calls old new text ends (inl all) = all.2
error_ends taken calls old new text ends (inr part) = part.2

module _ {E : Type 0} (taken : E → Option (List ℕ)) (calls : E → ℕ) (err err_mid : E) (status closed : ℕ) where
  -- if closing the files ended with status 0, what was printed before had status 0 too, and nothing else was printed
  pub closed_at_zero : (¬ (status ≡ 0) → (closed ≡ status) × (err_mid ≡ err)) → (status ≡ 0 → EndsCopy taken calls err err_mid closed) → closed ≡ 0 → (status ≡ 0) × (err_mid ≡ err)
  closed_at_zero other whole zero = by (status == 0) refl
    where
      quiet : EndsCopy taken calls err err_mid closed → err_mid ≡ err
      quiet (inl same) = same.1
      quiet (inr error) = let three = error_ends taken calls err err_mid (failed CopyFailed).err closed error in absurd (omega (arith, three, zero))

      by : (t : Bool) → (status == 0) ≡ t → (status ≡ 0) × (err_mid ≡ err)
      by true e = let none = eqb-true status 0 e in (none, quiet (whole none))
      by false e = let it = other (λ none. true≢false (sym (ap (λ n. n == 0) none) ∙ e)) in (sym it.0 ∙ zero, it.1)

module _ {O E : Type 0} (taken : O → Option (List ℕ)) (calls : O → ℕ) (taken_err : E → Option (List ℕ)) (calls_err : E → ℕ) where
  abbrev outputs : O → E → Outputs
  outputs out err = outputs_of taken calls taken_err calls_err out err

  -- a failure is printed, and the office stays unchanged
  pub failure_told : {S : Type 0} (state_of : Held S → State) (old new : OfficeValue S) (out : O) (err err_new : E) (failure : Failure) (ends : ℕ)
      → IsErrorTold taken_err calls_err err err_new (failed failure).err 3 ends
      → Tells (outputs out err) (outputs out err_new) ends (λ cut page. WhenOpenAt state_of old new (λ s. IsCopyTold s page))
  failure_told state_of old new out err err_new failure ends error =
      let told = error_shown taken calls taken_err calls_err out err err_new (failed failure) ends refl error in
      record { page = failed failure; cut = told.0; shown = told.1; is = λ clean was s at. inr (inr (failure, refl)) }

  module _ {S : Type 0} (state_of : Held S → State) (old new : OfficeValue S) (left : CopyState) (blank full : State) where
    -- what is printed for a copy of an office that was open
    abbrev TellsCopy : O → O → E → E → ℕ → Type 0
    TellsCopy out out_new err err_new ends = Tells (outputs out err) (outputs out_new err_new) ends (λ cut page. WhenOpenAt state_of old new (λ s. IsCopyTold s page))

    -- what is printed for a copy and, after status 0, for closing its files
    pub closed_told : (out out_new : O) (err err_mid err_new : E) (status ends : ℕ)
        → Tells (outputs out err) (outputs out_new err_mid) status (λ cut page. HoldsCopy left page blank full × WhenOpenAt state_of old new
        (λ s. IsCopiedOpen s page left (state_of old.held) (state_of new.held) blank full) × (old.closed ≡ true → page ≡ closed_page))
        → (¬ (status ≡ 0) → (ends ≡ status) × (err_new ≡ err_mid)) → (status ≡ 0 → EndsCopy taken_err calls_err err_mid err_new ends)
        → TellsCopy out out_new err err_new ends
    closed_told out out_new err err_mid err_new status ends told other whole = by (status == 0) refl
      where
        -- nothing else is printed
        alone : ends ≡ status → err_new ≡ err_mid → TellsCopy out out_new err err_new ends
        alone same stays = record {
          page = told.page;
          cut = told.cut;
          shown = subst (λ e. IsShown told.cut (outputs out err) (outputs out_new e) told.page ends) (sym stays)
              (subst (λ n. IsShown told.cut (outputs out err) (outputs out_new err_mid) told.page n) (sym same) told.shown);
          is = λ clean was s at. copy_told s told.page left (state_of old.held) (state_of new.held) blank full (told.is.1 clean was s at);
        }

        -- the failure is printed after the page
        below_it : status ≡ 0 → IsErrorTold taken_err calls_err err_mid err_new (failed CopyFailed).err 3 ends → TellsCopy out out_new err err_new ends
        below_it zero error =
            let first = whole_at_zero told.cut (outputs out err) (outputs out_new err_mid) told.page status zero told.shown in
            let next = error_shown taken calls taken_err calls_err out_new err_mid err_new (failed CopyFailed) ends refl error in
            let three = error_ends taken_err calls_err err_mid err_new (failed CopyFailed).err ends error in
            record {
              page = below told.page (failed CopyFailed);
              cut = cut_below told.page.out next.0;
              shown = shown_last next.0 (outputs out err) (outputs out_new err_mid) (outputs out_new err_new) told.page (failed CopyFailed) status ends first next.1
                  (λ none. absurd (omega (arith, three, none)));
              is = λ clean was s at.
                  copy_unclosed s told.page left (state_of old.held) (state_of new.held) blank full
                  (shown_zero told.cut (outputs out err) (outputs out_new err_mid) told.page status told.shown zero).1 (told.is.1 clean was s at);
            }

        at_zero : status ≡ 0 → EndsCopy taken_err calls_err err_mid err_new ends → TellsCopy out out_new err err_new ends
        at_zero zero (inl same) = alone (same.0 ∙ sym zero) same.1
        at_zero zero (inr error) = below_it zero error

        by : (t : Bool) → (status == 0) ≡ t → TellsCopy out out_new err err_new ends
        by true e = let zero = eqb-true status 0 e in at_zero zero (whole zero)
        by false e = let it = other (λ zero. true≢false (sym (ap (λ n. n == 0) zero) ∙ e)) in alone it.0 it.1
