-- What is printed for a new office, and for its files, which are closed afterwards.
use Rattle.std.proofs.Common.{◌≡◌, ◌⊎◌, ◌∙◌, ℕ, Bool, true, false, true≢false, List, Option, inl, inr, refl, sym, ap, subst, arith, eqb-true}
use Rattle.std.specs.Prelude.{◌==◌}
use Rattle.sqlite.specs.Held.{Held}
use Rattle.sqlite.specs.State.{State}
use Rattle.register.specs.Offices.{OfficeState}
use Rattle.office.specs.Answers.{WhenOpenAt}
use Rattle.office.specs.Values.{OfficeValue}
use Rattle.mending.specs.Accounts.{IsMended}
use Rattle.mending.specs.Changes.{CanBeMade}
use Rattle.mending.specs.Mending.{mended}
use Rattle.desk.specs.Mends.{IsMade, IsMendPage, IsMendTold, IsMendedOpen, IsUnmade, mended_text, ward_lines}
use Rattle.desk.specs.Pages.{IsErrorTold, IsShown, Outputs, Page, Tells, below, cut_below, failed, outputs_of, printed}
use Rattle.desk.specs.declared.copying.CopyState.{CopyState}
use Rattle.desk.specs.declared.lines.Failure.{Failure}
use Rattle.desk.specs.declared.lines.Failure.TheVariants.{CopyFailed}
use Rattle.desk.specs.declared.orders.MendOrder.{MendOrder}
use Rattle.desk.proofs.PageLemmas.{error_shown, shown_last}
use Rattle.count_office.specs.Done.{EndsCopy}
use Rattle.count_office.proofs.CopyLemmas.{error_ends, whole_at_zero}

-- what is printed for the new office
pub mend_told : (s : OfficeState) (m : MendOrder) (page : Page) (left : CopyState) (new_old new_new : State) → IsMendedOpen s m page left new_old new_new → IsMendTold s m page
mend_told s m page left new_old new_new (inl (changes, asked, tried)) = inl (changes, asked, by tried.told)
  where
    by : IsMade (ward_lines s) changes page left new_old new_new ⊎ IsUnmade changes page
        → (CanBeMade changes × IsMended changes (mended changes) × (page ≡ printed (mended_text (ward_lines s) (mended changes)))) ⊎ IsUnmade changes page
    by (inl made) = inl (made.can, made.list, made.told)
    by (inr unmade) = inr unmade
mend_told s m page left new_old new_new (inr other) = inr other.0

module _ {O E : Type 0} (taken : O → Option (List ℕ)) (calls : O → ℕ) (taken_err : E → Option (List ℕ)) (calls_err : E → ℕ) where
  abbrev outputs : O → E → Outputs
  outputs out err = outputs_of taken calls taken_err calls_err out err

  -- a failure that is printed
  pub mend_failed : (P : Page → Type 0) (failure : Failure) (out : O) (err err_new : E) (ends : ℕ) → P (failed failure)
      → IsErrorTold taken_err calls_err err err_new (failed failure).err 3 ends → Tells (outputs out err) (outputs out err_new) ends (λ cut page. P page)
  mend_failed P failure out err err_new ends is error =
      let told = error_shown taken calls taken_err calls_err out err err_new (failed failure) ends refl error in
      record { page = failed failure; cut = told.0; shown = told.1; is = is }

  module _ (P : Page → Type 0) where
    -- the page, possibly followed by the failure to close the files
    abbrev pub Ended : Page → Type 0
    Ended page = P page ⊎ ((made : Page) × P made × (made.status ≡ 0) × (page ≡ below made (failed CopyFailed)))

    -- what is printed, followed, with status 0, by the outcome of closing the files
    pub mend_closed : (out out_new : O) (err err_mid err_new : E) (status ends : ℕ) → Tells (outputs out err) (outputs out_new err_mid) status (λ cut page. P page)
        → (¬ (status ≡ 0) → (ends ≡ status) × (err_new ≡ err_mid)) → (status ≡ 0 → EndsCopy taken_err calls_err err_mid err_new ends)
        → Tells (outputs out err) (outputs out_new err_new) ends (λ cut page. Ended page)
    mend_closed out out_new err err_mid err_new status ends told other whole = by (status == 0) refl
      where
        alone : ends ≡ status → err_new ≡ err_mid → Tells (outputs out err) (outputs out_new err_new) ends (λ cut page. Ended page)
        alone same stays = record {
          page = told.page;
          cut = told.cut;
          shown = subst (λ e. IsShown told.cut (outputs out err) (outputs out_new e) told.page ends) (sym stays)
              (subst (λ n. IsShown told.cut (outputs out err) (outputs out_new err_mid) told.page n) (sym same) told.shown);
          is = inl told.is;
        }

        below_it : status ≡ 0 → IsErrorTold taken_err calls_err err_mid err_new (failed CopyFailed).err 3 ends → Tells (outputs out err) (outputs out_new err_new) ends (λ cut page. Ended page)
        below_it zero error =
            let first = whole_at_zero told.cut (outputs out err) (outputs out_new err_mid) told.page status zero told.shown in
            let next = error_shown taken calls taken_err calls_err out_new err_mid err_new (failed CopyFailed) ends refl error in
            let three = error_ends taken_err calls_err err_mid err_new (failed CopyFailed).err ends error in
            record {
              page = below told.page (failed CopyFailed);
              cut = cut_below told.page.out next.0;
              shown = shown_last next.0 (outputs out err) (outputs out_new err_mid) (outputs out_new err_new) told.page (failed CopyFailed) status ends first next.1
                  (λ none. absurd (omega (arith, three, none)));
              is = inr (told.page, told.is, sym first.ends ∙ zero, refl);
            }

        at_zero : status ≡ 0 → EndsCopy taken_err calls_err err_mid err_new ends → Tells (outputs out err) (outputs out_new err_new) ends (λ cut page. Ended page)
        at_zero zero (inl same) = alone (same.0 ∙ sym zero) same.1
        at_zero zero (inr error) = below_it zero error

        by : (t : Bool) → (status == 0) ≡ t → Tells (outputs out err) (outputs out_new err_new) ends (λ cut page. Ended page)
        by true e = let zero = eqb-true status 0 e in at_zero zero (whole zero)
        by false e = let it = other (λ zero. true≢false (sym (ap (λ n. n == 0) zero) ∙ e)) in alone it.0 it.1

  -- the pages for a new office made from an open one
  pub mend_ended : {S : Type 0} (state_of : Held S → State) (old new : OfficeValue S) (m : MendOrder) (before after : Outputs) (ends : ℕ)
      → Tells before after ends (λ cut page. Ended (λ (p : Page). WhenOpenAt state_of old new (λ s. IsMendTold s m p)) page)
      → Tells before after ends (λ cut page. WhenOpenAt state_of old new (λ s. IsMendPage s m page))
  mend_ended state_of old new m before after ends told = record {
    page = told.page;
    cut = told.cut;
    shown = told.shown;
    is = λ clean was s at. elim told.is [ inl is ↦ inl (is clean was s at) | inr (made, is, zero, same) ↦ inr (made, is clean was s at, zero, same) ];
  }
