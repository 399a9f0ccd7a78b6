-- The second record of an office that is served, and what became of it during a request.
use Rattle.std.specs.Prelude.{◌≡◌, Bool}
use Rattle.clap.specs.Words.{Text}
use Rattle.sqlite.specs.Held.{Held}
use Rattle.sqlite.specs.State.{State}

-- what is known of a store and of a recorder: the state of its connection; the texts that a stop may leave of the record, and whether the record failed
pub record ServedView (S R : Type 0) : Type 1 where
  pub state_of : Held S → State
  pub found : R → Text → Type 0
  pub failed : R → Bool

abbrev pub served_view : {S R : Type 0} → (Held S → State) → (R → Text → Type 0) → (R → Bool) → ServedView S R
served_view state_of found failed = record { state_of = state_of; found = found; failed = failed }

-- What became of the record during a request: the texts that a stop may leave of it before and after the request, whether it failed before or since then, and that it
-- is unchanged.
pub record RecordChange : Type 1 where
  pub old : Text → Type 0
  pub new : Text → Type 0
  pub had_failed : Bool
  pub has_failed : Bool
  pub same : Type 0

abbrev pub change_of : {R : Type 0} → (R → Text → Type 0) → (R → Bool) → R → R → RecordChange
change_of found failed old new = record { old = found old; new = found new; had_failed = failed old; has_failed = failed new; same = new ≡ old }

abbrev pub change_in : {S R : Type 0} → ServedView S R → R → R → RecordChange
change_in view old new = change_of view.found view.failed old new
