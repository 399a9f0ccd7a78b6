-- How a book advances: the next stage, or the reason why there is none.
use Rattle.std.specs.Prelude.{◌≡◌, ℕ, ◌+◌, if◌then◌else◌, List, ◌∷◌, length, Option, Some, None, nat_eq}
use Rattle.std.specs.List.{list_any}
use Rattle.count.specs.Law.Contest.{Contest, History}
use Rattle.count.specs.Law.Due.{lot_for, drawn, due_after}
use Rattle.count.specs.Law.Right.{IsNext, Tells}
use Rattle.count.specs.declared.stages.Action.{Action}
use Rattle.count.specs.declared.stages.Stage.{Stage}
use Rattle.count.specs.declared.stages.Due.{Due}
use Rattle.count.specs.declared.stages.Due.TheVariants.{Act, Lot, Finished}
use Rattle.count.specs.declared.book.AdvanceError.{AdvanceError}
use Rattle.count.specs.declared.book.AdvanceError.TheVariants.{Finished as is_finished, LotNeeded, LotNotAmong}
use Rattle.count.specs.declared.count_to_end.CountEnd.{CountEnd}
use Rattle.count.specs.declared.count_to_end.CountEnd.TheVariants.{Finished as has_finished, LotNeeded as needs_lot, LotNotAmong as misses_lot}

-- the reason why a book can't advance, given the lot and what is due
abbrev pub refusal : Option ℕ → Due → Option AdvanceError
refusal lot (Act action) = None
refusal lot Finished = Some is_finished
refusal None (Lot stage kind tied) = Some LotNeeded
refusal (Some c) (Lot stage kind tied) = if list_any (nat_eq c) tied then None else Some LotNotAmong

-- a history with another stage, which is next for the given lot
pub record Advances (contest : Contest) (old : History) (lot : Option ℕ) (new : History) : Type 0 where
  pub stage : Stage
  pub one_more : new ≡ stage ∷ old
  pub next : IsNext contest old lot stage

-- a history with another stage, which is next for the recorded lots
abbrev pub AdvancesBy : Contest → List (ℕ × ℕ) → History → History → Type 0
AdvancesBy contest lots old new = Advances contest old (lot_for lots (length old + 1)) new

-- a history with another stage, that of the given action
pub record Adds (contest : Contest) (old : History) (action : Action) (new : History) : Type 0 where
  pub stage : Stage
  pub one_more : new ≡ stage ∷ old
  pub of_action : stage.action ≡ action
  pub tells : Tells contest old stage

-- an action that is due, for some lot
pub record IsDue (contest : Contest) (stages : History) (action : Action) : Type 0 where
  pub lot : Option ℕ
  pub is : drawn contest stages lot (due_after contest stages) ≡ Some action

-- the reason why a count ends, if it does, given the lot and what is due
abbrev pub end_of : Option ℕ → Due → Option CountEnd
end_of lot (Act action) = None
end_of lot Finished = Some has_finished
end_of None (Lot stage kind tied) = Some (needs_lot stage tied)
end_of (Some c) (Lot stage kind tied) = if list_any (nat_eq c) tied then None else Some (misses_lot stage)

-- the reason why a count ends after the given stages, if it does
abbrev pub end_after : Contest → List (ℕ × ℕ) → History → Option CountEnd
end_after contest lots stages = end_of (lot_for lots (length stages + 1)) (due_after contest stages)
