-- The causes of faults relative to an earlier state, and the uniqueness of answers.
use Rattle.std.proofs.Common.{◌≡◌, ◌≤◌, ◌∙◌, inl, inr, Bool, true, false, true≢false, Result, Ok, Err, refl, sym, ap, arith}
use Rattle.sqlite.specs.State.{State, HasCleanDisk}
use Rattle.tables.specs.declared.fault.Fault.{Fault}
use Rattle.tables.specs.Reading.{FailsBy, HasFailed}
use Rattle.store.specs.StateTables.{KeepsConnection}

-- a store that has failed since b has also failed since a if only our calls were made in between
failed_since : (a b c : State) → HasCleanDisk b → KeepsConnection a b → b.faults ≤ c.faults → HasFailed b c → HasFailed a c
failed_since a b c clean first counts (inl more) = let low = first.counts in inl (omega (arith, low, more))
failed_since a b c clean first counts (inr (inr limit)) = inr (inr (rw first.limit at limit))
failed_since a b c clean first counts (inr (inl shut)) = go a.is_open refl
  where
    go : (was : Bool) → a.is_open ≡ was → HasFailed a c
    go false is = inr (inl is)
    go true is = elim (first.closes clean is) [
      | inl still ↦ absurd (true≢false (sym still ∙ shut))
      | inr more ↦ inl (omega (arith, counts, more))
    ]

-- a fault since b is also a fault since a
abbrev pub TellsSince : State → State → State → Type 0
TellsSince a b c = (fault : Fault) → FailsBy b c fault → FailsBy a c fault

pub since : (a b c : State) → HasCleanDisk b → KeepsConnection a b → KeepsConnection b c → TellsSince a b c
since a b c clean first second fault (inl memory) = inl memory
since a b c clean first second fault (inr (store, failed)) = inr (store, failed_since a b c clean first second.counts failed)

-- ---- answers are unique

module _ {X E : Type 0} where
  -- a result isn't both a value and an error,
  pub told_one : {x : X} {why : E} (r : Result X E) → r ≡ Ok x → r ≡ Err why → ⊥
  told_one {x} {why} r ok err = let bad : Ok x ≡ Err why = sym ok ∙ err in absurd (cc bad)

  -- and it isn't two different errors
  abbrev fault_in : Result X E → E → E
  fault_in (Ok x) none = none
  fault_in (Err why) none = why

  pub told_fault : (why other : E) (r : Result X E) → r ≡ Err why → r ≡ Err other → why ≡ other
  told_fault why other r first second = ap (λ (x : Result X E). fault_in x other) (sym first ∙ second)
