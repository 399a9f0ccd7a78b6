-- Each action is drawn by the lot that it itself names.
use Rattle.std.proofs.Common.{◌≡◌, ℕ, Bool, true, false, cond, nat_eq, List, Option, Some, None, refl, sym, ap, ◌∙◌}
use Rattle.std.specs.List.{list_any}
use Rattle.count.specs.Law.Contest.{Contest, History}
use Rattle.count.specs.Law.Due.{drawn, action_on}
use Rattle.count.specs.Law.Right.{candidate_of}
use Rattle.count.specs.declared.stages.Action.{Action}
use Rattle.count.specs.declared.stages.Action.TheVariants.{Exclude, ExcludeLast}
use Rattle.count.specs.declared.stages.TiedFor.{TiedFor}
use Rattle.count.specs.declared.stages.TiedFor.TheVariants.{Surplus as of_surplus, Exclusion as of_exclusion}
use Rattle.count.specs.declared.stages.Due.{Due}
use Rattle.count.specs.declared.stages.Due.TheVariants.{Act, Lot, Finished}

own_exclusion : (b : Bool) (c : ℕ) → candidate_of (cond b (ExcludeLast c) (Exclude c)) ≡ Some c
own_exclusion true c = refl
own_exclusion false c = refl

own_action : (contest : Contest) (stages : History) (kind : TiedFor) (c : ℕ) → candidate_of (action_on contest stages kind c) ≡ Some c
own_action contest stages of_surplus c = refl
own_action contest stages of_exclusion c = own_exclusion _ c

own_lot : (contest : Contest) (stages : History) (n : ℕ) (kind : TiedFor) (tied : List ℕ) (c : ℕ) (b : Bool) (action : Action) → list_any (nat_eq c) tied ≡ b →
    cond b (Some (action_on contest stages kind c)) None ≡ Some action →
    drawn contest stages (candidate_of action) (Lot n kind tied) ≡ Some action
own_lot contest stages n kind tied c true action e h =
    let is : action_on contest stages kind c ≡ action = cc in
    ap (λ a. drawn contest stages (candidate_of a) (Lot n kind tied)) (sym is)
    ∙ ap (λ o. drawn contest stages o (Lot n kind tied)) (own_action contest stages kind c)
    ∙ ap (λ b. cond b (Some (action_on contest stages kind c)) None) e ∙ h
own_lot contest stages n kind tied c false action e h = cc

-- an action drawn by a lot is drawn by the lot that it itself names
pub drawn-own : (contest : Contest) (stages : History) (lot : Option ℕ) (d : Due) (action : Action) → drawn contest stages lot d ≡ Some action →
    drawn contest stages (candidate_of action) d ≡ Some action
drawn-own contest stages lot (Act a) action h = h
drawn-own contest stages lot Finished action h = cc
drawn-own contest stages None (Lot n kind tied) action h = cc
drawn-own contest stages (Some c) (Lot n kind tied) action h = own_lot contest stages n kind tied c _ action refl h
