-- Ties don't depend on names: only numbers matter.
use Rattle.std.proofs.Common.{◌≡◌, ℕ, Bool, ◌&&◌, ◌||◌, List, [], ◌∷◌, String, nat_lt, refl, ap}
use Rattle.std.specs.declared.alloc.Global.{Global}
use Rattle.count.specs.declared.stages.Stage.{Stage}
use Rattle.sheet.specs.Entries.{candidates_shown}
use Rattle.sheet.specs.Lots.{has_tied_above, has_tied_below, is_tied}

pub below_shown : (candidates : List (ℕ × String Global)) (earlier : List Stage) (c d : ℕ) → has_tied_below (candidates_shown candidates) earlier c d ≡ has_tied_below candidates earlier c d
below_shown [] earlier c d = refl
below_shown (x ∷ xs) earlier c d = ap (λ (b : Bool). (nat_lt x.0 d && is_tied earlier c x.0) || b) (below_shown xs earlier c d)

pub above_shown : (candidates : List (ℕ × String Global)) (earlier : List Stage) (c d : ℕ) → has_tied_above (candidates_shown candidates) earlier c d ≡ has_tied_above candidates earlier c d
above_shown [] earlier c d = refl
above_shown (x ∷ xs) earlier c d = ap (λ (b : Bool). (nat_lt d x.0 && is_tied earlier c x.0) || b) (above_shown xs earlier c d)
