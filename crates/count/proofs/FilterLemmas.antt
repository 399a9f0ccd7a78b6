-- Tests that agree.
use Rattle.std.proofs.Common.{◌≡◌, ℕ, ◌||◌, Bool, cond, nat_eq, List, [], ◌∷◌, refl, ap, ◌∙◌}
use Rattle.std.specs.List.{list_any, filter}
use Rattle.std.proofs.lemmas.Bool.{eq-eqb}
use Rattle.count.specs.Law.Contest.{In}
use Rattle.count.proofs.ChoiceLemmas.{or_later}

-- tests that agree on the members select the same ones
pub filter-cong : (p q : ℕ → Bool) (xs : List ℕ) → ((c : ℕ) → In c xs → p c ≡ q c) → filter p xs ≡ filter q xs
filter-cong p q [] h = refl
filter-cong p q (x ∷ xs) h =
    ap (λ b. cond b (x ∷ filter p xs) (filter p xs)) (h x (ap (λ b. b || list_any (nat_eq x) xs) (eq-eqb x x refl)))
    ∙ ap (λ l. cond (q x) (x ∷ l) l) (filter-cong p q xs (λ c k. h c (or_later (nat_eq c x) (list_any (nat_eq c) xs) k)))
