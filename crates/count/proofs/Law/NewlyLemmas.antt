-- The newly elected candidates.
use Rattle.std.proofs.Common.{◌≡◌, ℕ, Bool, true, false, not, nat_eq, List, refl, sym, ap, ◌∙◌}
use Rattle.std.specs.List.{list_any, filter}
use Rattle.count.specs.Law.Contest.{Contest, History, In}
use Rattle.count.specs.Law.Elected.{elected_after, is_elected}
use Rattle.count.proofs.Law.ActionLemmas.{in-filter}
use Rattle.count.proofs.Law.TieLemmas.{filter-in}
use Rattle.count.proofs.FilterLemmas.{filter-cong}

member_choice : (c : ℕ) (p : ℕ → Bool) (xs : List ℕ) (b t : Bool) → p c ≡ b → list_any (nat_eq c) (filter p xs) ≡ t → In c xs → t ≡ b
member_choice c p xs true t e f h = sym f ∙ filter-in c p xs e h
member_choice c p xs false true e f h = let k = (in-filter c p xs f).0 in cc
member_choice c p xs false false e f h = refl

-- a member of a list is in the filtered list if and only if it passes
pub member-filter : (c : ℕ) (p : ℕ → Bool) (xs : List ℕ) → In c xs → list_any (nat_eq c) (filter p xs) ≡ p c
member-filter c p xs h = member_choice c p xs _ _ refl refl h

-- the elected candidates who weren't elected before are the newly elected ones
pub newly-elected : (contest : Contest) (before after : History) →
    filter (λ c. not (list_any (nat_eq c) (elected_after contest before))) (elected_after contest after) ≡ filter (λ c. not (is_elected contest before c)) (elected_after contest after)
newly-elected contest before after =
    filter-cong _ _ (elected_after contest after) (λ c k.
    ap not (member-filter c (is_elected contest before) contest.candidates (in-filter c (is_elected contest after) contest.candidates k).1))
