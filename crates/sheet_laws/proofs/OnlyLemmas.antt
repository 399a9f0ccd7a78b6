-- Groups of papers are determined by their order, their surplus, and the number of papers at each value.
use Rattle.std.proofs.Common.{◌≡◌, ◌⊎◌, inl, inr, ℕ, zero, suc, ◌+◌, ◌<◌, ◌≤◌, ◌==◌, cond, List, [], ◌∷◌, refl, sym, ap, ◌∙◌, arith}
use Rattle.std.specs.Prelude.{AllPairs}
use Rattle.std.specs.List.{AllByRecursion}
use Rattle.std.proofs.lemmas.Bool.{cases_order, eq-eqb, ne_eqb}
use Rattle.std.proofs.lemmas.List.Elements.{recursion_from_All}
use Rattle.std.proofs.lemmas.List.Sums.{sum_by-cons}
use Rattle.votes.specs.Units.{cut}
use Rattle.count.specs.Law.Contest.{Contest, History, newest_votes}
use Rattle.count.specs.Law.Places.{surplus_of}
use Rattle.sheet.specs.Surpluses.{all_held}
use Rattle.sheet.specs.declared.surpluses.PassedOn.{PassedOn}
use Rattle.sheet_laws.specs.SurplusLaw.{AreTheOnlyGroups, IsHigher, IsOfSurplus, papers_received_at}
use Rattle.sheet_laws.proofs.GroupLemmas.{Descend, all_papers, each_below, transfer_values}

pairs_descend : (groups : List PassedOn) → AllPairs IsHigher groups → Descend groups
pairs_descend [] pairs = tt
pairs_descend (g ∷ gs) pairs = (
  recursion_from_All (λ h. h.received < g.received) gs (λ k d within. pairs zero (suc k) d (omega arith) (omega (arith, within))),
  pairs_descend gs (λ i j d up within. pairs (suc i) (suc j) d (omega (arith, up)) (omega (arith, within))),
)

-- ---- the number of papers at a value

-- the papers of one group that were received at a value
abbrev one_at : ℕ → PassedOn → ℕ
one_at value g = cond (g.received == value) g.papers 0

at_cons : (value : ℕ) (g : PassedOn) (gs : List PassedOn) → papers_received_at value (g ∷ gs) ≡ one_at value g + papers_received_at value gs
at_cons value g gs = sum_by-cons (one_at value) g gs

one_here : (value : ℕ) (g : PassedOn) → g.received ≡ value → one_at value g ≡ g.papers
one_here value g is = ap (λ b. cond b g.papers 0) (eq-eqb g.received value is)

one_other : (value : ℕ) (g : PassedOn) → (g.received ≡ value → ⊥) → one_at value g ≡ 0
one_other value g differ = ap (λ b. cond b g.papers 0) (ne_eqb g.received value differ)

none_at : (value : ℕ) (gs : List PassedOn) → AllByRecursion (λ h. h.received < value) gs → papers_received_at value gs ≡ 0
none_at value [] below = refl
none_at value (g ∷ gs) below =
    let other = one_other value g (λ is. let bad : ⊥ = omega (arith, is, below.0) in bad) in
    omega (arith, at_cons value g gs, other, none_at value gs below.1)

-- ---- the same groups

same_group : (contest : Contest) (before : History) (c : ℕ) (g h : PassedOn) → IsOfSurplus contest before c g → IsOfSurplus contest before c h → g.papers ≡ h.papers →
    g.received ≡ h.received → g ≡ h
same_group contest before c g h of of2 papers received =
    let stage : g.stage ≡ h.stage = of.stage_is ∙ sym of2.stage_is in
    let candidate : g.candidate ≡ h.candidate = of.candidate_is ∙ sym of2.candidate_is in
    let surplus : g.surplus ≡ h.surplus = of.surplus_is ∙ sym of2.surplus_is in
    let votes : g.votes ≡ h.votes = of.votes_are ∙ sym of2.votes_are in
    let passed : g.passed ≡ h.passed = of.passed_is ∙ ap (cut_at) received ∙ sym of2.passed_is in
    λ i. record { stage = stage i; candidate = candidate i; surplus = surplus i; votes = votes i; papers = papers i; received = received i; passed = passed i }
  where
    cut_at : ℕ → ℕ
    cut_at value = cut (surplus_of contest before c) value (newest_votes before c)

-- the first group of one list isn't below that of another with the same numbers of papers
not_below : (h : PassedOn) (gs hs : List PassedOn) → AllByRecursion (λ k. k.received < h.received) gs → 1 ≤ h.papers →
    papers_received_at h.received gs ≡ papers_received_at h.received (h ∷ hs) → ⊥
not_below h gs hs below some same =
    let bad : ⊥ = omega (arith, none_at h.received gs below, at_cons h.received h hs, one_here h.received h refl, some, same) in bad

same_groups : (contest : Contest) (before : History) (c : ℕ) (gs hs : List PassedOn) → AllByRecursion (IsOfSurplus contest before c) gs →
    AllByRecursion (IsOfSurplus contest before c) hs → Descend gs → Descend hs → ((value : ℕ) → papers_received_at value gs ≡ papers_received_at value hs) → gs ≡ hs
same_groups contest before c [] [] of of2 down down2 same = refl
same_groups contest before c [] (h ∷ hs) of of2 down down2 same = absurd (not_below h [] hs tt of2.0.some_papers (same h.received))
same_groups contest before c (g ∷ gs) [] of of2 down down2 same = absurd (not_below g [] gs tt of.0.some_papers (sym (same g.received)))
same_groups contest before c (g ∷ gs) (h ∷ hs) of of2 down down2 same =
    by (cases_order g.received h.received) (λ rest. same_groups contest before c gs hs of.1 of2.1 down.1 down2.1 rest)
  where
    alike : g.received ≡ h.received → g.papers ≡ h.papers
    alike received =
        let left = none_at g.received gs down.0 in
        let right = none_at g.received hs (each_below h.received g.received hs (omega (arith, received)) down2.0) in
        omega (arith, at_cons g.received g gs, at_cons g.received h hs, one_here g.received g refl, one_here g.received h (sym received), left, right, same g.received)

    rest : g.received ≡ h.received → (value : ℕ) → papers_received_at value gs ≡ papers_received_at value hs
    rest received value =
        let first : one_at value g ≡ one_at value h = (λ i. cond (received i == value) (alike received i) 0) in
        omega (arith, at_cons value g gs, at_cons value h hs, first, same value)

    by : (g.received ≡ h.received) ⊎ ((g.received < h.received) ⊎ (h.received < g.received)) →
        (((value : ℕ) → papers_received_at value gs ≡ papers_received_at value hs) → gs ≡ hs) → g ∷ gs ≡ h ∷ hs
    by (inl received) later =
        let first = same_group contest before c g h of.0 of2.0 (alike received) received in
        λ i. first i ∷ later (rest received) i
    by (inr (inl less)) later =
        absurd (not_below h (g ∷ gs) hs (less, each_below g.received h.received gs (omega (arith, less)) down.0) of2.0.some_papers (same h.received))
    by (inr (inr more)) later =
        absurd (not_below g (h ∷ hs) gs (more, each_below h.received g.received hs (omega (arith, more)) down2.0) of.0.some_papers (sym (same g.received)))

-- the count determines the groups
pub only_groups : AreTheOnlyGroups
only_groups contest before bundles c groups are of pairs numbers =
    let named = transfer_values contest before bundles c are in
    same_groups contest before c groups (all_held contest before bundles c) of named.0 (pairs_descend groups pairs)
    (pairs_descend (all_held contest before bundles c) named.1) (λ value. numbers value ∙ sym ((all_papers contest before bundles c are).1 value))
