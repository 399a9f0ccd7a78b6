-- The groups of papers that pass on with a surplus account for the figures of its stage.
use Rattle.std.proofs.Common.{◌≡◌, ◌⊎◌, inl, inr, ℕ, zero, suc, ◌+◌, ◌-◌, ◌*◌, ◌<◌, ◌≤◌, ◌==◌, ◌||◌, Bool, true, false, not, cond, eqb, List, [], ◌∷◌, ◌++◌, replicate}
use Rattle.std.proofs.Common.{Option, refl, sym, ap, subst, ◌∙◌, arith}
use Rattle.std.specs.List.{AllByRecursion, IsDistinct, filter, sum_by}
use Rattle.std.specs.Option.{unwrap_or}
use Rattle.std.proofs.lemmas.Bool.{eq-eqb, eqb-false, eqb-true, ne_eqb}
use Rattle.std.proofs.lemmas.List.Sums.{sum_by-cons}
use Rattle.votes.specs.Units.{cut}
use Rattle.paper.specs.Ranking.{IsRanking}
use Rattle.count.specs.Books.{AreRankings}
use Rattle.count.specs.Bundles.{Bundle, IsBundle, papers_of}
use Rattle.count.specs.Law.Contest.{Contest, History, In, IsContest, newest_votes, votes_at}
use Rattle.count.specs.Law.Elected.{is_transferred, transfers}
use Rattle.count.specs.Law.Figures.{lost_after, lost_by, value_passed_on, votes_after}
use Rattle.count.specs.Law.Places.{Place, moved, place, surplus_of}
use Rattle.count.specs.Law.Right.{IsRightBy, candidate_of}
use Rattle.count.specs.declared.stages.Action.{Action}
use Rattle.count.specs.declared.stages.Action.TheVariants.{Exclude, ExcludeLast, Surplus}
use Rattle.count.specs.declared.stages.Stage.{Stage}
use Rattle.count.proofs.ChoiceLemmas.{not_true}
use Rattle.count.proofs.SumLemmas.{sum_by-add, sum_by-same}
use Rattle.count.proofs.Law.ActionLemmas.{column-in, in-filter}
use Rattle.count.proofs.Law.CandidateSums.{columns-distinct, sum-le, sum-one}
use Rattle.count.proofs.Law.ConservedLemmas.{figures-conserved}
use Rattle.count.proofs.Law.CutLemmas.{cuts_le}
use Rattle.count.proofs.Law.StepLemmas.{IsExclusion, IsSurplus, step-is, surplus-held, told-votes, votes-transferred}
use Rattle.count.proofs.Law.ValueLemmas.{held, held-kept, taken-cuts, takes}
use Rattle.sheet.specs.Surpluses.{all_held}
use Rattle.sheet.specs.declared.surpluses.PassedOn.{PassedOn}
use Rattle.sheet_laws.specs.SurplusLaw.{AccountForFigures, AreBundlesOf, AreOfFigures, IsOfSurplus, gained, others, value_received, value_transferred}
use Rattle.sheet_laws.proofs.GroupLemmas.{transfer_values, weighed, weight_all, weight_held}

-- ---- sums

-- functions that are equal on each member have equal sums
sum_each : (P : PassedOn → Type 0) (f h : PassedOn → ℕ) (gs : List PassedOn) → AllByRecursion P gs → ((g : PassedOn) → P g → f g ≡ h g) → sum_by f gs ≡ sum_by h gs
sum_each P f h [] each same = refl
sum_each P f h (g ∷ gs) each same = omega (arith, sum_by-cons f g gs, sum_by-cons h g gs, same g each.0, sum_each P f h gs each.1 same)

apart : (f : ℕ → ℕ) (c : ℕ) (ds : List ℕ) → sum_by f ds ≡ sum_by (λ d. cond (eqb c d) (f c) 0) ds + sum_by f (filter (λ d. not (eqb c d)) ds)
apart f c [] = refl
apart f c (d ∷ ds) = by (eqb c d) refl (apart f c ds)
  where
    rest : List ℕ
    rest = filter (λ e. not (eqb c e)) ds

    chosen : ℕ → ℕ
    chosen e = cond (eqb c e) (f c) 0

    by : (b : Bool) → eqb c d ≡ b → sum_by f ds ≡ sum_by chosen ds + sum_by f rest → sum_by f (d ∷ ds) ≡ sum_by chosen (d ∷ ds) + sum_by f (cond (not b) (d ∷ rest) rest)
    by true is later =
        let here : chosen d ≡ f c = ap (λ b. cond b (f c) 0) is in
        let same : f c ≡ f d = ap f (eqb-true c d is) in
        omega (arith, sum_by-cons f d ds, sum_by-cons chosen d ds, here, same, later)
    by false is later =
        let here : chosen d ≡ 0 = ap (λ b. cond b (f c) 0) is in
        omega (arith, sum_by-cons f d ds, sum_by-cons chosen d ds, sum_by-cons f d rest, here, later)

-- the sum over distinct candidates is that of one and that of the others
sum_others : (f : ℕ → ℕ) (contest : Contest) (c : ℕ) → IsDistinct eqb contest.candidates → In c contest.candidates → sum_by f contest.candidates ≡ f c + sum_by f (others contest c)
sum_others f contest c distinct here =
    apart f c contest.candidates
    ∙ ap (λ n. n + sum_by f (others contest c)) (sum-one c (f c) contest.candidates distinct ∙ ap (λ b. cond b (f c) 0) here)

-- ---- the papers of bundles rank candidates

rankings_more : (n : ℕ) (paper : List ℕ) (rest : List (List ℕ)) → IsRanking paper → AreRankings rest → AreRankings (replicate n paper ++ rest)
rankings_more zero paper rest one others_are = others_are
rankings_more (suc n) paper rest one others_are = (one, rankings_more n paper rest one others_are)

rankings_of : (bundles : List Bundle) → AllByRecursion IsBundle bundles → AreRankings (papers_of bundles)
rankings_of [] each = tt
rankings_of (b ∷ bundles) each = rankings_more b.1 b.0 (papers_of bundles) each.0.2 (rankings_of bundles each.1)

-- ---- a surplus that is due

same_surplus : (contest : Contest) (stages : History) (c : ℕ) (action : Action) → action ≡ Surplus c → IsSurplus contest stages action ⊎ IsExclusion contest stages action →
    In c contest.candidates × (contest.quota < newest_votes stages c)
same_surplus contest stages c action is (inl on) =
    let same : on.c ≡ c = ap (λ a. unwrap_or (candidate_of a) on.c) (sym on.is ∙ is) in
    (subst (λ d. In d contest.candidates) same on.is_candidate, subst (λ d. contest.quota < newest_votes stages d) same on.above)
same_surplus contest stages c action is (inr on) = never _ (sym is ∙ on.is)
  where
    never : (b : Bool) → Surplus c ≡ cond b (ExcludeLast on.c) (Exclude on.c) → In c contest.candidates × (contest.quota < newest_votes stages c)
    never true h = cc
    never false h = cc

-- ---- the values of the groups

received_held : (contest : Contest) (before : History) (c : ℕ) (bundles : List Bundle) → AreBundlesOf contest bundles →
    value_received (all_held contest before bundles c) ≡ held contest before c
received_held contest before c bundles of = weight_all (λ v. v) contest before c bundles of.papers_are

passed_cut : (contest : Contest) (before : History) (c : ℕ) (g : PassedOn) → IsOfSurplus contest before c g →
    g.papers * g.passed ≡ weighed (λ v. cut (surplus_of contest before c) v (newest_votes before c)) g
passed_cut contest before c g of = ap (λ v. g.papers * v) of.passed_is

new_value_at : (contest : Contest) (s : Stage) (before : History) (c : ℕ) (paper : List ℕ) → s.action ≡ Surplus c →
    weight_held (λ v. cut (surplus_of contest before c) v (newest_votes before c)) c (place contest before paper)
    ≡ cond ((place contest before paper).holder == c) (place contest (s ∷ before) paper).value 0
new_value_at contest s before c paper is =
    subst (λ a. cond (at.holder == c) new 0 ≡ cond (at.holder == c) (moved contest before a paper at).value 0) (sym is) (by (at.holder == c) _)
  where
    at : Place
    at = place contest before paper

    new : ℕ
    new = cut (surplus_of contest before c) at.value (newest_votes before c)

    by : (b : Bool) (h : ℕ) → let to : Place = record { holder = h; value = new } in cond b new 0 ≡ cond b (cond b to at).value 0
    by true h = refl
    by false h = refl

transferred_passed : (contest : Contest) (s : Stage) (before : History) (c : ℕ) (bundles : List Bundle) → AreBundlesOf contest bundles → s.action ≡ Surplus c →
    value_transferred (all_held contest before bundles c) ≡ value_passed_on contest s before c
transferred_passed contest s before c bundles of is =
    let new : ℕ → ℕ = λ v. cut (surplus_of contest before c) v (newest_votes before c) in
    let groups = all_held contest before bundles c in
    sum_each (IsOfSurplus contest before c) (λ g. g.papers * g.passed) (weighed new) groups (transfer_values contest before bundles c of).0 (passed_cut contest before c)
    ∙ weight_all new contest before c bundles of.papers_are
    ∙ sum_by-same _ _ contest.papers (λ paper. new_value_at contest s before c paper is)

-- ---- the others

not_taken : (s : Stage) (c d : ℕ) → s.action ≡ Surplus c → (c ≡ d → ⊥) → takes s.action d ≡ false
not_taken s c d is differ = ap (λ a. takes a d) is ∙ ne_eqb c d differ

votes_kept : (contest : Contest) (s : Stage) (before : History) (c d : ℕ) → s.action ≡ Surplus c → (c ≡ d → ⊥) → votes_after contest before d ≤ votes_after contest (s ∷ before) d
votes_kept contest s before c d is differ =
    let other : transfers s.action d ≡ false = ap (λ a. transfers a d) is ∙ ne_eqb c d differ in
    by (transfers s.action d) (is_transferred before d) other (held-kept contest s before d (not_taken s c d is differ))
  where
    by : (now before_now : Bool) → now ≡ false → held contest before d ≤ held contest (s ∷ before) d →
        cond before_now contest.quota (held contest before d) ≤ cond (now || before_now) contest.quota (held contest (s ∷ before) d)
    by true gone other more = cc
    by false true other more = omega arith
    by false false other more = more

quota_kept : (contest : Contest) (s : Stage) (before : History) (c : ℕ) → s.action ≡ Surplus c → votes_after contest (s ∷ before) c ≡ contest.quota
quota_kept contest s before c is =
    votes-transferred contest (s ∷ before) c
    (ap (λ a. transfers a c || is_transferred before c) is ∙ ap (λ b. b || is_transferred before c) (eq-eqb c c refl))

gains_add : (s old : Stage) (ds : List ℕ) → ((d : ℕ) → In d ds → votes_at old d ≤ votes_at s d) → sum_by (votes_at s) ds ≡ sum_by (votes_at old) ds + sum_by (gained s old) ds
gains_add s old ds kept =
    let both : ℕ → ℕ = λ d. votes_at old d + gained s old d in
    let below = sum-le (votes_at s) both ds (λ d here. omega (arith, kept d here)) in
    let above = sum-le both (votes_at s) ds (λ d here. omega (arith, kept d here)) in
    omega (arith, below, above, sum_by-add (votes_at old) (gained s old) ds)

-- ---- the figures

module _ (contest : Contest) (handed : History → Stage → Option ℕ) (s old : Stage) (older : History) (bundles : List Bundle) (c : ℕ)
    (fair : IsContest contest) (of : AreBundlesOf contest bundles) (right : IsRightBy contest handed (s ∷ old ∷ older)) (is : s.action ≡ Surplus c)
  where
    abbrev stages : History
    stages = old ∷ older

    rankings : AreRankings contest.papers
    rankings = subst AreRankings (sym of.papers_are) (rankings_of bundles of.bundles_are.each)

    due : In c contest.candidates × (contest.quota < newest_votes stages c)
    due = same_surplus contest stages c s.action is (step-is contest old older (handed stages s) s.action right.1.was_due)

    own : held contest stages c ≡ newest_votes stages c
    own = surplus-held contest old older c right.0.1.tells (column-in c contest.candidates fair.candidate_set due.0) due.1

    none_lose : (d : ℕ) → In d contest.candidates → (c ≡ d → ⊥) → votes_at old d ≤ votes_at s d
    none_lose d here differ =
        let column = column-in d contest.candidates fair.candidate_set here in
        let before = told-votes contest old older d right.0.1.tells column in
        let after = told-votes contest s stages d right.1.tells column in
        omega (arith, before, after, votes_kept contest s stages c d is differ)

    more_untransferable : old.non_transferable ≤ s.non_transferable
    more_untransferable =
        let positive = (column-in c contest.candidates fair.candidate_set due.0).0 in
        let kept = held-kept contest s stages 0 (not_taken s c 0 is (λ e. let bad : ⊥ = omega (arith, e, positive) in bad)) in
        omega (arith, kept, right.0.1.tells.non_transferable_told, right.1.tells.non_transferable_told)

    passed_within : value_passed_on contest s stages c ≤ surplus_of contest stages c
    passed_within =
        let within = cuts_le (surplus_of contest stages c) (newest_votes stages c) (λ p. cond ((place contest stages p).holder == c) (place contest stages p).value 0) contest.papers
        (omega (arith, due.1)) own in
        omega (arith, taken-cuts contest s stages c is, within)

    quota_stays : votes_at s c ≡ contest.quota
    quota_stays =
        told-votes contest s stages c right.1.tells (column-in c contest.candidates fair.candidate_set due.0) ∙ quota_kept contest s stages c is

    lost_more : s.lost ≡ old.lost + (surplus_of contest stages c - value_passed_on contest s stages c)
    lost_more =
        right.1.tells.lost_told ∙ ap (λ a. lost_after contest stages + lost_by contest s stages a) is
        ∙ ap (λ n. n + (surplus_of contest stages c - value_passed_on contest s stages c)) (sym right.0.1.tells.lost_told)

    all_gain : sum_by (gained s old) (others contest c) + (s.non_transferable - old.non_transferable) ≡ value_passed_on contest s stages c
    all_gain =
        let now = figures-conserved contest handed s stages fair right rankings in
        let before = figures-conserved contest handed old older fair right.0 rankings in
        let distinct = columns-distinct contest.candidates fair.candidate_set in
        let now_apart = sum_others (votes_at s) contest c distinct due.0 in
        let before_apart = sum_others (votes_at old) contest c distinct due.0 in
        let gains = gains_add s old (others contest c) (λ d here.
        let among = in-filter d (λ e. not (c == e)) contest.candidates here in
        none_lose d among.1 (eqb-false c d (not_true (c == d) among.0))) in
        omega (arith, now, before, now_apart, before_apart, gains, quota_stays, due.1, lost_more, passed_within, more_untransferable)

    pub of_figures : AreOfFigures contest s old c (all_held contest stages bundles c)
    of_figures =
        let passed = transferred_passed contest s stages c bundles of is in
        record {
          votes_are = received_held contest stages c bundles of ∙ own;
          quota_stays = quota_stays;
          above_quota = due.1;
          none_loses = λ d here differ. none_lose d here (λ e. differ (sym e));
          non_transferable_kept = more_untransferable;
          gains_are = all_gain ∙ sym passed;
          rest_is_lost = lost_more ∙ ap (λ n. old.lost + (surplus_of contest stages c - n)) (sym passed);
          within_surplus = omega (arith, passed, passed_within);
        }

pub figures_accounted : AccountForFigures
figures_accounted contest handed s old older bundles c fair of right is = of_figures contest handed s old older bundles c fair of right is
