-- The papers that pass on with a surplus, from the places of their bundles before and after it.
use Rattle.std.proofs.Common.{◌≡◌, ℕ, suc, ◌+◌, ◌==◌, nat_eq, Bool, true, false, cond, List, [], ◌∷◌, ◌++◌, map, length, reverse, fold, Option}
use Rattle.std.proofs.Common.{Some, None, refl, sym, ap, ◌∙◌, subst, inl, inr, arith, append-nil, ◌<◌, zero, slice_get, slice_set, insert, Result, Ok, Err}
use Rattle.std.specs.Prelude.{OnOk, is_ok}
use Rattle.std.proofs.lemmas.List.Sums.{sum_by-insert, sum_by-set}
use Rattle.std.proofs.lemmas.Option.{get_or_from_slice_get}
use Rattle.std.proofs.lemmas.List.{length-reverse}
use Rattle.std.specs.List.{list_any}
use Rattle.std.specs.Option.{unwrap_or}
use Rattle.count.specs.Advance.{Advances, refusal}
use Rattle.count.specs.Books.{placed}
use Rattle.count.specs.Bundles.{Bundle}
use Rattle.count.specs.Law.Contest.{Contest, History, newest_votes}
use Rattle.count.specs.Law.Count.{stages_to, with_next, with_stage}
use Rattle.count.specs.Law.Due.{action_on, drawn, due_after, lot_for, next_action}
use Rattle.count.specs.Law.Places.{Place, place, moved, surplus_of}
use Rattle.count.specs.Law.Right.{IsRight}
use Rattle.count.specs.declared.book.AdvanceError.{AdvanceError}
use Rattle.count.specs.declared.book.AdvanceError.TheVariants.{LotNotAmong}
use Rattle.count.specs.declared.placed.Placed.{Placed}
use Rattle.count.specs.declared.stages.Action.{Action}
use Rattle.count.specs.declared.stages.Action.TheVariants.{First, Surplus, Exclude, ExcludeLast}
use Rattle.count.specs.declared.stages.Due.{Due}
use Rattle.count.specs.declared.stages.Due.TheVariants.{Act, Lot, Finished}
use Rattle.count.specs.declared.stages.Stage.{Stage}
use Rattle.sheet.specs.Surpluses.{AdvancesIfDue, all_held, all_placed, count_above, held_by, of_surplus, papers_in}
use Rattle.sheet.specs.Surpluses.{passed_by, passed_next, passed_to, surplus_by, with_held, with_papers, with_papers_at, with_placed}
use Rattle.sheet.specs.declared.surpluses.PassedOn.{PassedOn}

-- ---- the number of papers

within_get : (groups : List PassedOn) (k : ℕ) (g : PassedOn) → slice_get groups k ≡ Some g → k < length groups
within_get [] k g is = cc
within_get (first ∷ groups) zero g is = omega arith
within_get (first ∷ groups) (suc k) g is = omega (arith, within_get groups k g is)

more_at : (groups : List PassedOn) (more : PassedOn) (k : ℕ) (o : Option PassedOn) → slice_get groups k ≡ o → papers_in (with_papers_at groups more k o) ≡ papers_in groups + more.papers
more_at groups more k None is = sum_by-insert (λ (g : PassedOn). g.papers) groups k more
more_at groups more k (Some g) is = by (g.received == more.received)
  where
    grown : PassedOn
    grown = record g { papers = g.papers + more.papers }

    by : (b : Bool) → papers_in (cond b (slice_set groups k grown) (insert groups k more)) ≡ papers_in groups + more.papers
    by true =
        omega (arith, sum_by-set (λ (x : PassedOn). x.papers) groups k grown g (within_get groups k g is), ap (λ (x : PassedOn). x.papers) (get_or_from_slice_get groups k g g is))
    by false = sum_by-insert (λ (x : PassedOn). x.papers) groups k more

pub papers_in_more : (groups : List PassedOn) (more : PassedOn) → papers_in (with_papers groups more) ≡ papers_in groups + more.papers
papers_in_more groups more = more_at groups more (count_above groups more.received) (slice_get groups (count_above groups more.received)) refl

-- ---- one bundle

held_if : (contest : Contest) (old : History) (c n : ℕ) (groups : List PassedOn) (paper : List ℕ) (at : Place) (b : Bool) → (at.holder == c) ≡ b →
    with_placed (of_surplus contest old c) n groups (placed at) (placed (moved contest old (Surplus c) paper at)) ≡ with_held contest old c n groups at
held_if contest old c n groups paper at true is = rw is refl
held_if contest old c n groups paper at false is = rw is refl

held : (contest : Contest) (old : History) (s : Stage) (c n : ℕ) (groups : List PassedOn) (paper : List ℕ) → s.action ≡ Surplus c →
    with_placed (of_surplus contest old c) n groups (placed (place contest old paper)) (placed (place contest (s ∷ old) paper)) ≡ with_held contest old c n groups (place contest old paper)
held contest old s c n groups paper is =
    let at = place contest old paper in
    ap (λ (action : Action). with_placed (of_surplus contest old c) n groups (placed at) (placed (moved contest old action paper at))) is
    ∙ held_if contest old c n groups paper at (at.holder == c) refl

-- ---- all bundles

held_all : (contest : Contest) (old : History) (s : Stage) (c : ℕ) (groups : List PassedOn) (bundles : List Bundle) → s.action ≡ Surplus c →
    all_placed (of_surplus contest old c) groups (map (λ (b : Bundle). placed (place contest old b.0)) bundles) (map (λ (b : Bundle). placed (place contest (s ∷ old) b.0)) bundles) bundles
    ≡ fold (λ (groups : List PassedOn) (b : Bundle). with_held contest old c b.1 groups (place contest old b.0)) groups bundles
held_all contest old s c groups [] is = refl
held_all contest old s c groups (b ∷ bundles) is =
    ap (λ (now : List PassedOn). all_placed (of_surplus contest old c) now (map (λ (b : Bundle). placed (place contest old b.0)) bundles)
    (map (λ (b : Bundle). placed (place contest (s ∷ old) b.0)) bundles) bundles) (held contest old s c b.1 groups b.0 is)
    ∙ held_all contest old s c (with_held contest old c b.1 groups (place contest old b.0)) bundles is

some_alike : (a b : Action) → Some a ≡ Some b → a ≡ b
some_alike a b e = ap (λ (o : Option Action). unwrap_or o a) e

-- the papers that a book returns are those of the law, given the places of its bundles before and after it advanced
pub all_are : (contest contest2 : Contest) (old new : History) (of : PassedOn) (c : ℕ) (lot : Option ℕ) (bundles bs bs2 : List Bundle) (before after : List Placed) →
    of ≡ of_surplus contest old c → contest2 ≡ contest → drawn contest old lot (due_after contest old) ≡ Some (Surplus c) → Advances contest old lot new → bundles ≡ bs → bundles ≡ bs2 →
    before ≡ map (λ (b : Bundle). placed (place contest old b.0)) bs → after ≡ map (λ (b : Bundle). placed (place contest2 new b.0)) bs2 →
    all_placed of [] before after bundles ≡ all_held contest old bundles c
all_are contest contest2 old new of c lot bundles bs bs2 before after of_is same due next is is2 before_is after_is =
    let s : Stage = next.stage in
    let action : s.action ≡ Surplus c = some_alike s.action (Surplus c) (sym next.next.was_due ∙ due) in
    let first : before ≡ map (λ (b : Bundle). placed (place contest old b.0)) bundles =
    before_is ∙ ap (map (λ (b : Bundle). placed (place contest old b.0))) (sym is) in
    let later : after ≡ map (λ (b : Bundle). placed (place contest (s ∷ old) b.0)) bundles =
    after_is ∙ ap (map (λ (b : Bundle). placed (place contest2 new b.0))) (sym is2)
    ∙ ap (λ (k : Contest). map (λ (b : Bundle). placed (place k new b.0)) bundles) same
    ∙ ap (λ (h : History). map (λ (b : Bundle). placed (place contest h b.0)) bundles) next.one_more in
    ap (λ (o : PassedOn). all_placed o [] before after bundles) of_is
    ∙ ap (λ (l : List Placed). all_placed (of_surplus contest old c) [] l after bundles) first
    ∙ ap (λ (l : List Placed). all_placed (of_surplus contest old c) [] (map (λ (b : Bundle). placed (place contest old b.0)) bundles) l bundles) later
    ∙ held_all contest old s c [] bundles action

-- the figures of a surplus
pub surplus_is : (contest : Contest) (old : History) (c n surplus votes received passed : ℕ) → n ≡ length old + 1 → surplus ≡ surplus_of contest old c → votes ≡ newest_votes old c →
    received ≡ 0 → passed ≡ 0 → record { stage = n; candidate = c; surplus = surplus; votes = votes; papers = 0; received = received; passed = passed } ≡ of_surplus contest old c
surplus_is contest old c n surplus votes received passed n_is above votes_is received_is passed_is =
    let made : ℕ → ℕ → ℕ → ℕ → ℕ → PassedOn =
    λ (k s v r p : ℕ). record { stage = k; candidate = c; surplus = s; votes = v; papers = 0; received = r; passed = p } in
    ap (λ (k : ℕ). made k surplus votes received passed) n_is
    ∙ ap (λ (s : ℕ). made (length old + 1) s votes received passed) above
    ∙ ap (λ (v : ℕ). made (length old + 1) (surplus_of contest old c) v received passed) votes_is
    ∙ ap (λ (r : ℕ). made (length old + 1) (surplus_of contest old c) (newest_votes old c) r passed) received_is
    ∙ ap (λ (p : ℕ). made (length old + 1) (surplus_of contest old c) (newest_votes old c) 0 p) passed_is

-- ---- the next stage

refused_none : (contest : Contest) (stages : History) (lot : Option ℕ) (due : Due) (e : AdvanceError) → refusal lot due ≡ Some e → drawn contest stages lot due ≡ None
refused_none contest stages lot (Act action) e is = cc
refused_none contest stages None Finished e is = refl
refused_none contest stages (Some c) Finished e is = refl
refused_none contest stages None (Lot stage kind tied) e is = refl
refused_none contest stages (Some c) (Lot stage kind tied) e is = by_tied (list_any (nat_eq c) tied) is
  where
    by_tied : (b : Bool) → cond b None (Some LotNotAmong) ≡ Some e → cond b (Some (action_on contest stages kind c)) None ≡ None
    by_tied true h = cc
    by_tied false h = refl

-- the number of the next stage
pub number_here : (stages : List Stage) (old : History) → reverse stages ≡ old → length stages + 1 ≡ length old + 1
number_here stages old is = omega (arith, ap (λ (l : History). length l) is, length-reverse stages)

-- the lot for the next stage
pub lot_here : (lots : List (ℕ × ℕ)) (lot : Option ℕ) (stages : List Stage) (old : History) (n : ℕ) → reverse stages ≡ old → n ≡ length stages + 1 → lot ≡ lot_for lots n →
    lot ≡ lot_for lots (length old + 1)
lot_here lots lot stages old n is n_is lot_is =
    lot_is ∙ ap (lot_for lots) (n_is ∙ number_here stages old is)

pub next_drawn : (contest : Contest) (lots : List (ℕ × ℕ)) (old : History) (lot : Option ℕ) (o : Option Action) → lot ≡ lot_for lots (length old + 1) →
    drawn contest old lot (due_after contest old) ≡ o → next_action contest lots old ≡ o
next_drawn contest lots old lot o lot_is drew = ap (λ (l : Option ℕ). drawn contest old l (due_after contest old)) (sym lot_is) ∙ drew

pub next_refused : (contest : Contest) (lots : List (ℕ × ℕ)) (old : History) (lot : Option ℕ) (e : AdvanceError) → lot ≡ lot_for lots (length old + 1) →
    refusal lot (due_after contest old) ≡ Some e → next_action contest lots old ≡ None
next_refused contest lots old lot e lot_is refused = next_drawn contest lots old lot None lot_is (refused_none contest old lot (due_after contest old) e refused)

pub advances_by : (contest : Contest) (lots : List (ℕ × ℕ)) (old new : History) (lot : Option ℕ) → lot ≡ lot_for lots (length old + 1) → Advances contest old lot new →
    AdvancesIfDue contest lots old new
advances_by contest lots old new lot lot_is next = inr (subst (λ (l : Option ℕ). Advances contest old l new) lot_is next)

-- ---- the papers at the next stage

pub passed_none : (contest : Contest) (lots : List (ℕ × ℕ)) (bundles : List Bundle) (old : History) (found : List PassedOn) → next_action contest lots old ≡ None →
    found ≡ found ++ passed_next contest lots bundles old
passed_none contest lots bundles old found none =
    sym (append-nil found) ∙ ap (λ (o : Option Action). found ++ passed_by contest old bundles o) (sym none)

pub passed_other : (contest : Contest) (lots : List (ℕ × ℕ)) (bundles : List Bundle) (old : History) (found : List PassedOn) (action : Action) → next_action contest lots old ≡ Some action →
    surplus_by action ≡ None → found ≡ found ++ passed_next contest lots bundles old
passed_other contest lots bundles old found action is none =
    sym (append-nil found)
    ∙ ap (λ (o : Option ℕ). found ++ held_by contest old bundles o) (sym none)
    ∙ ap (λ (o : Option Action). found ++ passed_by contest old bundles o) (sym is)

pub passed_surplus : (contest : Contest) (lots : List (ℕ × ℕ)) (bundles : List Bundle) (old : History) (found groups : List PassedOn) (action : Action) (c : ℕ) →
    next_action contest lots old ≡ Some action → surplus_by action ≡ Some c → groups ≡ all_held contest old bundles c → found ++ groups ≡ found ++ passed_next contest lots bundles old
passed_surplus contest lots bundles old found groups action c is some groups_are =
    ap (λ (l : List PassedOn). found ++ l) groups_are
    ∙ ap (λ (o : Option ℕ). found ++ held_by contest old bundles o) (sym some)
    ∙ ap (λ (o : Option Action). found ++ passed_by contest old bundles o) (sym is)

pub is_surplus : (action : Action) (c : ℕ) → surplus_by action ≡ Some c → action ≡ Surplus c
is_surplus First c is = cc
is_surplus (Surplus d) c is = ap (λ (o : Option ℕ). Surplus (unwrap_or o d)) is
is_surplus (Exclude d) c is = cc
is_surplus (ExcludeLast d) c is = cc

-- ---- all stages

-- the stages of a count are correct
abbrev pub IsRightTo : Contest → List (ℕ × ℕ) → Type 0
IsRightTo contest lots = (k : ℕ) → IsRight contest lots (stages_to contest lots k)

-- and they are the only correct ones
abbrev pub AreOnly : Contest → List (ℕ × ℕ) → Type 0
AreOnly contest lots = (h : History) → IsRight contest lots h → h ≡ stages_to contest lots (length h)

next_for : (contest : Contest) (lots : List (ℕ × ℕ)) (k : ℕ) (old new : History) → IsRightTo contest lots → AreOnly contest lots → old ≡ stages_to contest lots k →
    AdvancesIfDue contest lots old new → new ≡ with_next contest lots old
unfolding stages_to
next_for contest lots k old new right only counted (inl ended) = ended.1 ∙ sym (ap (with_stage contest old) ended.0)
next_for contest lots k old new right only counted (inr more) =
    let so_far : IsRight contest lots old = subst (IsRight contest lots) (sym counted) (right k) in
    let earlier : old ≡ stages_to contest lots (length old) = only old so_far in
    more.one_more ∙ only (more.stage ∷ old) (so_far, more.next) ∙ ap (with_next contest lots) (sym earlier)

pub counted_more : (contest now : Contest) (lots : List (ℕ × ℕ)) (k : ℕ) (old new : History) → IsRightTo contest lots → AreOnly contest lots → now ≡ contest →
    old ≡ stages_to contest lots k → AdvancesIfDue now lots old new → new ≡ stages_to contest lots (k + 1)
unfolding stages_to
counted_more contest now lots k old new right only same counted next =
    let more : suc k ≡ k + 1 = omega arith in
    next_for contest lots k old new right only counted (subst (λ (c : Contest). AdvancesIfDue c lots old new) same next)
    ∙ ap (with_next contest lots) counted
    ∙ ap (stages_to contest lots) more

pub found_more : (contest now : Contest) (lots : List (ℕ × ℕ)) (bundles : List Bundle) (k : ℕ) (old : History) (found new : List PassedOn) → now ≡ contest → old ≡ stages_to contest lots k →
    found ≡ passed_to contest lots bundles k → new ≡ found ++ passed_next now lots bundles old → new ≡ passed_to contest lots bundles (k + 1)
found_more contest now lots bundles k old found new same counted found_is is =
    let more : suc k ≡ k + 1 = omega arith in
    is
    ∙ ap (λ (c : Contest). found ++ passed_next c lots bundles old) same
    ∙ ap (λ (h : History). found ++ passed_next contest lots bundles h) counted
    ∙ ap (λ (l : List PassedOn). l ++ passed_next contest lots bundles (stages_to contest lots k)) found_is
    ∙ ap (passed_to contest lots bundles) more

-- ---- results

pub always_ok : {T E P : Type 0} (r : Result T E) → P → OnOk r P
always_ok (Ok x) p = p
always_ok (Err e) p = tt

pub appended_ok : {T E X : Type 0} (r : Result T E) (new one other zs : List X) → new ≡ cond (is_ok r) one other → one ≡ zs → OnOk r (new ≡ zs)
appended_ok (Ok x) new one other zs is same = is ∙ same
appended_ok (Err e) new one other zs is same = tt
