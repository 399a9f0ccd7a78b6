-- Sums over parcels and holdings, extended by one at a time.
use Rattle.std.proofs.Common.{◌≡◌, ℕ, suc, zero, ◌+◌, ◌<◌, ◌≤◌, List, [], ◌∷◌, ◌++◌, length, take, get_or, set, Bool, true, false, drop, cond, eqb, refl, sym, ap, ◌∙◌, arith, Bor}
use Rattle.std.specs.List.{sum_by}
use Rattle.std.proofs.lemmas.List.Sums.{sum_by_push, sum_by_more, sum_by-set}
use Rattle.paper.specs.Standing.{from_first}
use Rattle.paper.specs.Columns.{max_candidates}
use Rattle.count.specs.Law.Places.{first_of}
use Rattle.count.specs.Inside.Holdings.{total, total_of, total_passed, at_passed, new_value, OnlyColumns, AreNumbered}
use Rattle.count.specs.declared.parcel.TransferRule.{TransferRule}
use Rattle.count.proofs.SumLemmas.{sum_by-none, sum_by-same, at_equal, at_other}
use Rattle.count.specs.declared.parcel.Parcel.{Parcel}
use Rattle.count.specs.declared.parcel.Holding.{Holding}

-- a function on the papers of one parcel, and of one holding
abbrev on_parcel : (List ℕ → ℕ → ℕ) → Parcel → ℕ
on_parcel f parcel = sum_by (λ (r : Bor (List ℕ)). f r.now parcel.value) parcel.papers.items

abbrev on_holding : (ℕ → List ℕ → ℕ → ℕ) → Holding → ℕ
on_holding f holding = total_of (f holding.holder) holding.parcels.items

-- another paper, in a new parcel
pub total_of-start : (f : List ℕ → ℕ → ℕ) (parcels more : List Parcel) (parcel : Parcel) (rest : Bor (List ℕ)) →
    more ≡ parcels ++ parcel ∷ [] → parcel.papers.items ≡ rest ∷ [] → total_of f more ≡ total_of f parcels + f rest.now parcel.value
total_of-start f parcels more parcel rest is one =
    let own : on_parcel f parcel ≡ f rest.now parcel.value = ap (sum_by (λ (r : Bor (List ℕ)). f r.now parcel.value)) one ∙ omega arith in
    ap (total_of f) is ∙ sum_by_push (on_parcel f) parcels parcel ∙ ap (λ n. total_of f parcels + n) own

-- another paper in a parcel
pub total_of-set : (f : List ℕ → ℕ → ℕ) (parcels : List Parcel) (i : ℕ) (old new : Parcel) (rest : Bor (List ℕ)) →
    i < length parcels → old ≡ get_or parcels i old → new.value ≡ old.value → new.papers.items ≡ old.papers.items ++ rest ∷ [] →
    total_of f (set parcels i new) ≡ total_of f parcels + f rest.now old.value
total_of-set f parcels i old new rest within is same more =
    let grown : on_parcel f new ≡ on_parcel f old + f rest.now old.value =
    ap (λ (v : ℕ). sum_by (λ (r : Bor (List ℕ)). f r.now v) new.papers.items) same
    ∙ ap (sum_by (λ (r : Bor (List ℕ)). f r.now old.value)) more
    ∙ sum_by_push (λ (r : Bor (List ℕ)). f r.now old.value) old.papers.items rest in
    let here : on_parcel f (get_or parcels i old) ≡ on_parcel f old = ap (on_parcel f) (sym is) in
    omega (arith, sum_by-set (on_parcel f) parcels i new old within, grown, here)

-- a holding is replaced by one with more papers
pub total-set : (f : ℕ → List ℕ → ℕ → ℕ) (holdings : List Holding) (i k : ℕ) (old new : Holding) →
    i < length holdings → old ≡ get_or holdings i old → new.holder ≡ old.holder →
    total_of (f old.holder) new.parcels.items ≡ total_of (f old.holder) old.parcels.items + k →
    total f (set holdings i new) ≡ total f holdings + k
total-set f holdings i k old new within is same more =
    let grown : on_holding f new ≡ on_holding f old + k = ap (λ (h : ℕ). total_of (f h) new.parcels.items) same ∙ more in
    let here : on_holding f (get_or holdings i old) ≡ on_holding f old = ap (on_holding f) (sym is) in
    omega (arith, sum_by-set (on_holding f) holdings i new old within, grown, here)

-- another holding, with no papers
pub total-empty : (f : ℕ → List ℕ → ℕ → ℕ) (holdings more : List Holding) (holding : Holding) →
    more ≡ holdings ++ holding ∷ [] → holding.parcels.items ≡ [] → total f holdings ≡ 0 → total f more ≡ 0
total-empty f holdings more holding is none empty =
    let own : on_holding f holding ≡ 0 = ap (total_of (f holding.holder)) none in
    ap (total f) is ∙ (sum_by_push (on_holding f) holdings holding ∙ omega (arith, own, empty))

-- another number
pub numbered-push : (n : ℕ) (holdings : List Holding) (holding : Holding) → AreNumbered n holdings → holding.holder ≡ n + length holdings → AreNumbered n (holdings ++ holding ∷ [])
numbered-push n [] holding h is = (omega (arith, is), tt)
numbered-push n (x ∷ xs) holding h is = (h.0, numbered-push (n + 1) xs holding h.1 (omega (arith, is)))

-- the holder at a position, and the numbers if a holding keeps its holder
pub numbered-at : (n : ℕ) (holdings : List Holding) (i : ℕ) (holding : Holding) → AreNumbered n holdings → i < length holdings → holding ≡ get_or holdings i holding → holding.holder ≡ n + i
numbered-at n [] i holding h within is = absurd (omega arith)
numbered-at n (x ∷ xs) zero holding h within is = ap (λ (y : Holding). y.holder) is ∙ (h.0 ∙ omega arith)
numbered-at n (x ∷ xs) (suc i) holding h within is = numbered-at (n + 1) xs i holding h.1 (omega arith) is ∙ omega arith

pub numbered-set : (n : ℕ) (holdings : List Holding) (i : ℕ) (old new : Holding) → AreNumbered n holdings → old ≡ get_or holdings i old → new.holder ≡ old.holder → AreNumbered n (set holdings i new)
numbered-set n [] i old new h is same = tt
numbered-set n (x ∷ xs) zero old new h is same = (same ∙ (ap (λ (y : Holding). y.holder) is ∙ h.0), h.1)
numbered-set n (x ∷ xs) (suc i) old new h is same = (h.0, numbered-set (n + 1) xs i old new h.1 is same)

-- the parcels so far, and another
pub total_of-more : (f : List ℕ → ℕ → ℕ) (parcels : List Parcel) (i : ℕ) (parcel : Parcel) → i < length parcels → parcel ≡ get_or parcels i parcel →
    total_of f (take (i + 1) parcels) ≡ total_of f (take i parcels) + on_parcel f parcel
total_of-more f parcels i parcel within is =
    sum_by_more (on_parcel f) parcels i parcel within ∙ ap (λ n. total_of f (take i parcels) + n) (ap (on_parcel f) (sym is))

-- the holdings so far, and another
pub total-more : (f : ℕ → List ℕ → ℕ → ℕ) (holdings : List Holding) (i : ℕ) (holding : Holding) → i < length holdings → holding ≡ get_or holdings i holding →
    total f (take (i + 1) holdings) ≡ total f (take i holdings) + on_holding f holding
total-more f holdings i holding within is =
    sum_by_more (on_holding f) holdings i holding within ∙ ap (λ n. total f (take i holdings) + n) (ap (on_holding f) (sym is))

-- equal functions have the same sum over the given parcels
pub total_of-same : (f g : List ℕ → ℕ → ℕ) (parcels : List Parcel) → ((rest : List ℕ) (v : ℕ) → f rest v ≡ g rest v) → total_of f parcels ≡ total_of g parcels
total_of-same f g parcels h = sum_by-same _ _ parcels (λ (p : Parcel). sum_by-same _ _ p.papers.items (λ (r : Bor (List ℕ)). h r.now p.value))

pub total_of-none : (f : List ℕ → ℕ → ℕ) (parcels : List Parcel) → ((rest : List ℕ) (v : ℕ) → f rest v ≡ 0) → total_of f parcels ≡ 0
total_of-none f parcels h = sum_by-none _ parcels (λ (p : Parcel). sum_by-none _ p.papers.items (λ (r : Bor (List ℕ)). h r.now p.value))

-- another holding, either that of the candidate whose papers are passed on or someone else's
pub passed-more : (f : ℕ → List ℕ → ℕ → ℕ) (c : ℕ) (continues : ℕ → Bool) (rule : TransferRule) (holdings : List Holding) (i : ℕ) (holding : Holding) →
    i < length holdings → holding ≡ get_or holdings i holding → holding.holder ≡ c →
    total_passed f c continues rule (take (i + 1) holdings) ≡ total_passed f c continues rule (take i holdings) + total_of (at_passed f continues rule) holding.parcels.items
passed-more f c continues rule holdings i holding within is same =
    total-more (λ h rest v. cond (eqb h c) (at_passed f continues rule rest v) 0) holdings i holding within is
    ∙ ap (λ n. total_passed f c continues rule (take i holdings) + n) (total_of-same _ _ holding.parcels.items (λ rest v. at_equal holding.holder c _ _ same))

pub passed-other : (f : ℕ → List ℕ → ℕ → ℕ) (c : ℕ) (continues : ℕ → Bool) (rule : TransferRule) (holdings : List Holding) (i : ℕ) (holding : Holding) →
    i < length holdings → holding ≡ get_or holdings i holding → (holding.holder ≡ c → ⊥) →
    total_passed f c continues rule (take (i + 1) holdings) ≡ total_passed f c continues rule (take i holdings)
passed-other f c continues rule holdings i holding within is other =
    let none = total_of-none (λ rest v. cond (eqb holding.holder c) (at_passed f continues rule rest v) 0) holding.parcels.items (λ rest v. at_other holding.holder c _ _ other) in
    omega (arith, total-more (λ h rest v. cond (eqb h c) (at_passed f continues rule rest v) 0) holdings i holding within is, none)

from_choice : (a b : Bool) (x : ℕ) (l k xs : List ℕ) → a ≡ b → l ≡ k → cond a (x ∷ xs) l ≡ cond b (x ∷ xs) k
from_choice true true x l k xs e h = refl
from_choice true false x l k xs e h = cc
from_choice false true x l k xs e h = cc
from_choice false false x l k xs e h = h

-- two tests that agree find the same element
pub from_first-same : (p q : ℕ → Bool) (xs : List ℕ) → ((c : ℕ) → p c ≡ q c) → from_first p xs ≡ from_first q xs
from_first-same p q [] h = refl
from_first-same p q (x ∷ xs) h = from_choice (p x) (q x) x _ _ xs (h x) (from_first-same p q xs h)

-- two tests that agree on who continues give the same result
pub total_passed-same : (f : ℕ → List ℕ → ℕ → ℕ) (c : ℕ) (p q : ℕ → Bool) (rule : TransferRule) (holdings : List Holding) → ((d : ℕ) → p d ≡ q d) →
    total_passed f c p rule holdings ≡ total_passed f c q rule holdings
total_passed-same f c p q rule holdings h =
    sum_by-same _ _ holdings (λ (s : Holding). total_of-same _ _ s.parcels.items (λ rest v.
    ap (λ (left : List ℕ). cond (eqb s.holder c) (f (first_of left) left (new_value rule v)) 0) (from_first-same p q (drop 1 rest) h)))

first_choice : (continues : ℕ → Bool) (x : ℕ) (xs : List ℕ) (b : Bool) → continues x ≡ b → OnlyColumns continues → first_of (from_first continues xs) ≤ max_candidates →
    first_of (cond b (x ∷ xs) (from_first continues xs)) ≤ max_candidates
first_choice continues x xs true e only h = (only x e).1
first_choice continues x xs false e only h = h

-- a paper passes to a candidate number, or to 0
pub first-known : (continues : ℕ → Bool) (rest : List ℕ) → OnlyColumns continues → first_of (from_first continues rest) ≤ max_candidates
first-known continues [] only = omega arith
first-known continues (x ∷ xs) only = first_choice continues x xs (continues x) refl only (first-known continues xs only)

pub ruleset known_holders = first-known
