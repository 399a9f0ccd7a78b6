-- The worth of holdings, extended by one at a time.
use Rattle.std.proofs.Common.{◌≡◌, ℕ, ◌+◌, ◌*◌, ◌<◌, ◌≤◌, cond, eqb, List, length, take, get_or, sym, ap, ◌∙◌, arith, Bor}
use Rattle.std.specs.List.{sum_by}
use Rattle.std.proofs.lemmas.List.Sums.{sum_by_more_le, sum_by_more_le_part, sum_by-le-sum_by}
use Rattle.count.specs.Inside.Holdings.{total_of, worth, worth_to}
use Rattle.count.specs.declared.parcel.Parcel.{Parcel}
use Rattle.count.specs.declared.parcel.Holding.{Holding}
use Rattle.count.proofs.SumLemmas.{sum_by-constant, at_equal, at_other}
use Rattle.count.proofs.ParcelTotals.{total_of-more, total-more, total_of-same, total_of-none}
use Rattle.count.proofs.ChoiceLemmas.{within_value}

-- all papers of a parcel have its value
parcel_worth : Parcel → ℕ
parcel_worth parcel = sum_by (λ (r : Bor (List ℕ)). parcel.value) parcel.papers.items

-- the parcels so far, and another
pub parcels-more : (parcels : List Parcel) (i : ℕ) (parcel : Parcel) → i < length parcels → parcel ≡ get_or parcels i parcel →
    total_of (λ rest v. v) (take (i + 1) parcels) ≡ total_of (λ rest v. v) (take i parcels) + parcel.value * length parcel.papers.items
parcels-more parcels i parcel within is =
    omega (arith, total_of-more (λ rest v. v) parcels i parcel within is, sum_by-constant parcel.value parcel.papers.items)

-- their worth is at most that of all parcels
pub parcels-within : (parcels : List Parcel) (i : ℕ) (parcel : Parcel) → i < length parcels → parcel ≡ get_or parcels i parcel →
    total_of (λ rest v. v) (take i parcels) + parcel.value * length parcel.papers.items ≤ total_of (λ rest v. v) parcels
unfolding parcel_worth
parcels-within parcels i parcel within is =
    let here : parcel_worth (get_or parcels i parcel) ≡ parcel.value * length parcel.papers.items = ap parcel_worth (sym is) ∙ sum_by-constant parcel.value parcel.papers.items in
    omega (arith, sum_by_more_le parcel_worth parcels i parcel within, here)

-- another holding, of the given holder or of someone else
pub worth_to-more : (h : ℕ) (holdings : List Holding) (i : ℕ) (holding : Holding) → i < length holdings → holding ≡ get_or holdings i holding → holding.holder ≡ h →
    worth_to h (take (i + 1) holdings) ≡ worth_to h (take i holdings) + total_of (λ rest v. v) holding.parcels.items
worth_to-more h holdings i holding within is same =
    total-more (λ k rest v. cond (eqb k h) v 0) holdings i holding within is
    ∙ ap (λ n. worth_to h (take i holdings) + n) (total_of-same _ _ holding.parcels.items (λ rest v. at_equal holding.holder h v 0 same))

pub worth_to-other : (h : ℕ) (holdings : List Holding) (i : ℕ) (holding : Holding) → i < length holdings → holding ≡ get_or holdings i holding → (holding.holder ≡ h → ⊥) →
    worth_to h (take (i + 1) holdings) ≡ worth_to h (take i holdings)
worth_to-other h holdings i holding within is other =
    let none = total_of-none (λ rest v. cond (eqb holding.holder h) v 0) holding.parcels.items (λ rest v. at_other holding.holder h v 0 other) in
    omega (arith, total-more (λ k rest v. cond (eqb k h) v 0) holdings i holding within is, none)

-- the worth of one holder's papers is at most that of all
pub worth_to-within : (h : ℕ) (holdings : List Holding) → worth_to h holdings ≤ worth holdings
worth_to-within h holdings =
    sum_by-le-sum_by _ _ holdings (λ (q : Holding). sum_by-le-sum_by _ _ q.parcels.items
    (λ (p : Parcel). sum_by-le-sum_by _ _ p.papers.items (λ (r : Bor (List ℕ)). within_value (eqb q.holder h) p.value)))

holding_worth : Holding → ℕ
holding_worth holding = total_of (λ rest v. v) holding.parcels.items

holding_worth_to : ℕ → Holding → ℕ
holding_worth_to h holding = total_of (λ rest v. cond (eqb holding.holder h) v 0) holding.parcels.items

-- the worth of the holder's papers so far and of another holding is at most that of all
pub worth_to-within-more : (h : ℕ) (holdings : List Holding) (i : ℕ) (holding : Holding) → i < length holdings → holding ≡ get_or holdings i holding →
    worth_to h (take i holdings) + total_of (λ rest v. v) holding.parcels.items ≤ worth holdings
unfolding holding_worth holding_worth_to
worth_to-within-more h holdings i holding within is =
    let part : (q : Holding) → holding_worth_to h q ≤ holding_worth q = λ q. sum_by-le-sum_by _ _ q.parcels.items
    (λ (p : Parcel). sum_by-le-sum_by _ _ p.papers.items (λ (r : Bor (List ℕ)). within_value (eqb q.holder h) p.value)) in
    let here : holding_worth (get_or holdings i holding) ≡ holding_worth holding = ap holding_worth (sym is) in
    omega (arith, sum_by_more_le_part (holding_worth_to h) holding_worth holdings i holding within part, here)
