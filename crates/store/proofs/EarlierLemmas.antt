-- The latest round that a clerk keyed is found by searching backwards; and a clerk's earlier keying depends only on what the clerk sees.
use Rattle.std.proofs.Common.{◌≡◌, ℕ, zero, suc, ◌-◌, ◌<◌, Bool, true, false, cond, ◌&&◌, ◌==◌, List, [], ◌∷◌, filter, Option, Some, None, option_and_then, refl, sym, ap, ◌∙◌, arith}
use Rattle.std.proofs.lemmas.Bool.{and_parts, both_ways, cond-true, cond-false}
use Rattle.register.specs.Offices.{BatchEntry, KeyedEntry, OfficeState, batch_at, third_at, keying_of}
use Rattle.register.specs.Agreement.{is_keyed, is_its_clerk}
use Rattle.register.specs.Seen.{seen_by}
use Rattle.store.specs.EarlierKeyings.{KeyedRoundEntry, last_keyed, earlier_for, earlier_at}

-- ---- one round after another

-- if the clerk keyed this round, it is the latest one
pub keyed_here : (s : OfficeState) (batch clerk n : ℕ) → 0 < n → is_keyed (keying_of s batch n clerk) ≡ true
    → Some (record { round = n; papers = keying_of s batch n clerk }) ≡ last_keyed s batch clerk n
keyed_here s batch clerk zero above keyed = absurd (omega (arith, above))
keyed_here s batch clerk (suc n) above keyed =
    sym (cond-true (is_keyed (keying_of s batch (suc n) clerk)) (Some (record { round = suc n; papers = keying_of s batch (suc n) clerk })) (last_keyed s batch clerk n) keyed)

-- if the clerk didn't key this round, the latest one is among those before it
pub keyed_before : (s : OfficeState) (batch clerk n : ℕ) → 0 < n → is_keyed (keying_of s batch n clerk) ≡ false → last_keyed s batch clerk n ≡ last_keyed s batch clerk (n - 1)
keyed_before s batch clerk zero above keyed = absurd (omega (arith, above))
keyed_before s batch clerk (suc n) above keyed =
    let before : n ≡ suc n - 1 = omega arith in
    cond-false (is_keyed (keying_of s batch (suc n) clerk)) (Some (record { round = suc n; papers = keying_of s batch (suc n) clerk })) (last_keyed s batch clerk n) keyed
    ∙ ap (last_keyed s batch clerk) before

-- ---- what a clerk sees of earlier keyings

-- filtering by a weaker test first doesn't change the result of filtering
filter_both : {X : Type 0} (p q : X → Bool) → ((x : X) → p x ≡ true → q x ≡ true) → (xs : List X) → filter p (filter q xs) ≡ filter p xs
filter_both p q stronger [] = refl
filter_both {X} p q stronger (x ∷ xs) = go (q x) refl (p x) refl (filter_both p q stronger xs)
  where
    go : (b : Bool) → q x ≡ b → (c : Bool) → p x ≡ c → filter p (filter q xs) ≡ filter p xs → filter p (cond b (x ∷ filter q xs) (filter q xs)) ≡ cond c (x ∷ filter p xs) (filter p xs)
    go true is c passes later = rw passes (ap (λ (ys : List X). cond c (x ∷ ys) ys) later)
    go false is true passes later = absurd (both_ways (q x) is (stronger x passes))
    go false is false passes later = later

module _ (s : OfficeState) (clerk : ℕ) where
  own_seen : (batch round : ℕ) → keying_of (seen_by clerk s) batch round clerk ≡ keying_of s batch round clerk
  own_seen batch round = filter_both (λ (k : KeyedEntry). (k.batch == batch) && ((k.round == round) && (k.clerk == clerk))) (λ k. k.clerk == clerk)
      (λ k passes. (and_parts (k.round == round) (k.clerk == clerk) (and_parts (k.batch == batch) ((k.round == round) && (k.clerk == clerk)) passes).1).1) s.keyings

  last_seen : (batch n : ℕ) → last_keyed (seen_by clerk s) batch clerk n ≡ last_keyed s batch clerk n
  last_seen batch zero = refl
  last_seen batch (suc n) =
      ap (λ (papers : List KeyedEntry). cond (is_keyed papers) (Some (record { round = suc n; papers = papers })) (last_keyed (seen_by clerk s) batch clerk n)) (own_seen batch (suc n))
      ∙ ap (cond (is_keyed (keying_of s batch (suc n) clerk)) (Some (record { round = suc n; papers = keying_of s batch (suc n) clerk }))) (last_seen batch n)

  -- a clerk's own keying from an earlier round depends only on what the clerk sees
  pub earlier_seen : (batch : ℕ) → earlier_at (seen_by clerk s) clerk batch ≡ earlier_at s clerk batch
  earlier_seen batch = go (batch_at s batch)
    where
      go : (o : Option BatchEntry) → option_and_then (earlier_for (seen_by clerk s) clerk) o ≡ option_and_then (earlier_for s clerk) o
      go None = refl
      go (Some b) = ap (λ (k : Option KeyedRoundEntry). cond (is_its_clerk clerk b (third_at s b.number)) (Some k) None) (last_seen b.number (b.round - 1))
