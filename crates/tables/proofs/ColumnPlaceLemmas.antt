-- The values of a row, by index.
use Rattle.std.proofs.Common.{◌≡◌, ℕ, zero, suc, ◌<◌, ◌≤◌, List, [], ◌∷◌, length, true, refl, sym, ap, ◌∙◌, arith, true≢false}
use Rattle.std.proofs.lemmas.Bool.{and_parts}
use Rattle.sqlite.specs.declared.types.Value.{Value}
use Rattle.sqlite.specs.declared.types.Value.TheVariants.{Null}
use Rattle.sqlite_schema.specs.declared.schema.Column.{Column}
use Rattle.sqlite.specs.Order.{Row, column}
use Rattle.tables.specs.Schema.{places_from}
use Rattle.tables.specs.Rows.{at, are_of}

-- a row's first `n` values, with NULL for each one that the row lacks
abbrev pub padded : ℕ → Row → Row
padded zero r = []
padded (suc n) [] = Null ∷ padded n []
padded (suc n) (v ∷ vs) = v ∷ padded n vs

-- Prepending a value shifts the indices by one.
shifted : (k n : ℕ) (v : Value) (r : Row) → at (places_from (suc k) n) (v ∷ r) ≡ at (places_from k n) r
shifted k zero v r = refl
shifted k (suc n) v r = ap (λ l. column r k ∷ l) (shifted (suc k) n v r)

past : (k n : ℕ) → at (places_from k n) [] ≡ padded n []
past k zero = refl
past k (suc n) = ap (λ l. Null ∷ l) (past (suc k) n)

pub pads : (n : ℕ) (r : Row) → at (places_from 0 n) r ≡ padded n r
pads zero r = refl
pads (suc n) [] = past 0 (suc n)
pads (suc n) (v ∷ vs) = ap (λ l. v ∷ l) (shifted 0 n v vs ∙ pads n vs)

pub padded_itself : (n : ℕ) (r : Row) → length r ≡ n → padded n r ≡ r
padded_itself zero [] len = refl
padded_itself zero (v ∷ vs) len = absurd (omega (arith, len))
padded_itself (suc n) [] len = absurd (omega (arith, len))
padded_itself (suc n) (v ∷ vs) len = ap (λ l. v ∷ l) (padded_itself n vs (omega (arith, len)))

pub padded_twice : (n : ℕ) (r : Row) → padded n (padded n r) ≡ padded n r
padded_twice zero r = refl
padded_twice (suc n) [] = ap (λ l. Null ∷ l) (padded_twice n [])
padded_twice (suc n) (v ∷ vs) = ap (λ l. v ∷ l) (padded_twice n vs)

pub typed_length : (cs : List Column) (r : Row) → are_of cs r ≡ true → length r ≡ length cs
typed_length [] [] h = refl
typed_length [] (v ∷ vs) h = absurd (true≢false (sym h))
typed_length (c ∷ cs) [] h = absurd (true≢false (sym h))
typed_length (c ∷ cs) (v ∷ vs) h = ap suc (typed_length cs vs (and_parts _ _ h).1)

-- the value at an index within the first `n`
padded_column : (n k : ℕ) (r : Row) → k < n → column (padded n r) k ≡ column r k
padded_column zero k r low = absurd (omega (arith, low))
padded_column (suc n) zero [] low = refl
padded_column (suc n) zero (v ∷ vs) low = refl
padded_column (suc n) (suc k) [] low = padded_column n k [] (omega (arith, low)) ∙ none k
  where
    none : (j : ℕ) → column [] j ≡ column [] (suc j)
    none j = refl
padded_column (suc n) (suc k) (v ∷ vs) low = padded_column n k vs (omega (arith, low))

pub column_shown : (n k : ℕ) (r : Row) → k < n → column (at (places_from 0 n) r) k ≡ column r k
column_shown n k r low = ap (λ (x : Row). column x k) (pads n r) ∙ padded_column n k r low

-- a row with values of the correct kinds consists of the values at its indices
pub typed_at : (cs : List Column) (r : Row) → are_of cs r ≡ true → at (places_from 0 (length cs)) r ≡ r
typed_at cs r h = pads (length cs) r ∙ padded_itself (length cs) r (typed_length cs r h)

pub at_twice : (n : ℕ) (r : Row) → at (places_from 0 n) (at (places_from 0 n) r) ≡ at (places_from 0 n) r
at_twice n r = pads n (at (places_from 0 n) r) ∙ ap (padded n) (pads n r) ∙ padded_twice n r ∙ sym (pads n r)

padded_front : (m n : ℕ) (r : Row) → m ≤ n → padded m (padded n r) ≡ padded m r
padded_front zero n r low = refl
padded_front (suc m) zero r low = absurd (omega (arith, low))
padded_front (suc m) (suc n) [] low = ap (λ l. Null ∷ l) (padded_front m n [] (omega (arith, low)))
padded_front (suc m) (suc n) (v ∷ vs) low = ap (λ l. v ∷ l) (padded_front m n vs (omega (arith, low)))

-- a prefix of a prefix of a row is a prefix of the row
pub at_front : (m n : ℕ) (r : Row) → m ≤ n → at (places_from 0 m) (at (places_from 0 n) r) ≡ at (places_from 0 m) r
at_front m n r low = pads m (at (places_from 0 n) r) ∙ ap (padded m) (pads n r) ∙ padded_front m n r low ∙ sym (pads m r)
