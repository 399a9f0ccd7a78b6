-- The columns of a ward: in a state, they are the numbers of its candidates, in order.
use Rattle.std.proofs.Common.{◌≡◌, ℕ, ◌<◌, ◌==◌, ◌&&◌, Bool, true, false, cond, nat_lt, List, [], ◌∷◌, ◌++◌, map, filter, fold, refl, sym, ap, ◌∙◌, arith}
use Rattle.std.specs.List.{AllByRecursion, list_all}
use Rattle.std.specs.List.Sorted.{IsStrictlySortedBy}
use Rattle.std.specs.declared.cmp.Ordering.TheVariants.{Less, Equal}
use Rattle.std.specs.Ordering.{nat_cmp, ordering_then}
use Rattle.std.specs.Cmp.{nat_cmp_is}
use Rattle.std.proofs.lemmas.Bool.{and_parts, and_from, lt-ltb, le-ltb, eqb-true}
use Rattle.std.proofs.lemmas.Cmp.{ranked}
use Rattle.std.proofs.lemmas.List.{append_assoc, append-nil}
use Rattle.std.proofs.lemmas.List.Kept.{IsStrictlySortedBy-filter}
use Rattle.paper.specs.Columns.{with_column}
use Rattle.register.specs.Ranges.{is_ward_number, is_candidate_number, is_name}
use Rattle.register.specs.Offices.{CandidateEntry, OfficeState, candidate_cmp, candidates_of}
use Rattle.register.specs.Marks.{and_column, columns_of}
use Rattle.register.specs.StateConditions.{is_candidate, IsState}
use Rattle.register.proofs.MapLemmas.{kept_all}
use Rattle.register.proofs.ItemLemmas.{candidate_map, maps_of}

-- all numbers are below the given one
abbrev AreBelow : List ℕ → ℕ → Type 0
AreBelow ns n = AllByRecursion (λ m. m < n) ns

-- a column above all the others comes last
column_last : (columns : List ℕ) (n : ℕ) → AreBelow columns n → with_column columns n ≡ columns ++ (n ∷ [])
column_last columns n below = rw (lower columns below, upper columns below) refl
  where
    lower : (ms : List ℕ) → AreBelow ms n → filter (λ d. nat_lt d n) ms ≡ ms
    lower [] low = refl
    lower (m ∷ ms) low = rw (lt-ltb m n low.0) (ap (λ (ks : List ℕ). m ∷ ks) (lower ms low.1))

    upper : (ms : List ℕ) → AreBelow ms n → filter (λ d. nat_lt n d) ms ≡ []
    upper [] low = refl
    upper (m ∷ ms) low = rw (le-ltb n m (let less = low.0 in omega (arith, less))) (upper ms low.1)

below_more : (ns : List ℕ) (m n : ℕ) → AreBelow ns n → m < n → AreBelow (ns ++ (m ∷ [])) n
below_more [] m n below low = (low, tt)
below_more (k ∷ ns) m n below low = (below.0, below_more ns m n below.1 low)

-- the candidates of a ward, in range and ordered by number, with numbers above the given columns
abbrev AreAbove : List ℕ → List CandidateEntry → Type 0
AreAbove columns cs = AllByRecursion (λ c. AreBelow columns c.number) cs

above_more : (columns : List ℕ) (n : ℕ) (cs : List CandidateEntry) → AreAbove columns cs → AllByRecursion (λ c. n < c.number) cs → AreAbove (columns ++ (n ∷ [])) cs
above_more columns n [] above low = tt
above_more columns n (c ∷ cs) above low = (below_more columns n c.number above.0 low.0, above_more columns n cs above.1 low.1)

-- the candidates of a single ward, in key order, have ascending numbers
numbers_rise : (ward : ℕ) (c : CandidateEntry) (cs : List CandidateEntry) → (c.ward == ward) ≡ true → list_all (λ d. d.ward == ward) cs ≡ true → AllByRecursion (λ d. candidate_cmp c d ≡ Less) cs
    → AllByRecursion (λ d. c.number < d.number) cs
numbers_rise ward c [] of all less = tt
numbers_rise ward c (d ∷ cs) of all less =
    let parts = and_parts (d.ward == ward) (list_all (λ d. d.ward == ward) cs) all in
    let tied : nat_cmp c.ward d.ward ≡ Equal = sym (nat_cmp_is c.ward d.ward Equal (eqb-true c.ward ward of ∙ sym (eqb-true d.ward ward parts.0))) in
    let numbers : nat_cmp c.number d.number ≡ Less = ap (λ o. ordering_then o (nat_cmp c.number d.number)) (sym tied) ∙ less.0 in
    (ranked c.number d.number Less (sym numbers), numbers_rise ward c cs of parts.1 less.1)

columns_after : (ward : ℕ) (columns : List ℕ) (cs : List CandidateEntry) → list_all (λ c. c.ward == ward) cs ≡ true → list_all is_candidate cs ≡ true → IsStrictlySortedBy candidate_cmp cs
    → AreAbove columns cs
    → fold and_column columns cs ≡ columns ++ map (λ c. c.number) cs
unfolding IsStrictlySortedBy is_candidate
columns_after ward columns [] of good up above = sym (append-nil columns)
columns_after ward columns (c ∷ cs) of good up above =
    let own = and_parts (c.ward == ward) (list_all (λ d. d.ward == ward) cs) of in
    let fine = and_parts (is_candidate c) (list_all is_candidate cs) good in
    let numbers = and_parts (is_candidate_number c.number) (is_name c.name) (and_parts (is_ward_number c.ward) (is_candidate_number c.number && is_name c.name) fine.0).1 in
    let rise = numbers_rise ward c cs own.0 own.1 up.0 in
    rw
    (numbers.0, column_last columns c.number above.0)
    (columns_after ward (columns ++ (c.number ∷ [])) cs own.1 fine.1 up.1 (above_more columns c.number cs above.1 rise) ∙ append_assoc columns (c.number ∷ []) (map (λ d. d.number) cs))

each_of : (ward : ℕ) (cs : List CandidateEntry) → list_all (λ c. c.ward == ward) (filter (λ c. c.ward == ward) cs) ≡ true
each_of ward [] = refl
each_of ward (c ∷ cs) = go (c.ward == ward) refl (each_of ward cs)
  where
    go : (b : Bool) → (c.ward == ward) ≡ b → list_all (λ d. d.ward == ward) (filter (λ d. d.ward == ward) cs) ≡ true
        → list_all (λ d. d.ward == ward) (cond b (c ∷ filter (λ d. d.ward == ward) cs) (filter (λ d. d.ward == ward) cs)) ≡ true
    go true is later = and_from _ _ is later
    go false is later = later

-- if candidates are in range and in key order, the columns of a ward are the numbers of its candidates
pub columns_at : (s : OfficeState) (ward : ℕ) → list_all is_candidate s.candidates ≡ true → IsStrictlySortedBy candidate_cmp s.candidates
    → columns_of (candidates_of s ward) ≡ map (λ c. c.number) (candidates_of s ward)
columns_at s ward fine up =
    let of = λ (c : CandidateEntry). c.ward == ward in
    columns_after
    ward
    []
    (candidates_of s ward)
    (each_of ward s.candidates)
    (kept_all is_candidate of s.candidates fine)
    (IsStrictlySortedBy-filter candidate_cmp of s.candidates up)
    (none_below (candidates_of s ward))
  where
    none_below : (cs : List CandidateEntry) → AreAbove [] cs
    none_below [] = tt
    none_below (c ∷ cs) = (tt, none_below cs)

-- in a state, the columns of a ward are the numbers of its candidates
pub columns_are : (s : OfficeState) (ward : ℕ) → IsState s → columns_of (candidates_of s ward) ≡ map (λ c. c.number) (candidates_of s ward)
columns_are s ward is = let candidates = maps_of is candidate_map in columns_at s ward candidates.in_range candidates.rises
