-- A text remains UTF-8 if its ASCII bytes are replaced by other bytes.
use Rattle.std.proofs.Common.{◌≡◌, ℕ, suc, ◌<◌, ◌≤◌, true, List, [], ◌∷◌, ◌++◌, length, get_or, IsUtf8, inl, inr, refl, sym, ap₂, subst, arith, append-nil}
use Rattle.std.specs.List.{flat_map}
use Rattle.std.proofs.lemmas.Bool.{and_parts, cases_lt}
use Rattle.std.proofs.lemmas.Grind.{flat_map-append}
use Rattle.std.proofs.lemmas.Str.{IsUtf8-append, IsUtf8-nil, IsUtf8-encode, encode_ascii, inside_one}
use lib.Utf8.{scalar, scalars, encode, encodes, low_scalar}

-- an ASCII byte before a text
pub ascii_then : (x : ℕ) (xs : List ℕ) → x < 128 → IsUtf8 xs → IsUtf8 (x ∷ xs)
ascii_then x xs small u = IsUtf8-append (x ∷ []) xs (subst IsUtf8 (encode_ascii x small) (IsUtf8-encode x (low_scalar x (omega arith)))) u

module _ (f : ℕ → List ℕ) (low : (x : ℕ) → x < 128 → IsUtf8 (f x)) (high : (x : ℕ) → 128 ≤ x → f x ≡ x ∷ []) where
  -- bytes above ASCII are kept
  kept : (xs : List ℕ) → ((k : ℕ) → k < length xs → 128 ≤ get_or xs k 0) → flat_map f xs ≡ xs
  kept [] h = refl
  kept (x ∷ xs) h = ap₂ (λ (a b : List ℕ). a ++ b) (high x (h 0 (omega arith))) (kept xs (λ k below. h (suc k) (omega arith)))

  one_char : (c : ℕ) → scalar c ≡ true → IsUtf8 (flat_map f (encode c))
  one_char c ok = elim (cases_lt c 128) [
    | inl small ↦ rw (encode_ascii c small, append-nil) (low c small)
    | inr big ↦
        let all_high : (k : ℕ) → k < length (encode c) → 128 ≤ get_or (encode c) k 0 = λ k below. elim (cases_lt (get_or (encode c) k 0) 128) [
          | inl small ↦ absurd (omega (arith, inside_one c [] (encode c) k (sym (append-nil _)) below small))
          | inr h ↦ h
        ] in
        subst IsUtf8 (sym (kept (encode c) all_high)) (IsUtf8-encode c ok)
  ]

  all_chars : (cs : List ℕ) → scalars cs ≡ true → IsUtf8 (flat_map f (encodes cs))
  all_chars [] e = IsUtf8-nil
  all_chars (c ∷ cs) e =
      let p = and_parts _ _ e in
      subst IsUtf8 (sym (flat_map-append f (encode c) (encodes cs))) (IsUtf8-append _ _ (one_char c p.0) (all_chars cs p.1))

  pub IsUtf8-by_bytes : (text : List ℕ) → IsUtf8 text → IsUtf8 (flat_map f text)
  IsUtf8-by_bytes text u = subst (λ l. IsUtf8 (flat_map f l)) u.1.1 (all_chars u.0 u.1.0)
