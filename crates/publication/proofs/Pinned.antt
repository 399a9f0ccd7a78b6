-- Files with the same names and the same sums are the same files, except for texts that collide.
use Rattle.std.proofs.Common.{◌≡◌, ℕ, zero, suc, ◌<◌, Bool, true, false, codes, List, [], ◌∷◌, ◌++◌, drop, length, take, slice_index, ◌⊎◌, inl, inr, Ok, refl, sym, ◌∙◌, ap, ap₂, append_assoc, arith}
use Rattle.std.specs.Prelude.{bytes_eq}
use Rattle.std.specs.Bool.{Decides}
use Rattle.std.specs.Int.{byte_at, bytes_high_first, w32}
use Rattle.std.proofs.Math.Seq.{take-append_seam}
use Rattle.std.proofs.lemmas.Bool.Decides.{not_from_Decides}
use Rattle.std.proofs.lemmas.List.{append_cancel_left}
use Rattle.std.proofs.lemmas.Slice.Eq.{bytes_eq-Decides}
use Rattle.hex.proofs.HexLemmas.{decode_of-encode_lower, decode_of-same, length-encode_with}
use Rattle.hex.specs.Hex.{IsBytes, decode_of, encode_lower, lower_digits}
use Rattle.publication.specs.Files.{FileEntry, names}
use Rattle.publication.specs.Sums.{AreSame, Collide, sum_line, sums}
use Rattle.sha2.proofs.Facts256.{length-sha256}
use Rattle.sha2.specs.Sha256.{digest_bytes, sha256}
use Rattle.sheet.specs.Lines.{joined}

-- ---- the bytes of a digest

byte_small : (k n : ℕ) → byte_at k n < 256
byte_small zero n = omega arith
byte_small (suc k) n = omega arith

bytes_small : (k n i : ℕ) → slice_index (bytes_high_first k n) i < 256
bytes_small zero n i = omega arith
bytes_small (suc k) n zero = byte_small k n
bytes_small (suc k) n (suc i) = bytes_small k n i

IsBytes-append : (xs ys : List ℕ) → IsBytes xs → IsBytes ys → (i : ℕ) → slice_index (xs ++ ys) i < 256
IsBytes-append [] ys one two i = two i
IsBytes-append (x ∷ xs) ys one two zero = one zero
IsBytes-append (x ∷ xs) ys one two (suc i) = IsBytes-append xs ys (λ k. one (suc k)) two i

IsBytes-digest_bytes : (h : List ℕ) (n : ℕ) → IsBytes (digest_bytes h n)
unfolding digest_bytes
IsBytes-digest_bytes h zero = λ i. omega arith
IsBytes-digest_bytes h (suc n) = IsBytes-append (digest_bytes h n) (bytes_high_first 4 (slice_index h n)) (IsBytes-digest_bytes h n) (bytes_small 4 (slice_index h n))

IsBytes-sha256 : (text : List ℕ) → IsBytes (sha256 text)
unfolding sha256
IsBytes-sha256 text = IsBytes-digest_bytes _ 8

-- the digits of a digest
abbrev digits : List ℕ → List ℕ
digits text = encode_lower (sha256 text)

length-digits : (text : List ℕ) → length (digits text) ≡ 64
length-digits text = omega (arith, length-encode_with lower_digits (sha256 text), length-sha256 text)

-- equal digits are those of equal digests
digests_same : (a b : List ℕ) → digits a ≡ digits b → sha256 a ≡ sha256 b
digests_same a b e =
    decode_of-same (digits a) (sha256 a) (sha256 b) (decode_of-encode_lower (sha256 a) (IsBytes-sha256 a))
    (ap decode_of e ∙ decode_of-encode_lower (sha256 b) (IsBytes-sha256 b))

by_test : (a b : List ℕ) (r : Bool) → Decides r (a ≡ b) → sha256 a ≡ sha256 b → (a ≡ b) ⊎ Collide a b
by_test a b true d e = inl (d.0 refl)
by_test a b false d e = inr (not_from_Decides false d refl, e)

-- ---- line by line

front_of_line : (h r s : List ℕ) → length h ≡ 64 → take 64 ((h ++ r) ++ s) ≡ h
front_of_line h r s len = ap (λ n. take n ((h ++ r) ++ s)) (sym len) ∙ ap (take (length h)) (append_assoc h r s) ∙ take-append_seam h (r ++ s)

line_front : (file : FileEntry) (rest : List ℕ) → take 64 (sum_line file ++ rest) ≡ digits file.text
unfolding joined
line_front file rest = front_of_line (digits file.text) (codes "  " ++ (file.name ++ (codes "\n" ++ []))) rest (length-digits file.text)

-- the line of a name and of digits
abbrev line_with : List ℕ → List ℕ → List ℕ
line_with own name = joined (own ∷ codes "  " ∷ name ∷ codes "\n" ∷ [])

first_of : List (List ℕ) → List ℕ
first_of [] = []
first_of (x ∷ xs) = x

is_some_name : List (List ℕ) → Bool
is_some_name [] = false
is_some_name (x ∷ xs) = true

pub files_pinned : (xs ys : List FileEntry) → names xs ≡ names ys → sums xs ≡ sums ys → AreSame xs ys
unfolding first_of is_some_name
files_pinned [] [] same_names same_sums = tt
files_pinned [] (y ∷ ys) same_names same_sums = cc (ap is_some_name same_names)
files_pinned (x ∷ xs) [] same_names same_sums = cc (ap is_some_name same_names)
files_pinned (x ∷ xs) (y ∷ ys) same_names same_sums =
    let name : x.name ≡ y.name = ap first_of same_names in
    let own : digits x.text ≡ digits y.text = sym (line_front x (sums xs)) ∙ ap (take 64) same_sums ∙ line_front y (sums ys) in
    let line : sum_line y ≡ sum_line x = sym (ap₂ line_with own name) in
    let rest : sums xs ≡ sums ys = append_cancel_left (sum_line x) (sums xs) (sums ys) (same_sums ∙ ap (λ l. l ++ sums ys) line) in
    (name, by_test x.text y.text (bytes_eq x.text y.text) (bytes_eq-Decides x.text y.text) (digests_same x.text y.text own), files_pinned xs ys (ap (drop 1) same_names) rest)
