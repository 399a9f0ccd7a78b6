-- The mark fields of a paper, as borrowed texts.
use Rattle.std.proofs.Common.{◌≡◌, ◌∙◌, ◌<◌, ◌≤◌, ◌+◌, ◌-◌, ◌∷◌, ◌++◌, ◌==◌, ℕ, suc, true, List, [], length, get_or, map, take, drop, refl, sym, ap, arith, codes, bytes_eq, Bor, append_assoc}
use Rattle.std.specs.List.{join_with_byte, list_all}
use Rattle.std.proofs.lemmas.Bool.{ne_eqb}
use Rattle.std.proofs.lemmas.List.{get_or-map, length-map, length-take, take_all, take_more}
use Rattle.keyfile.specs.Keying.{field_text, is_doubtful}
use Rattle.keyfile.proofs.MapLemmas.{list_all_map}

-- if the first mark is the letter D, the other marks determine whether the paper is doubtful
pub doubtful_by_others : (marks : List (Bor (List ℕ))) (other : Bor (List ℕ)) → 1 ≤ length marks → true ≡ bytes_eq (get_or marks 0 other).now (codes "D")
    → list_all (λ t. length t.now == 0) (take (length marks - 1) (drop 1 marks)) ≡ is_doubtful (map (λ t. t.now) marks)
doubtful_by_others [] other some letter = absurd (omega (arith, some))
doubtful_by_others (m ∷ ms) other some letter =
    let size : suc (length ms) - 1 ≡ length ms = omega arith in
    rw (size, take_all (length ms) ms (omega arith), sym letter) (sym (list_all_map (λ t. length t == 0) ms))

-- another field is joined to the previous ones
join_push : (fields : List (List ℕ)) (field : List ℕ) → join_with_byte 44 (fields ++ field ∷ []) ≡ join_with_byte 44 fields ++ field_text (length fields) field
join_push [] field = refl
join_push (f ∷ []) field = refl
join_push (f ∷ h ∷ fields) field =
    let later = join_push (h ∷ fields) field in
    ap (λ (l : List ℕ). f ++ 44 ∷ l) (later ∙ ap (λ (t : List ℕ). join_with_byte 44 (h ∷ fields) ++ t) (same (length fields)))
    ∙ sym (append_assoc f (44 ∷ join_with_byte 44 (h ∷ fields)) (field_text (suc (suc (length fields))) field))
  where
    same : (n : ℕ) → field_text (suc n) field ≡ field_text (suc (suc n)) field
    same n = rw (ne_eqb (suc n) 0 (λ e. omega (arith, e)), ne_eqb (suc (suc n)) 0 (λ e. omega (arith, e))) refl

-- the text so far is extended by another field
pub joined_more : (marks : List (Bor (List ℕ))) (i : ℕ) (other : Bor (List ℕ)) (text more : List ℕ) → i < length marks → text ≡ join_with_byte 44 (take i (map (λ t. t.now) marks))
    → more ≡ text ++ field_text i (get_or marks i other).now → more ≡ join_with_byte 44 (take (i + 1) (map (λ t. t.now) marks))
joined_more marks i other text more there is pushed =
    let texts : List (List ℕ) = map (λ t. t.now) marks in
    let size = length-map marks (λ t. t.now) in
    let within : i < length texts = omega (arith, there, size) in
    let front = length-take i texts in
    let count : length (take i texts) ≡ i = omega (arith, front, within) in
    let field : get_or texts i [] ≡ (get_or marks i other).now = get_or-map (λ t. t.now) marks i other [] there in
    let whole : join_with_byte 44 (take (i + 1) texts) ≡ join_with_byte 44 (take i texts) ++ field_text (length (take i texts)) (get_or texts i []) =
    ap (join_with_byte 44) (take_more texts i [] within) ∙ join_push (take i texts) (get_or texts i []) in
    pushed ∙ rw is (sym (whole ∙ rw (count, field) refl))
