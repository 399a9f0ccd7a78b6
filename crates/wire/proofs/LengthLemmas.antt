-- The values of all headers with a given name.
use Rattle.std.proofs.Common.{◌≡◌, ◌∙◌, ◌<◌, true, ℕ, List, ◌∷◌, ◌++◌, length, get_or, drop, filter, map, suc, sym, ap, refl, take, arith}
use Rattle.std.specs.Prelude.{Option, Some, None, is_some}
use Rattle.std.specs.Borrow.{Bor}
use Rattle.std.specs.Str.{str_eq_ignore_ascii_case}
use Rattle.std.proofs.Math.Seq.{drop-cons}
use Rattle.std.proofs.lemmas.List.{length-append, map-append, take-append-drop}
use Rattle.std.proofs.lemmas.List.Elements.{filter-append}
use Rattle.httparse.specs.Spans.{header_bytes}
use Rattle.httparse.specs.declared.spans.HeaderSpan.{HeaderSpan}
use Rattle.wire.specs.Lengths.{NamedValue, value_listed, values_of}

values_of-append : (name : List ℕ) (xs ys : List NamedValue) → values_of name (xs ++ ys) ≡ values_of name xs ++ values_of name ys
values_of-append name xs ys =
    let test = λ (f : NamedValue). str_eq_ignore_ascii_case f.0 name in
    ap (map (λ (f : NamedValue). f.1)) (filter-append test xs ys) ∙ map-append (λ (f : NamedValue). f.1) (filter test xs) (filter test ys)

-- another header with the same name follows the one that was found
pub several : (name buffer own_name : List ℕ) (headers : List HeaderSpan) (i : ℕ) (other : HeaderSpan) (found : Option (Bor (List ℕ))) → i < length headers
    → own_name ≡ (header_bytes buffer (get_or headers i other)).0 → true ≡ str_eq_ignore_ascii_case own_name name → true ≡ is_some found
    → values_of name (map (header_bytes buffer) (take i headers)) ≡ value_listed found → 1 < length (values_of name (map (header_bytes buffer) headers))
several name buffer own_name headers i other None there is named some before = absurd (cc some)
several name buffer own_name headers i other (Some value) there is named some before =
    let bytes = header_bytes buffer in
    let header = get_or headers i other in
    let behind = map bytes (drop (suc i) headers) in
    let parts : headers ≡ take i headers ++ header ∷ drop (suc i) headers = sym (take-append-drop i headers) ∙ ap (λ l. take i headers ++ l) (drop-cons headers i other there) in
    let split = ap (λ l. values_of name (map bytes l)) parts ∙ ap (values_of name) (map-append bytes (take i headers) (header ∷ drop (suc i) headers))
    ∙ values_of-append name (map bytes (take i headers)) (bytes header ∷ behind) in
    let this : str_eq_ignore_ascii_case (bytes header).0 name ≡ true = ap (λ n. str_eq_ignore_ascii_case n name) (sym is) ∙ sym named in
    let own : values_of name (bytes header ∷ behind) ≡ (bytes header).1 ∷ values_of name behind = rw this refl in
    omega (arith, ap length split, length-append (values_of name (map bytes (take i headers))) (values_of name (bytes header ∷ behind)), ap length before, ap length own)
