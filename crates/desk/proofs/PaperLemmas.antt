-- Extending the lines for papers, and the names of candidates, by one.
use Rattle.std.proofs.Common.{◌≡◌, ℕ, ◌+◌, ◌<◌, List, [], ◌∷◌, ◌++◌, map, length, get_or, drop, suc, sym, ap, ◌∙◌, arith, append_assoc, add-one, drop-cons}
use Rattle.std.specs.Borrow.{Bor}
use Rattle.std.specs.List.{range_with_len}
use Rattle.std.proofs.lemmas.List.{map-append}
use Rattle.std.proofs.lemmas.List.FromFn.{map-range_with_len_more}
use Rattle.clap.specs.Words.{Text}
use Rattle.desk.specs.Overviews.{lines_of}
use Rattle.desk.specs.Pages.{line}

-- the remaining lines are the next one followed by the rest
lines_left : {X V : Type 0} (told : V → Text) (view : X → V) (xs : List X) (k : ℕ) (x : X) → k < length xs → x ≡ get_or xs k x
    → lines_of told (map view (drop k xs)) ≡ line (told (view x)) ++ lines_of told (map view (drop (k + 1) xs))
lines_left {X = X} told view xs k x within is =
    let next : drop k xs ≡ x ∷ drop (k + 1) xs = rw add-one (drop-cons xs k x within ∙ ap (λ (y : X). y ∷ drop (suc k) xs) (sym is)) in
    ap (λ (ys : List X). lines_of told (map view ys)) next

-- the lines read so far are extended by one
pub line_more : {X V : Type 0} (told : V → Text) (view : X → V) (xs : List X) (k : ℕ) (x : X) (before after all : Text) → k < length xs → x ≡ get_or xs k x
    → after ≡ before ++ line (told (view x)) → before ++ lines_of told (map view (drop k xs)) ≡ all → after ++ lines_of told (map view (drop (k + 1) xs)) ≡ all
line_more told view xs k x before after all within is put so_far =
    let left : Text = lines_of told (map view (drop (k + 1) xs)) in
    ap (λ (text : Text). text ++ left) put
    ∙ append_assoc before (line (told (view x))) left
    ∙ ap (λ (text : Text). before ++ text) (sym (lines_left told view xs k x within is))
    ∙ so_far

-- the names so far are extended by one
pub name_more : (name_of : ℕ → Text) (before after : List (Bor Text)) (name : Bor Text) (n : ℕ) → after ≡ before ++ name ∷ [] → name.now ≡ name_of n
    → map (λ t. t.now) before ≡ map name_of (range_with_len 0 n) → map (λ t. t.now) after ≡ map name_of (range_with_len 0 (n + 1))
name_more name_of before after name n put is so_far =
    ap (map (λ (t : Bor Text). t.now)) put
    ∙ map-append (λ (t : Bor Text). t.now) before (name ∷ [])
    ∙ ap (λ (names : List Text). names ++ name.now ∷ []) so_far
    ∙ ap (λ (text : Text). map name_of (range_with_len 0 n) ++ text ∷ []) is
    ∙ sym (map-range_with_len_more name_of 0 n n (omega arith))
