-- The fields of a text, from left to right.
use Rattle.std.proofs.Common.{set, replicate, ◌≡◌, ℕ, suc, ◌+◌, ◌-◌, ◌*◌, ◌<◌, ◌≤◌, ◌==◌, nat_le, nat_lt, Bool, true, false, ◌&&◌, List, [], ◌∷◌, ◌++◌, length, take, drop, get_or, Ok, Err}
use Rattle.std.proofs.Common.{refl, sym, ap, ◌∙◌, arith, drop-cons, length-drop, Result}
use Rattle.std.specs.List.{list_all, fold, position_or_len, count_by, before_first, after_first}
use Rattle.std.proofs.lemmas.Bool.{lt-ltb, ltb-true, ltb-false, leb-true, ne_eqb, cond-true, cond-false, or_from, not_from_true, and_parts}
use Rattle.std.proofs.lemmas.List.{take_all, drop_all, drop-set-lt, drop-drop, drop-replicate}
use Rattle.std.proofs.lemmas.List.Sums.{fails_before_first}
use Rattle.std.proofs.lemmas.List.Splits.{length-slice_split, slice_split_none, slice_split_first}
use Rattle.paper.specs.Columns.{max_candidates}
use Rattle.paper.specs.MarksText.{fields, is_digit, number_in, mark_in, marks_in, and_marks}
use Rattle.paper.specs.declared.marks.MarkFault.{MarkFault}
use Rattle.paper.specs.declared.marks.MarkFault.TheVariants.{TooLarge}

-- a text has one more field than it has commas
pub length-fields : (text : List ℕ) → length (fields text) ≡ count_by (λ b. b == 44) text + 1
length-fields text = length-slice_split (λ b. b == 44) text

pub ruleset field_counts = length-fields

-- a text without a comma is a single field
fields-one : (text : List ℕ) → length text ≤ position_or_len (λ b. b == 44) text → fields text ≡ text ∷ []
fields-one text none =
    slice_split_none (λ b. b == 44) text (λ k d below. fails_before_first (λ b. b == 44) text k d (omega (arith, none, below)))

-- the first field ends at the first comma, and the other fields, if any, are the fields of the text after it
pub fields-first : (text : List ℕ) (others : List (List ℕ)) (field : List ℕ) → fields text ≡ field ∷ others →
    (field ≡ before_first (λ b. b == 44) text) × (0 < length others → fields (after_first (λ b. b == 44) text) ≡ others)
fields-first text others field parts = by_test (nat_lt (position_or_len (λ b. b == 44) text) (length text)) refl
  where
    by_test : (b : Bool) → nat_lt (position_or_len (λ c. c == 44) text) (length text) ≡ b →
        (field ≡ before_first (λ c. c == 44) text) × (0 < length others → fields (after_first (λ c. c == 44) text) ≡ others)
    by_test true here =
        let first = slice_split_first (λ c. c == 44) text 0 (ltb-true _ _ here) in
        let same : take (position_or_len (λ c. c == 44) text) text ∷ fields (drop (position_or_len (λ c. c == 44) text + 1) text) ≡ field ∷ others = sym first ∙ parts in
        (cc, λ some. cc)
    by_test false here =
        let none = ltb-false _ _ here in
        let alone : text ∷ [] ≡ field ∷ others = sym (fields-one text none) ∙ parts in
        let whole : text ≡ field = cc in
        let no_others : [] ≡ others = cc in
        (sym whole ∙ sym (take_all (position_or_len (λ c. c == 44) text) text none), λ some. absurd (omega (arith, some, ap length no_others)))

-- the marks parsed so far, followed by the result of parsing the remaining fields
abbrev pub after_marks : List ℕ → Result (List ℕ) MarkFault → Result (List ℕ) MarkFault
after_marks [] others = others
after_marks (mark ∷ marks) others = and_marks (Ok mark) (after_marks marks others)

after_marks-Err : (marks : List ℕ) (fault : MarkFault) → after_marks marks (Err fault) ≡ Err fault
after_marks-Err [] fault = refl
after_marks-Err (mark ∷ marks) fault = ap (and_marks (Ok mark)) (after_marks-Err marks fault)

after_marks-nil : (marks : List ℕ) → after_marks marks (Ok []) ≡ Ok marks
after_marks-nil [] = refl
after_marks-nil (mark ∷ marks) = ap (and_marks (Ok mark)) (after_marks-nil marks)

after_marks-more : (marks : List ℕ) (mark : ℕ) (others : Result (List ℕ) MarkFault) → after_marks marks (and_marks (Ok mark) others) ≡ after_marks (marks ++ mark ∷ []) others
after_marks-more [] mark others = refl
after_marks-more (first ∷ marks) mark others = ap (and_marks (Ok first)) (after_marks-more marks mark others)

-- the fields from the i-th onwards begin with the i-th
fields_from : (fs : List (List ℕ)) (i : ℕ) → i < length fs → drop i fs ≡ get_or fs i [] ∷ drop (i + 1) fs
fields_from fs i here = let e : i + 1 ≡ suc i = omega arith in rw e (drop-cons fs i [] here)

-- so the i-th field and the fields after it are the fields of the rest of the text
pub fields-next : (fs : List (List ℕ)) (rest : List ℕ) (i : ℕ) → i < length fs → fields rest ≡ drop i fs →
    (before_first (λ b. b == 44) rest ≡ get_or fs i []) × (i + 1 < length fs → fields (after_first (λ b. b == 44) rest) ≡ drop (i + 1) fs)
fields-next fs rest i here same =
    let first = fields-first rest (drop (i + 1) fs) (get_or fs i []) (same ∙ fields_from fs i here) in
    (sym first.0, λ more. first.1 (omega (arith, more, length-drop (i + 1) fs)))

-- parsing the next field: a fault in it is the fault of the whole text
pub field-fault : (fs : List (List ℕ)) (marks field : List ℕ) (i : ℕ) (fault : MarkFault) → marks_in fs ≡ after_marks marks (marks_in (drop i fs)) → i < length fs →
    field ≡ get_or fs i [] → mark_in field ≡ Err fault → marks_in fs ≡ Err fault
field-fault fs marks field i fault so_far here is faulty =
    so_far ∙ ap (λ others. after_marks marks (marks_in others)) (fields_from fs i here)
    ∙ ap (λ mark. after_marks marks (and_marks mark (marks_in (drop (i + 1) fs)))) (ap mark_in (sym is) ∙ faulty) ∙ after_marks-Err marks fault

-- parsing the next field: if it has no fault, its mark is added
pub field-mark : (fs : List (List ℕ)) (marks more field : List ℕ) (i mark : ℕ) → marks_in fs ≡ after_marks marks (marks_in (drop i fs)) → i < length fs →
    field ≡ get_or fs i [] → mark_in field ≡ Ok mark → more ≡ marks ++ mark ∷ [] → marks_in fs ≡ after_marks more (marks_in (drop (i + 1) fs))
field-mark fs marks more field i mark so_far here is read one =
    so_far ∙ ap (λ others. after_marks marks (marks_in others)) (fields_from fs i here)
    ∙ ap (λ m. after_marks marks (and_marks m (marks_in (drop (i + 1) fs)))) (ap mark_in (sym is) ∙ read)
    ∙ after_marks-more marks mark (marks_in (drop (i + 1) fs)) ∙ ap (λ l. after_marks l (marks_in (drop (i + 1) fs))) (sym one)

-- after the last field, the marks are complete
pub fields-read : (fs : List (List ℕ)) (marks : List ℕ) (i : ℕ) → marks_in fs ≡ after_marks marks (marks_in (drop i fs)) → length fs ≤ i → marks_in fs ≡ Ok marks
fields-read fs marks i so_far all = so_far ∙ ap (λ others. after_marks marks (marks_in others)) (drop_all i fs all) ∙ after_marks-nil marks

-- each mark written to the array leaves one zero fewer after it
pub zeros-less : (marks : List ℕ) (i mark : ℕ) → drop i marks ≡ replicate (max_candidates - i) 0 → drop (i + 1) (set marks i mark) ≡ replicate (max_candidates - (i + 1)) 0
zeros-less marks i mark zeros =
    drop-set-lt (i + 1) marks i mark (omega arith) ∙ sym (drop-drop 1 i marks) ∙ ap (drop 1) zeros ∙ drop-replicate 1 (max_candidates - i) 0
    ∙ ap (λ n. replicate n 0) (omega arith)

-- appending digits never makes a number smaller
number_grows : (n : ℕ) (digits : List ℕ) → n ≤ fold (λ m b. m * 10 + (b - 48)) n digits
number_grows n [] = omega arith
number_grows n (b ∷ digits) = omega (arith, number_grows (n * 10 + (b - 48)) digits)

-- a number with at least three digits and no leading zero is greater than 99
pub mark_in-long : (field : List ℕ) → (get_or field 0 0 ≡ 48 → ⊥) → list_all is_digit field ≡ true → 2 < length field → Err TooLarge ≡ mark_in field
mark_in-long [] first digits long = absurd (omega (arith, long))
mark_in-long (b ∷ []) first digits long = absurd (omega (arith, long))
mark_in-long (b ∷ c ∷ []) first digits long = absurd (omega (arith, long))
mark_in-long (b ∷ c ∷ d ∷ more) first digits long =
    let digit = and_parts (nat_le 48 b && nat_le b 57) (list_all is_digit (c ∷ d ∷ more)) digits in
    let low = leb-true 48 b (and_parts (nat_le 48 b) (nat_le b 57) digit.0).0 in
    let large = number_grows (((0 * 10 + (b - 48)) * 10 + (c - 48)) * 10 + (d - 48)) more in
    sym (cond-false _ _ _ (or_from _ _ (ne_eqb b 48 first) (not_from_true _ digits)) ∙ cond-true _ _ _ (lt-ltb 99 (number_in (b ∷ c ∷ d ∷ more)) (omega (arith, large, low, first))))
