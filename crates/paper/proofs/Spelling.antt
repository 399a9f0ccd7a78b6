-- A text that parses is the spelling of the result, and vice versa.
use Rattle.std.proofs.Common.{◌≡◌, ℕ, suc, zero, ◌+◌, ◌-◌, ◌*◌, ◌/◌, ◌%◌, ◌<◌, ◌≤◌, ◌==◌, nat_le, nat_lt, Bool, true, false, not, cond, ◌&&◌, ◌||◌, List, [], ◌∷◌, ◌++◌, length, take, get_or}
use Rattle.std.proofs.Common.{map, Result, Ok, Err, inl, inr, refl, sym, ap, ◌∙◌, subst, arith, decimal, codes, bytes_eq, append_assoc}
use Rattle.std.specs.List.{list_all, join_with_byte, zip, All, AllByRecursion}
use Rattle.std.proofs.lemmas.Bool.{le-leb, le-ltb, eq-eqb, ne_eqb, eqb-false, leb-true, cases_lt, cond-true, cond-false, or_from, or_parts, and_from, and_parts, and_left, not_from_true}
use Rattle.std.proofs.lemmas.Bool.{not-false, ltb-false}
use Rattle.std.proofs.lemmas.Fmt.{decimal_digit, decimal_step}
use Rattle.std.proofs.lemmas.List.{length-take, length-map, take_more, map-append}
use Rattle.std.proofs.lemmas.List.Splits.{slice_split_none, slice_split_at, join_with_byte-slice_split}
use Rattle.paper.specs.Columns.{IsCandidateSet}
use Rattle.paper.specs.Marking.{Marking, IsMarking, candidates_of, marks_of}
use Rattle.paper.specs.MarksText.{fields, is_digit, number_in, mark_in, marks_in, and_marks, with_columns, reading, mark_text, field_text, spelling, ReadsBack}
use Rattle.paper.specs.Padded.{padded}
use Rattle.paper.specs.declared.marks.MarkFault.{MarkFault}
use Rattle.paper.specs.declared.marks.MarkFault.TheVariants.{NotANumber, TooLarge}
use Rattle.paper.specs.declared.marked.Keyed.TheVariants.{Marked}
use Rattle.paper.proofs.Fields.{mark_in-long, length-fields}
use Rattle.paper.proofs.Markings.{zip-within}

-- the properties of a parsed field
pub record IsNumber (b : ℕ) (bs : List ℕ) (mark : ℕ) : Type 0 where
  pub first : b ≡ 48 → ⊥
  pub digits : list_all is_digit (b ∷ bs) ≡ true
  pub value : number_in (b ∷ bs) ≡ mark

read_number : (b : ℕ) (bs : List ℕ) (mark : ℕ) → mark_in (b ∷ bs) ≡ Ok mark → IsNumber b bs mark
read_number b bs mark read = by_tests (b == 48 || not (list_all is_digit (b ∷ bs))) (nat_lt 99 (number_in (b ∷ bs))) refl read
  where
    by_tests : (wrong large : Bool) → (b == 48 || not (list_all is_digit (b ∷ bs))) ≡ wrong →
        cond wrong (Err NotANumber) (cond large (Err TooLarge) (Ok (number_in (b ∷ bs)))) ≡ Ok mark → IsNumber b bs mark
    by_tests true large is found = cc
    by_tests false true is found = cc
    by_tests false false is found =
        let parts = or_parts (b == 48) (not (list_all is_digit (b ∷ bs))) is in
        record { first = eqb-false b 48 parts.0; digits = not-false (list_all is_digit (b ∷ bs)) parts.1; value = cc }

number_read : (b : ℕ) (bs : List ℕ) (mark : ℕ) → IsNumber b bs mark → mark ≤ 99 → mark_in (b ∷ bs) ≡ Ok mark
number_read b bs mark is few =
    cond-false _ _ _ (or_from _ _ (ne_eqb b 48 is.first) (not_from_true _ is.digits))
    ∙ cond-false _ _ _ (le-ltb 99 (number_in (b ∷ bs)) (omega (arith, few, is.value))) ∙ ap (λ n. Ok n) is.value

a_digit : (b : ℕ) → is_digit b ≡ true → (48 ≤ b) × (b ≤ 57)
a_digit b is = let parts = and_parts (nat_le 48 b) (nat_le b 57) is in (leb-true 48 b parts.0, leb-true b 57 parts.1)

is_a_digit : (n : ℕ) → n < 10 → is_digit (48 + n) ≡ true
is_a_digit n small = and_from (nat_le 48 (48 + n)) (nat_le (48 + n) 57) (le-leb 48 (48 + n) (omega arith)) (le-leb (48 + n) 57 (omega (arith, small)))

-- the two digits of a number from 10 to 99
two_digits : (n : ℕ) → 10 ≤ n → n ≤ 99 → decimal n ≡ (48 + n / 10) ∷ (48 + n % 10) ∷ []
two_digits n low high =
    decimal_step n low (omega (arith, high)) ∙ ap (λ l. l ++ (48 + n % 10) ∷ []) (decimal_digit (n / 10) (omega (arith, high)))

-- the number parsed from a field is spelled as that field
pub mark_text-mark_in : (field : List ℕ) (mark : ℕ) → mark_in field ≡ Ok mark → mark_text mark ≡ field
mark_text-mark_in [] mark read = let none : 0 ≡ mark = cc in ap mark_text (sym none)
mark_text-mark_in (b ∷ []) mark read =
    let is = read_number b [] mark read in
    let digit = a_digit b (and_parts (is_digit b) true is.digits).0 in
    cond-false _ _ _ (ne_eqb mark 0 (λ none. is.first (omega (arith, none, is.value, digit.0))))
    ∙ decimal_digit mark (omega (arith, is.value, digit.1)) ∙ ap (λ n. n ∷ []) (omega (arith, is.value, digit.0))
mark_text-mark_in (b ∷ c ∷ []) mark read =
    let is = read_number b (c ∷ []) mark read in
    let both = and_parts (is_digit b) (is_digit c && true) is.digits in
    let first = a_digit b both.0 in
    let second = a_digit c (and_parts (is_digit c) true both.1).0 in
    let value : mark ≡ (b - 48) * 10 + (c - 48) = omega (arith, is.value) in
    let tens : 1 ≤ b - 48 = omega (arith, first.0, is.first) in
    let e : 48 + mark / 10 ≡ b = omega (arith, value, first.0, second.0, second.1) in
    let f : 48 + mark % 10 ≡ c = omega (arith, value, first.0, second.0, second.1) in
    cond-false _ _ _ (ne_eqb mark 0 (λ none. omega (arith, none, value, tens)))
    ∙ two_digits mark (omega (arith, value, tens)) (omega (arith, value, first.1, second.1)) ∙ ap (λ n. n ∷ (48 + mark % 10) ∷ []) e ∙ ap (λ n. b ∷ n ∷ []) f
mark_text-mark_in (b ∷ c ∷ d ∷ more) mark read =
    let is = read_number b (c ∷ d ∷ more) mark read in
    let long = mark_in-long (b ∷ c ∷ d ∷ more) is.first is.digits (omega arith) in
    cc

written : (n : ℕ) → mark_text (suc n) ≡ decimal (suc n)
written n = cond-false (suc n == 0) [] (decimal (suc n)) (ne_eqb (suc n) 0 (λ same. omega (arith, same)))

-- the text of a mark parses as that mark
pub mark_in-mark_text : (mark : ℕ) → mark ≤ 99 → mark_in (mark_text mark) ≡ Ok mark
mark_in-mark_text zero few = refl
mark_in-mark_text (suc n) few =
    elim (cases_lt (suc n) 10) [
      | inl small ↦
          ap mark_in (written n ∙ decimal_digit (suc n) small)
          ∙ number_read (48 + suc n) [] (suc n) (record { first = λ same. omega (arith, same); digits = and_from _ true (is_a_digit (suc n) small) refl; value = omega arith }) few
      | inr large ↦
          ap mark_in (written n ∙ two_digits (suc n) large few)
          ∙ number_read (48 + suc n / 10) ((48 + suc n % 10) ∷ []) (suc n) (record {
            first = λ same. omega (arith, same, large);
            digits = and_from _ _ (is_a_digit (suc n / 10) (omega (arith, few))) (and_from _ true (is_a_digit (suc n % 10) (omega arith)) refl);
            value = omega arith;
          }) few
    ]

-- the properties of parsed fields
pub record AreMarks (fs : List (List ℕ)) (marks : List ℕ) : Type 0 where
  pub count : length marks ≡ length fs
  pub small : AllByRecursion (λ mark. mark ≤ 99) marks
  pub texts : map mark_text marks ≡ fs

small_mark : (field : List ℕ) (mark : ℕ) → mark_in field ≡ Ok mark → mark ≤ 99
small_mark [] mark read = let none : 0 ≡ mark = cc in omega (arith, none)
small_mark (b ∷ bs) mark read = by_tests (b == 48 || not (list_all is_digit (b ∷ bs))) (nat_lt 99 (number_in (b ∷ bs))) refl read
  where
    by_tests : (wrong large : Bool) → nat_lt 99 (number_in (b ∷ bs)) ≡ large →
        cond wrong (Err NotANumber) (cond large (Err TooLarge) (Ok (number_in (b ∷ bs)))) ≡ Ok mark → mark ≤ 99
    by_tests true large is found = cc
    by_tests false true is found = cc
    by_tests false false is found = let value : number_in (b ∷ bs) ≡ mark = cc in omega (arith, ltb-false 99 (number_in (b ∷ bs)) is, value)

pub marks_read : (fs : List (List ℕ)) (marks : List ℕ) → marks_in fs ≡ Ok marks → AreMarks fs marks
marks_read [] marks read = let none : [] ≡ marks = cc in subst (AreMarks []) none (record { count = refl; small = tt; texts = refl })
marks_read (f ∷ fs) marks read = by_results (mark_in f) (marks_in fs) refl refl read (marks_read fs)
  where
    by_results : (first : Result ℕ MarkFault) (others : Result (List ℕ) MarkFault) → mark_in f ≡ first → marks_in fs ≡ others → and_marks first others ≡ Ok marks →
        ((later : List ℕ) → marks_in fs ≡ Ok later → AreMarks fs later) → AreMarks (f ∷ fs) marks
    by_results (Err fault) others one more both ih = cc
    by_results (Ok mark) (Err fault) one more both ih = cc
    by_results (Ok mark) (Ok later) one more both ih =
        let are = ih later more in
        let whole : mark ∷ later ≡ marks = cc in
        subst (AreMarks (f ∷ fs)) whole (record {
          count = ap (λ n. suc n) are.count;
          small = (small_mark f mark one, are.small);
          texts = ap (λ t. t ∷ map mark_text later) (mark_text-mark_in f mark one) ∙ ap (λ l. f ∷ l) are.texts;
        })

marks_written : (marks : List ℕ) → AllByRecursion (λ mark. mark ≤ 99) marks → marks_in (map mark_text marks) ≡ Ok marks
marks_written [] small = refl
marks_written (mark ∷ marks) small =
    ap (λ m. and_marks m (marks_in (map mark_text marks))) (mark_in-mark_text mark small.0) ∙ ap (and_marks (Ok mark)) (marks_written marks small.1)

-- pairing two lists, and recovering each list from the pairs
candidates-zip : (columns marks : List ℕ) → length columns ≤ length marks → candidates_of (zip columns marks) ≡ columns
candidates-zip [] marks few = refl
candidates-zip (c ∷ columns) [] few = absurd (omega (arith, few))
candidates-zip (c ∷ columns) (mark ∷ marks) few = ap (λ l. c ∷ l) (candidates-zip columns marks (omega (arith, few)))

marks-zip : (columns marks : List ℕ) → length columns ≤ length marks → marks_of (zip columns marks) ≡ take (length columns) marks
marks-zip [] marks few = refl
marks-zip (c ∷ columns) [] few = absurd (omega (arith, few))
marks-zip (c ∷ columns) (mark ∷ marks) few = ap (λ l. mark ∷ l) (marks-zip columns marks (omega (arith, few)))

zip-take : (columns marks : List ℕ) → zip columns marks ≡ zip columns (take (length columns) marks)
zip-take [] marks = refl
zip-take (c ∷ columns) [] = refl
zip-take (c ∷ columns) (mark ∷ marks) = ap (λ l. (c, mark) ∷ l) (zip-take columns marks)

zip-parts : (ms : Marking) → zip (candidates_of ms) (marks_of ms) ≡ ms
zip-parts [] = refl
zip-parts (m ∷ ms) = ap (λ l. m ∷ l) (zip-parts ms)

fields-some : (text : List ℕ) → 1 ≤ length (fields text)
fields-some text = omega (arith, length-fields text)

-- the marks parsed from a text for the given columns
pub record IsRead (columns text marks : List ℕ) : Type 0 where
  pub columns_are : candidates_of (zip columns marks) ≡ columns
  pub marks_are : padded (marks_of (zip columns marks)) ≡ marks
  pub marking : IsMarking (zip columns marks)
  pub reads : reading columns text ≡ Ok (Marked (zip columns marks))
  pub spells : spelling (Marked (zip columns marks)) ≡ text

pub text_read : (columns text marks : List ℕ) → IsCandidateSet columns → bytes_eq text (codes "D") ≡ false → length (fields text) ≡ length columns →
    marks_in (fields text) ≡ Ok (take (length columns) marks) → padded (take (length columns) marks) ≡ marks → IsRead columns text marks
text_read columns text marks set plain count read behind =
    let are = marks_read (fields text) (take (length columns) marks) read in
    let within : length columns ≤ length marks = omega (arith, are.count, count, length-take (length columns) marks) in
    let cs = candidates-zip columns marks within in
    let ms = marks-zip columns marks within in
    record {
      columns_are = cs;
      marks_are = ap padded ms ∙ behind;
      marking = record {
        columns = subst IsCandidateSet (sym cs) set;
        small = subst (AllByRecursion (λ mark. mark ≤ 99)) (sym ms) are.small;
        some = omega (arith, ap length cs, count, fields-some text, length-map (zip columns marks) (λ (m : ℕ × ℕ). m.0));
      };
      reads =
          cond-false _ _ _ plain ∙ cond-true _ _ _ (eq-eqb (length (fields text)) (length columns) count) ∙ ap (with_columns columns) read
          ∙ ap (λ l. Ok (Marked l)) (sym (zip-take columns marks));
      spells = ap (λ l. join_with_byte 44 (map mark_text l)) ms ∙ ap (join_with_byte 44) are.texts ∙ join_with_byte-slice_split 44 text;
    }

mark_text-digits : (mark : ℕ) → mark ≤ 99 → list_all is_digit (mark_text mark) ≡ true
mark_text-digits zero few = refl
mark_text-digits (suc n) few =
    elim (cases_lt (suc n) 10) [
      | inl small ↦ ap (list_all is_digit) (written n ∙ decimal_digit (suc n) small) ∙ and_from _ true (is_a_digit (suc n) small) refl
      | inr large ↦
          ap (list_all is_digit) (written n ∙ two_digits (suc n) large few)
          ∙ and_from _ _ (is_a_digit (suc n / 10) (omega (arith, few))) (and_from _ true (is_a_digit (suc n % 10) (omega arith)) refl)
    ]

no_comma : (field : List ℕ) → list_all is_digit field ≡ true → All (λ b. (b == 44) ≡ false) field
no_comma [] digits k d here = absurd (omega (arith, here))
no_comma (b ∷ bs) digits zero d here = ne_eqb b 44 (λ same. omega (arith, same, (a_digit b (and_parts (is_digit b) (list_all is_digit bs) digits).0).0))
no_comma (b ∷ bs) digits (suc k) d here = no_comma bs (and_parts (is_digit b) (list_all is_digit bs) digits).1 k d (omega (arith, here))

-- joined fields of digits are split back into the same fields
fields-join : (mark : ℕ) (marks : List ℕ) → mark ≤ 99 → AllByRecursion (λ m. m ≤ 99) marks →
    fields (join_with_byte 44 (map mark_text (mark ∷ marks))) ≡ map mark_text (mark ∷ marks)
fields-join mark [] few small = slice_split_none (λ b. b == 44) (mark_text mark) (no_comma (mark_text mark) (mark_text-digits mark few))
fields-join mark (next ∷ marks) few small =
    slice_split_at (λ b. b == 44) (mark_text mark) 44 (join_with_byte 44 (map mark_text (next ∷ marks))) (no_comma (mark_text mark) (mark_text-digits mark few)) refl
    ∙ ap (λ l. mark_text mark ∷ l) (fields-join next marks small.0 small.1)

-- a text of fields isn't the letter D
not_doubtful : (field : List ℕ) (others : List (List ℕ)) → list_all is_digit field ≡ true → bytes_eq (join_with_byte 44 (field ∷ others)) (codes "D") ≡ false
not_doubtful [] [] digits = refl
not_doubtful [] (next ∷ others) digits = refl
not_doubtful (b ∷ bs) [] digits = and_left _ _ (ne_eqb b 68 (λ same. omega (arith, same, (a_digit b (and_parts (is_digit b) (list_all is_digit bs) digits).0).1)))
not_doubtful (b ∷ bs) (next ∷ others) digits = and_left _ _ (ne_eqb b 68 (λ same. omega (arith, same, (a_digit b (and_parts (is_digit b) (list_all is_digit bs) digits).0).1)))

pub marked_reads_back : (ms : Marking) → IsMarking ms → ReadsBack (Marked ms)
marked_reads_back [] is columns same = absurd (omega (arith, is.some))
marked_reads_back (m ∷ ms) is columns same =
    let parted = fields-join m.1 (marks_of ms) is.small.0 is.small.1 in
    let count : length (fields (join_with_byte 44 (map mark_text (marks_of (m ∷ ms))))) ≡ length columns =
    ap length parted ∙ length-map (marks_of (m ∷ ms)) mark_text ∙ length-map (m ∷ ms) (λ (k : ℕ × ℕ). k.1) ∙ sym (length-map (m ∷ ms) (λ (k : ℕ × ℕ). k.0)) ∙ ap length same in
    cond-false _ _ _ (not_doubtful (mark_text m.1) (map mark_text (marks_of ms)) (mark_text-digits m.1 is.small.0))
    ∙ cond-true _ _ _ (eq-eqb _ _ count) ∙ ap (with_columns columns) (ap marks_in parted ∙ marks_written (marks_of (m ∷ ms)) is.small)
    ∙ ap (λ l. Ok (Marked l)) (ap (λ cs. zip cs (marks_of (m ∷ ms))) (sym same) ∙ zip-parts (m ∷ ms))

join-more : (g : List ℕ) (fs : List (List ℕ)) (f : List ℕ) → join_with_byte 44 ((g ∷ fs) ++ f ∷ []) ≡ join_with_byte 44 (g ∷ fs) ++ 44 ∷ f
join-more g [] f = refl
join-more g (h ∷ fs) f = ap (λ l. g ++ (44 ∷ l)) (join-more h fs f) ∙ sym (append_assoc g (44 ∷ join_with_byte 44 (h ∷ fs)) (44 ∷ f))

-- the text of the first fields, extended by the next field
pub text-more : (marks : List ℕ) (i : ℕ) → i < length marks →
    join_with_byte 44 (map mark_text (take (i + 1) marks)) ≡ join_with_byte 44 (map mark_text (take i marks)) ++ field_text i (get_or marks i 0)
text-more [] i here = absurd (omega (arith, here))
text-more (m ∷ marks) zero here = refl
text-more (m ∷ marks) (suc i) here =
    ap (λ l. join_with_byte 44 (map mark_text l)) (take_more (m ∷ marks) (suc i) 0 here)
    ∙ ap (join_with_byte 44) (map-append mark_text (take (suc i) (m ∷ marks)) (get_or marks i 0 ∷ []))
    ∙ join-more (mark_text m) (map mark_text (take i marks)) (mark_text (get_or marks i 0))
    ∙ ap (λ l. join_with_byte 44 (map mark_text (take (suc i) (m ∷ marks))) ++ l)
    (sym (cond-false (suc i == 0) (mark_text (get_or marks i 0)) (44 ∷ mark_text (get_or marks i 0)) (ne_eqb (suc i) 0 (λ none. omega (arith, none)))))

-- the first marks, one per column, are the marks of the columns
pub marks-beside : (columns marks : List ℕ) → candidates_of (zip columns marks) ≡ columns → take (length columns) marks ≡ marks_of (zip columns marks)
marks-beside columns marks same = sym (marks-zip columns marks (zip-within columns marks same))
