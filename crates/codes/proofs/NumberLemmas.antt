-- Ranges of clerks, and their lines.
use Rattle.std.proofs.Common.{◌≡◌, ◌∙◌, ◌+◌, ◌-◌, ◌<◌, ◌≤◌, ◌++◌, ◌∷◌, ◌==◌, true, [], List, ℕ, suc, zero}
use Rattle.std.proofs.Common.{ap, append-nil, append_assoc, arith, drop, length, map, refl, sym, take}
use Rattle.std.proofs.lemmas.Bool.{and_parts}
use Rattle.std.proofs.lemmas.Bool.Decides.{nat_tests}
use Rattle.codes.specs.Files.{CodeEntry}
use Rattle.codes.specs.Making.{are_from, code_letters, line_of, numbers, text_of}

pub length_numbers : (first n : ℕ) → length (numbers first n) ≡ n
length_numbers first zero = refl
length_numbers first (suc n) = ap (λ k. suc k) (length_numbers (first + 1) n)

numbers_first : (first n : ℕ) → 0 < n → numbers first n ≡ first ∷ numbers (first + 1) (n - 1)
numbers_first first zero some = absurd (omega arith)
numbers_first first (suc n) some =
    let same : n ≡ suc n - 1 = omega arith in
    ap (λ k. first ∷ numbers (first + 1) k) same

-- ---- lines

pub lines_begin : (first count : ℕ) (letters : List ℕ) → text_of (numbers (first + 0) (count - 0)) letters ≡ text_of (numbers first count) letters
lines_begin first count letters =
    let one : first + 0 ≡ first = omega arith in
    let all : count - 0 ≡ count = omega arith in
    ap (λ n. text_of (numbers n (count - 0)) letters) one ∙ ap (λ n. text_of (numbers first n) letters) all

lines_next : (first index count : ℕ) (letters : List ℕ) → index < count
    → text_of (numbers (first + index) (count - index)) letters
    ≡ line_of (first + index) (take code_letters letters) ++ text_of (numbers (first + (index + 1)) (count - (index + 1))) (drop code_letters letters)
lines_next first index count letters there =
    let some : 0 < count - index = omega (arith, there) in
    let next : first + index + 1 ≡ first + (index + 1) = omega arith in
    let fewer : count - index - 1 ≡ count - (index + 1) = omega arith in
    ap (λ (ns : List ℕ). text_of ns letters) (numbers_first (first + index) (count - index) some)
    ∙ ap (λ n. line_of (first + index) (take code_letters letters) ++ text_of (numbers n (count - index - 1)) (drop code_letters letters)) next
    ∙ ap (λ n. line_of (first + index) (take code_letters letters) ++ text_of (numbers (first + (index + 1)) n) (drop code_letters letters)) fewer

lines_end : (first index count : ℕ) (letters : List ℕ) → count ≤ index → text_of (numbers (first + index) (count - index)) letters ≡ []
lines_end first index count letters done =
    let none : count - index ≡ 0 = omega (arith, done) in
    ap (λ n. text_of (numbers (first + index) n) letters) none

-- another line was written
pub one_line : (first index count : ℕ) (before after all rest own others : List ℕ) → index < count → own ≡ take code_letters rest → others ≡ drop code_letters rest
    → after ≡ before ++ line_of (first + index) own → before ++ text_of (numbers (first + index) (count - index)) rest ≡ all
    → after ++ text_of (numbers (first + (index + 1)) (count - (index + 1))) others ≡ all
one_line first index count before after all rest own others there is behind grown it =
    let text = λ (ls : List ℕ). text_of (numbers (first + (index + 1)) (count - (index + 1))) ls in
    ap (λ (ls : List ℕ). ls ++ text others) grown
    ∙ append_assoc before (line_of (first + index) own) (text others)
    ∙ ap (λ (ls : List ℕ). before ++ (line_of (first + index) ls ++ text others)) is
    ∙ ap (λ (ls : List ℕ). before ++ (line_of (first + index) (take code_letters rest) ++ text ls)) behind
    ∙ ap (λ (ls : List ℕ). before ++ ls) (sym (lines_next first index count rest there))
    ∙ it

-- all the lines were written
pub all_lines : (first index count : ℕ) (text all rest : List ℕ) → count ≤ index → text ++ text_of (numbers (first + index) (count - index)) rest ≡ all → text ≡ all
all_lines first index count text all rest done it =
    sym (append-nil text) ∙ ap (λ (ls : List ℕ). text ++ ls) (sym (lines_end first index count rest done)) ∙ it

-- the pieces of a line, one after another
pub joined : (text front a hyphen b c end : List ℕ) → ((((((text ++ front) ++ a) ++ hyphen) ++ b) ++ hyphen) ++ c) ++ end ≡ text ++ ((((((front ++ a) ++ hyphen) ++ b) ++ hyphen) ++ c) ++ end)
joined text front a hyphen b c end = simp append_assoc refl

-- the same holds for the office's code, and for its line
pub groups_joined : (text a hyphen b c d : List ℕ)
    → ((((((text ++ a) ++ hyphen) ++ b) ++ hyphen) ++ c) ++ hyphen) ++ d ≡ text ++ ((((((a ++ hyphen) ++ b) ++ hyphen) ++ c) ++ hyphen) ++ d)
groups_joined text a hyphen b c d = simp append_assoc refl

pub line_joined : (text name blank code end : List ℕ) → (((text ++ name) ++ blank) ++ code) ++ end ≡ text ++ (((name ++ blank) ++ code) ++ end)
line_joined text name blank code end = simp append_assoc refl

-- ---- clerks of entries

pub same_number : (m n : ℕ) → (m == n) ≡ true → m ≡ n
same_number m n is = grind (arith, nat_tests)

from_below : (next end : ℕ) (entries : List CodeEntry) → are_from next end entries ≡ true → next ≤ end
from_below next end [] is = let same : next ≡ end = same_number next end is in omega (arith, same)
from_below next end (e ∷ entries) is =
    let parts = and_parts (e.clerk == next) (are_from (next + 1) end entries) is in
    let later : next + 1 ≤ end = from_below (next + 1) end entries parts.1 in
    omega (arith, later)

-- the entries are for consecutive clerks from the first number up to, but not including, the second
pub from_numbers : (next end : ℕ) (entries : List CodeEntry) → are_from next end entries ≡ true → map (λ (e : CodeEntry). e.clerk) entries ≡ numbers next (end - next)
from_numbers next end [] is =
    let same : next ≡ end = same_number next end is in
    let none : 0 ≡ end - next = omega (arith, same) in
    ap (numbers next) none
from_numbers next end (e ∷ entries) is =
    let parts = and_parts (e.clerk == next) (are_from (next + 1) end entries) is in
    let later : next + 1 ≤ end = from_below (next + 1) end entries parts.1 in
    let some : 0 < end - next = omega (arith, later) in
    let fewer : end - (next + 1) ≡ end - next - 1 = omega arith in
    ap (λ (ns : List ℕ). e.clerk ∷ ns) (from_numbers (next + 1) end entries parts.1)
    ∙ ap (λ n. n ∷ numbers (next + 1) (end - (next + 1))) (same_number e.clerk next parts.0)
    ∙ ap (λ n. next ∷ numbers (next + 1) n) fewer
    ∙ sym (numbers_first next (end - next) some)
