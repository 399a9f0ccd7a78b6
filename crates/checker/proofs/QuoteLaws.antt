-- The names read back.
use Rattle.std.proofs.Common.{◌≡◌, ◌∙◌, ℕ, zero, suc, ◌+◌, ◌<◌, ◌≤◌, ◌||◌, List, [], ◌∷◌, ◌++◌, Bool, true, false, length, map, refl, sym, ap, subst, arith, append_assoc, append-nil}
use Rattle.std.proofs.Common.{length-append, Ok, Some}
use Rattle.std.specs.Prelude.{◌==◌, codes, fold, if◌then◌else◌, Option, option_map}
use Rattle.std.specs.List.{AllByRecursion, find, flat_map, list_any, range_with_len}
use Rattle.std.proofs.lemmas.Bool.{le-ltb, lt-ltb}
use Rattle.std.proofs.lemmas.List.Folds.{list_any-append}
use Rattle.sheet.specs.Ballots.{name_at, name_line, name_or_withdrawn}
use Rattle.sheet.specs.Lines.{escaped, line, quoted}
use Rattle.checker.specs.BallotsComments.{Remarks}
use Rattle.checker.specs.Names.{Quoting, max_name, name_in, with_byte}
use Rattle.checker.specs.Papers.{PapersEntry}
use Rattle.checker.specs.Tokens.{Text}
use Rattle.checker.specs.BallotsRoundTrip.{IsName}
use Rattle.checker.specs.Reading.{Named, with_name}
use Rattle.checker.specs.declared.names.Within.TheVariants.{Inside}
use Rattle.checker.specs.declared.file_content.NextLine.TheVariants as place
use Rattle.checker.proofs.NameLemmas.{ascii_text}
use Rattle.checker.proofs.LineLaws.{Reads, or_both, or_none, reads-line, reads-nothing, reads-then}
use Rattle.checker.proofs.PaperLaws.{state}

-- ---- quotation marks

abbrev inside : Text → Quoting
inside name = record { name = name; comment = []; within = Inside }

byte_inside : (mark stroke : Bool) (b : ℕ) (acc rest : Text) → (b == 34) ≡ mark → (b == 92) ≡ stroke
    → fold with_byte (inside acc) ((if mark || stroke then 92 ∷ b ∷ [] else b ∷ []) ++ rest) ≡ fold with_byte (inside (acc ++ b ∷ [])) rest
byte_inside true stroke b acc rest is other = rw is refl
byte_inside false true b acc rest is other = rw (is, other) refl
byte_inside false false b acc rest is other = rw (is, other) refl

name_inside : (acc name rest : Text) → fold with_byte (inside acc) (flat_map escaped name ++ rest) ≡ fold with_byte (inside (acc ++ name)) rest
name_inside acc [] rest = ap (λ n. fold with_byte (inside n) rest) (sym (append-nil acc))
name_inside acc (b ∷ name) rest =
    ap (fold with_byte (inside acc)) (append_assoc (escaped b) (flat_map escaped name) rest)
    ∙ (byte_inside (b == 34) (b == 92) b acc (flat_map escaped name ++ rest) refl refl
    ∙ (name_inside (acc ++ b ∷ []) name rest ∙ ap (λ n. fold with_byte (inside n) rest) (append_assoc acc (b ∷ []) name)))

-- a quoted name reads back
pub name_back : (name : Text) → IsName name → name_in (quoted name) ≡ Ok name
name_back name is = rw (name_inside [] name (34 ∷ []), le-ltb max_name (length name) is.short, is.text) refl

escaped_unended : (mark : Bool) (b : ℕ) → (b == 10) ≡ false → list_any (λ x. x == 10) (if mark then 92 ∷ b ∷ [] else b ∷ []) ≡ false
escaped_unended true b none = or_both (b == 10) _ none refl
escaped_unended false b none = or_both (b == 10) _ none refl

inner_unended : (name : Text) → list_any (λ b. b == 10) name ≡ false → list_any (λ b. b == 10) (flat_map escaped name) ≡ false
inner_unended [] none = refl
inner_unended (b ∷ name) none =
    let part = or_none (b == 10) (list_any (λ x. x == 10) name) none in
    list_any-append (λ x. x == 10) (escaped b) (flat_map escaped name) ∙ or_both _ _ (escaped_unended ((b == 34) || (b == 92)) b part.0) (inner_unended name part.1)

quoted_unended : (name : Text) → list_any (λ b. b == 10) name ≡ false → list_any (λ b. b == 10) (quoted name) ≡ false
quoted_unended name none = list_any-append (λ x. x == 10) (34 ∷ flat_map escaped name) (34 ∷ []) ∙ or_both _ _ (inner_unended name none) refl

-- ---- the line of a name

name_reads : (papers : PapersEntry) (names : Named) (remarks : Remarks) (name : Text) → IsName name
    → Reads (state place.CandidateNames papers names remarks) (line (quoted name ∷ [])) (with_name (state place.CandidateNames papers names remarks) name)
unfolding line
name_reads papers names remarks name is =
    let here = state place.CandidateNames papers names remarks in
    let end = with_name here name in
    let body = append-nil (quoted name) in
    subst (λ t. Reads here (t ++ 10 ∷ []) end) (sym body)
    (reads-line here (quoted name) end (quoted_unended name is.unended) (rw (name_back name is) refl))

-- ---- the names for all numbers

module _ (candidates : List (ℕ × Text)) where
  abbrev pub name_of : ℕ → Text
  name_of c = name_or_withdrawn (name_at candidates c)

withdrawn_name : IsName (codes "withdrawn")
withdrawn_name = record { short = omega arith; text = ascii_text (codes "withdrawn") refl; unended = refl }

found_name : (b : Bool) (x : ℕ × Text) (others : Option (ℕ × Text)) → IsName x.1 → IsName (name_or_withdrawn (option_map (λ (candidate : ℕ × Text). candidate.1) others))
    → IsName (name_or_withdrawn (option_map (λ (candidate : ℕ × Text). candidate.1) (if b then Some x else others)))
found_name true x others here rest = here
found_name false x others here rest = rest

pub is_name : (candidates : List (ℕ × Text)) (c : ℕ) → AllByRecursion (λ (candidate : ℕ × Text). IsName candidate.1) candidates → IsName (name_or_withdrawn (name_at candidates c))
is_name [] c all = withdrawn_name
is_name (x ∷ candidates) c all = found_name (x.0 == c) x (find (λ (candidate : ℕ × Text). candidate.0 == c) candidates) all.0 (is_name candidates c all.1)

pub names_read : (candidates : List (ℕ × Text)) (papers : PapersEntry) (remarks : Remarks) (ward : Text) (before : List Text) (k n : ℕ) →
    AllByRecursion (λ (candidate : ℕ × Text). IsName candidate.1) candidates → length before + n ≤ papers.highest
    → Reads (state place.CandidateNames papers (record { names = before; ward = ward }) remarks) (flat_map (name_line candidates) (range_with_len k n))
    (state place.CandidateNames papers (record { names = before ++ map (name_of candidates) (range_with_len k n); ward = ward }) remarks)
names_read candidates papers remarks ward before k zero all few =
    subst (λ l. Reads (state place.CandidateNames papers (record { names = before; ward = ward }) remarks) [] (state place.CandidateNames papers (record { names = l; ward = ward }) remarks))
    (sym (append-nil before))
    (reads-nothing (state place.CandidateNames papers (record { names = before; ward = ward }) remarks))
names_read candidates papers remarks ward before k (suc n) all few =
    let name = name_of candidates k in
    let here = state place.CandidateNames papers (record { names = before; ward = ward }) remarks in
    let mid = state place.CandidateNames papers (record { names = before ++ name ∷ []; ward = ward }) remarks in
    let end = state place.CandidateNames papers (record { names = (before ++ name ∷ []) ++ map (name_of candidates) (range_with_len (k + 1) n); ward = ward }) remarks in
    let room : length before < papers.highest = omega arith in
    let pushed : with_name here name ≡ mid = rw (lt-ltb (length before) papers.highest room) refl in
    let one = subst (Reads here (name_line candidates k)) pushed (name_reads papers (record { names = before; ward = ward }) remarks name (is_name candidates k all)) in
    let more : length (before ++ name ∷ []) + n ≤ papers.highest = omega (arith, length-append before (name ∷ [])) in
    let others = names_read candidates papers remarks ward (before ++ name ∷ []) (k + 1) n all more in
    subst (λ l. Reads here (name_line candidates k ++ flat_map (name_line candidates) (range_with_len (k + 1) n)) (state place.CandidateNames papers (record { names = l; ward = ward }) remarks))
    (append_assoc before (name ∷ []) (map (name_of candidates) (range_with_len (k + 1) n)))
    (reads-then here (name_line candidates k) mid (flat_map (name_line candidates) (range_with_len (k + 1) n)) end one others)

-- the ward's name follows the candidates' names
pub ward_name_reads : (papers : PapersEntry) (remarks : Remarks) (names : List Text) (name : Text) → IsName name → papers.highest ≤ length names
    → Reads (state place.CandidateNames papers (record { names = names; ward = [] }) remarks) (line (quoted name ∷ [])) (state place.End papers (record { names = names; ward = name }) remarks)
ward_name_reads papers remarks names name is all =
    let here = state place.CandidateNames papers (record { names = names; ward = [] }) remarks in
    let last : with_name here name ≡ state place.End papers (record { names = names; ward = name }) remarks = rw (le-ltb (length names) papers.highest all) refl in
    subst (Reads here (line (quoted name ∷ []))) last (name_reads papers (record { names = names; ward = [] }) remarks name is)
