-- The lines of papers read back.
use Rattle.std.proofs.Common.{◌≡◌, ◌∙◌, ℕ, ◌+◌, ◌%◌, ◌^◌, ◌<◌, ◌≤◌, nat_eq, Bool, true, false, List, [], ◌∷◌, ◌++◌, length, map, refl, sym, ap, subst, arith, append_assoc, append-nil, Ok}
use Rattle.std.specs.Prelude.{◌==◌, codes}
use Rattle.std.specs.Fmt.{decimal}
use Rattle.std.specs.List.{AllByRecursion, list_any}
use Rattle.std.proofs.lemmas.Bool.{eq-eqb, false≢true, le-leb, ne_eqb}
use Rattle.std.proofs.lemmas.Fmt.{decimal_by_steps}
use Rattle.std.proofs.lemmas.List.Folds.{list_any-append}
use Rattle.paper.specs.Ranking.{IsRanking}
use Rattle.votes.specs.Units.{max_papers}
use Rattle.count.specs.Bundles.{Bundle, papers_of, with_papers}
use Rattle.sheet.specs.Ballots.{bundle_line}
use Rattle.sheet.specs.Lines.{line, preferences}
use Rattle.checker.specs.BallotsComments.{Remarks}
use Rattle.checker.specs.Papers.{PapersEntry, papers_in, with_bundle, with_list}
use Rattle.checker.specs.Tokens.{Text}
use Rattle.checker.specs.Ranks.{named_from, without}
use Rattle.checker.specs.Reading.{Named, ReaderEntry, begins_with_minus, is_withdrawn_line, with_content_at, with_line_of, with_papers_line, words_before_comment}
use Rattle.checker.specs.declared.ranks.NextWord.TheVariants.{Preference}
use Rattle.checker.specs.declared.file_content.NextLine.{NextLine}
use Rattle.checker.specs.declared.file_content.NextLine.TheVariants as place
use Rattle.checker.proofs.LineLaws.{AreFigures, IsFigures, Reads, line_content, line_numbers, line_unended, or_both, or_none, reads-line, spaced}
use Rattle.checker.proofs.NumberLaws.{candidate_back, decimal_alone, decimal_figures, decimal_nonzero, number_back}

-- ---- the position in a file

abbrev pub state : NextLine → PapersEntry → Named → Remarks → ReaderEntry
state place papers names remarks = record { place = place; papers = papers; names = names; remarks = remarks }

abbrev pub told : ℕ → ℕ → List ℕ → List Bundle → PapersEntry
told highest seats withdrawn bundles = record { highest = highest; seats = seats; withdrawn = withdrawn; bundles = bundles }

-- a line of numbers
pub number_line : (here there : ReaderEntry) (w : Text) (ws : List Text) → IsFigures w → AreFigures ws → with_content_at here.place here (w ++ spaced ws) ≡ Ok there →
    Reads here ((w ++ spaced ws) ++ 10 ∷ []) there
number_line here there w ws is are content =
    reads-line here (w ++ spaced ws) there (line_unended w ws is are) (ap (λ kind. with_line_of kind here (w ++ spaced ws)) (line_content w (spaced ws) is) ∙ content)

-- ---- the preferences of a line

abbrev pub Standing : List ℕ → List ℕ → Type 0
Standing withdrawn list = AllByRecursion (λ c. list_any (nat_eq c) withdrawn ≡ false) list

abbrev Apart : List ℕ → List ℕ → Type 0
Apart before list = AllByRecursion (λ c. list_any (λ d. d == c) before ≡ false) list

apart_more : (before : List ℕ) (x : ℕ) (list : List ℕ) → Apart before list → list_any (λ y. y == x) list ≡ false → Apart (before ++ x ∷ []) list
apart_more before x [] apart none = tt
apart_more before x (c ∷ list) apart none = (
  list_any-append (λ d. d == c) before (x ∷ []) ∙ or_both _ _ apart.0 (or_both _ _ (ne_eqb x c (λ e. differ (sym e))) refl),
  apart_more before x list apart.1 (parts.1),
)
  where
    parts : ((c == x) ≡ false) × (list_any (λ y. y == x) list ≡ false)
    parts = or_none (c == x) (list_any (λ y. y == x) list) none

    differ : c ≡ x → ⊥
    differ e = absurd (false≢true (sym parts.0 ∙ eq-eqb c x e))

-- the words for the given preferences, followed by 0
abbrev pub rank_words : List ℕ → List Text
rank_words list = map decimal list ++ codes "0" ∷ []

named_back : (highest : ℕ) (withdrawn before list : List ℕ) → highest ≤ 30 → IsRanking list → AllByRecursion (λ c. c ≤ highest) list → Standing withdrawn list → Apart before list
    → named_from highest withdrawn (record { named = before; next = Preference }) (rank_words list) ≡ Ok (before ++ list)
named_back highest withdrawn before [] bound rank low standing apart = ap Ok (sym (append-nil before))
named_back highest withdrawn before (c ∷ list) bound rank low standing apart =
    let small : c < 2 ^ 64 = omega (arith, low.0) in
    rw (decimal_nonzero c rank.0 small, decimal_alone c small, candidate_back highest c rank.0 low.0 bound, standing.0, candidate_back highest c rank.0 low.0 bound, apart.0)
    (named_back highest withdrawn (before ++ c ∷ []) list bound rank.3 low.1 standing.1 (apart_more before c list apart.1 rank.2) ∙ ap Ok (append_assoc before (c ∷ []) list))

none_before : (list : List ℕ) → Apart [] list
none_before [] = tt
none_before (c ∷ list) = (refl, none_before list)

all_stand : (withdrawn list : List ℕ) → Standing withdrawn list → without withdrawn list ≡ list
all_stand withdrawn [] standing = refl
all_stand withdrawn (c ∷ list) standing = rw standing.0 (ap (λ l. c ∷ l) (all_stand withdrawn list standing.1))

-- ---- a line of papers

rank_figures : (highest : ℕ) (list : List ℕ) → highest ≤ 30 → AllByRecursion (λ c. c ≤ highest) list → AreFigures (rank_words list)
rank_figures highest [] bound low = (record { all = refl; some = omega arith }, tt)
rank_figures highest (c ∷ list) bound low = (decimal_figures c (omega (arith, low.0)), rank_figures highest list bound low.1)

ranks_text : (list : List ℕ) → preferences list ++ codes " 0" ≡ spaced (rank_words list)
ranks_text [] = refl
ranks_text (c ∷ list) = append_assoc (32 ∷ decimal c) (preferences list) (codes " 0") ∙ ap (λ t. (32 ∷ decimal c) ++ t) (ranks_text list)

bundle_text : (list : List ℕ) (n : ℕ) → bundle_line (list, n) ≡ (decimal n ++ spaced (rank_words list)) ++ 10 ∷ []
unfolding line
bundle_text list n = ap (λ t. (decimal n ++ t) ++ 10 ∷ []) (ranks_text list)

unminus : (n : ℕ) → n < 2 ^ 64 → begins_with_minus (decimal n) ≡ false
unminus n small = (decimal_by_steps (λ n ds. (begins_with_minus ds ≡ false) × (0 < length ds)) one more n small).0
  where
    one : (n : ℕ) → n < 10 → (begins_with_minus ((48 + n) ∷ []) ≡ false) × (0 < length ((48 + n) ∷ []))
    one n low = (ne_eqb (48 + n) 45 (λ e. omega (arith, e)), omega arith)

    longer : (ds : Text) (d : ℕ) → begins_with_minus ds ≡ false → 0 < length ds → (begins_with_minus (ds ++ d ∷ []) ≡ false) × (0 < length (ds ++ d ∷ []))
    longer [] d h some = absurd (omega arith)
    longer (x ∷ ds) d h some = (h, omega arith)

    more : (n : ℕ) (ds : Text) → 10 ≤ n → (begins_with_minus ds ≡ false) × (0 < length ds) → (begins_with_minus (ds ++ (48 + n % 10) ∷ []) ≡ false) × (0 < length (ds ++ (48 + n % 10) ∷ []))
    more n ds high is = longer ds (48 + n % 10) is.0 is.1

-- before all papers, or among the papers
abbrev pub papers_at : Bool → NextLine
papers_at true = place.Withdrawn
papers_at false = place.PaperTotals

pub among_papers : (first : Bool) (here : ReaderEntry) (text : Text) (words : List Text) → words_before_comment text ≡ Ok words → is_withdrawn_line words ≡ false →
    with_content_at (papers_at first) here text ≡ with_papers_line here words
among_papers true here text words are none = rw (are, none) refl
among_papers false here text words are none = rw are refl

-- papers with the same list of preferences, as a file may contain them
pub record CanStand (highest : ℕ) (withdrawn : List ℕ) (list : List ℕ) (n : ℕ) : Type 0 where
  pub some : 1 ≤ n
  pub few : n ≤ max_papers
  pub listed : 1 ≤ length list
  pub ranking : IsRanking list
  pub low : AllByRecursion (λ c. c ≤ highest) list
  pub standing : Standing withdrawn list

list_told : (h s : ℕ) (w : List ℕ) (bs : List Bundle) (n : ℕ) (list : List ℕ) → 1 ≤ length list → length (papers_of bs) + n ≤ max_papers →
    with_list (told h s w bs) n list ≡ Ok (told h s w (with_papers bs list n))
list_told h s w bs n [] listed few = absurd (omega arith)
list_told h s w bs n (c ∷ list) listed few = rw (le-leb (length (papers_of bs) + n) max_papers few) refl

papers_back : (n : ℕ) → 1 ≤ n → n ≤ max_papers → papers_in (decimal n) ≡ Ok n
papers_back n some few = rw (number_back max_papers n (omega (arith, few)) few, ne_eqb n 0 (λ e. omega (arith, e))) refl

words_told : (h s : ℕ) (w : List ℕ) (bs : List Bundle) (list : List ℕ) (n : ℕ) → h ≤ 30 → CanStand h w list n → length (papers_of bs) + n ≤ max_papers
    → with_bundle (told h s w bs) (decimal n ∷ rank_words list) ≡ Ok (told h s w (with_papers bs list n))
words_told h s w bs list n bound can few =
    rw (papers_back n can.some can.few, named_back h w [] list bound can.ranking can.low can.standing (none_before list), all_stand w list can.standing) (list_told h s w bs n list can.listed few)

bundle_words : (here : ReaderEntry) (n : ℕ) (list : List ℕ) (papers : PapersEntry) → 1 ≤ length list → with_bundle here.papers (decimal n ∷ rank_words list) ≡ Ok papers
    → with_papers_line here (decimal n ∷ rank_words list) ≡ Ok (state place.PaperTotals papers here.names here.remarks)
bundle_words here n [] papers listed is = absurd (omega arith)
bundle_words here n (c ∷ list) papers listed is = rw is refl

pub bundle_reads : (first : Bool) (h s : ℕ) (w : List ℕ) (bs : List Bundle) (names : Named) (remarks : Remarks) (list : List ℕ) (n : ℕ) → h ≤ 30 → CanStand h w list n →
    length (papers_of bs) + n ≤ max_papers
    → Reads (state (papers_at first) (told h s w bs) names remarks) (bundle_line (list, n)) (state place.PaperTotals (told h s w (with_papers bs list n)) names remarks)
bundle_reads first h s w bs names remarks list n bound can few =
    let here = state (papers_at first) (told h s w bs) names remarks in
    let small : n < 2 ^ 64 = omega (arith, can.few) in
    let figures = rank_figures h list bound can.low in
    let words = line_numbers (decimal n) (rank_words list) (decimal_figures n small) figures in
    let unminused : is_withdrawn_line (decimal n ∷ rank_words list) ≡ false = unminus n small in
    subst (λ t. Reads here t (state place.PaperTotals (told h s w (with_papers bs list n)) names remarks)) (sym (bundle_text list n))
    (number_line here _ (decimal n) (rank_words list) (decimal_figures n small) figures
    (among_papers first here (decimal n ++ spaced (rank_words list)) (decimal n ∷ rank_words list) words unminused
    ∙ bundle_words here n list _ can.listed (words_told h s w bs list n bound can few)))
