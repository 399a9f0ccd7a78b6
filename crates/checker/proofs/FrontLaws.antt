-- Everything before the names reads back: the sizes, the withdrawn candidates, and the papers.
use Rattle.std.proofs.Common.{◌≡◌, ◌∙◌, ℕ, ◌+◌, ◌≤◌, List, [], ◌∷◌, ◌++◌, Bool, false, length, map, refl, sym, ap, subst, arith, append_assoc, append-nil, length-append, Ok}
use Rattle.std.specs.Prelude.{codes, replicate}
use Rattle.std.specs.Fmt.{decimal}
use Rattle.std.specs.List.{AllByRecursion, flat_map}
use Rattle.std.specs.List.Sorted.{IsStrictlySortedBy}
use Rattle.std.specs.Ordering.{ordering_reverse}
use Rattle.std.specs.declared.cmp.Ordering.TheVariants.{Less, Greater}
use Rattle.std.specs.Cmp.Lexicographic.{nat_list_cmp_total}
use Rattle.std.proofs.lemmas.Bool.{ne_eqb}
use Rattle.std.proofs.lemmas.Grind.{flat_map-append}
use Rattle.std.proofs.lemmas.List.{length-replicate, take_at}
use Rattle.paper.specs.Columns.{IsCandidateSet, max_candidates}
use Rattle.paper.proofs.ColumnSets.{with_column-last}
use Rattle.votes.specs.Units.{max_papers, max_seats}
use Rattle.count.specs.Bundles.{Bundle, list_cmp, papers_of, with_papers}
use Rattle.count.proofs.ColumnLemmas.{columns-take}
use Rattle.sheet.specs.Ballots.{bundle_line, end_line, withdrawn_line, withdrawn_number}
use Rattle.sheet.specs.Lines.{line}
use Rattle.checker.specs.BallotsComments.{Remarks}
use Rattle.checker.specs.Outcomes.{and_then}
use Rattle.checker.specs.Papers.{with_size, with_withdrawn, withdrawn_from}
use Rattle.checker.specs.Tokens.{Text}
use Rattle.checker.specs.Reading.{Named, nothing_told, with_size_line, with_withdrawn_line}
use Rattle.checker.specs.declared.file_content.NextLine.TheVariants as place
use Rattle.checker.proofs.LineLaws.{AreFigures, IsFigures, Reads, and_both, is_figure, line_numbers, reads-nothing, reads-then, spaced}
use Rattle.checker.proofs.NumberLaws.{candidate_back, decimal_figures, number_back}
use Rattle.checker.proofs.PaperLaws.{CanStand, among_papers, bundle_reads, number_line, papers_at, state, told}

-- ---- bundles in order

abbrev lists_of : List Bundle → List (List ℕ)
lists_of bundles = map (λ (b : Bundle). b.0) bundles

there : (P : List ℕ → Type 0) (before : List Bundle) (b : Bundle) (bs : List Bundle) → AllByRecursion P (lists_of (before ++ b ∷ bs)) → P b.0
there P [] b bs all = all.0
there P (x ∷ before) b bs all = there P before b bs all.1

below_of : (before : List Bundle) (b : Bundle) (bs : List Bundle) → IsStrictlySortedBy list_cmp (lists_of (before ++ b ∷ bs)) → AllByRecursion (λ (x : Bundle). list_cmp x.0 b.0 ≡ Less) before
unfolding IsStrictlySortedBy
below_of [] b bs rise = tt
below_of (x ∷ before) b bs rise = (there (λ y. list_cmp x.0 y ≡ Less) before b bs rise.0, below_of before b bs rise.1)

with_last : (before : List Bundle) (list : List ℕ) (n : ℕ) → AllByRecursion (λ (x : Bundle). list_cmp x.0 list ≡ Less) before → with_papers before list n ≡ before ++ (list, n) ∷ []
with_last [] list n below = refl
with_last (x ∷ before) list n below =
    let above : list_cmp list x.0 ≡ Greater = nat_list_cmp_total.antisymm list x.0 ∙ ap ordering_reverse below.0 in
    rw above (ap (λ l. x ∷ l) (with_last before list n below.1))

papers_more : (before : List Bundle) (b : Bundle) → length (papers_of (before ++ b ∷ [])) ≡ length (papers_of before) + b.1
papers_more before b =
    ap length (flat_map-append (λ (x : Bundle). replicate x.1 x.0) before (b ∷ []) ∙ ap (λ l. papers_of before ++ l) (append-nil (replicate b.1 b.0)))
    ∙ (length-append (papers_of before) (replicate b.1 b.0) ∙ ap (λ n. length (papers_of before) + n) (length-replicate b.1 b.0))

papers_next : (b : Bundle) (bs : List Bundle) → length (papers_of (b ∷ bs)) ≡ b.1 + length (papers_of bs)
papers_next b bs = length-append (replicate b.1 b.0) (papers_of bs) ∙ ap (λ n. n + length (papers_of bs)) (length-replicate b.1 b.0)

zero_figures : IsFigures (codes "0")
zero_figures = record { all = refl; some = omega arith }

end_reads : (first : Bool) (h s : ℕ) (w : List ℕ) (bs : List Bundle) (names : Named) (remarks : Remarks) →
    Reads (state (papers_at first) (told h s w bs) names remarks) end_line (state place.CandidateNames (told h s w bs) names remarks)
unfolding line
end_reads first h s w bs names remarks =
    let here = state (papers_at first) (told h s w bs) names remarks in
    number_line here (state place.CandidateNames (told h s w bs) names remarks) (codes "0") [] zero_figures tt (among_papers first here (codes "0") (codes "0" ∷ []) refl refl)

pub bundles_read : (first : Bool) (h s : ℕ) (w : List ℕ) (before bs : List Bundle) (names : Named) (remarks : Remarks) → h ≤ 30 → IsStrictlySortedBy list_cmp (lists_of (before ++ bs))
    → AllByRecursion (λ (b : Bundle). CanStand h w b.0 b.1) bs → length (papers_of before) + length (papers_of bs) ≤ max_papers
    → Reads (state (papers_at first) (told h s w before) names remarks) (flat_map bundle_line bs ++ end_line) (state place.CandidateNames (told h s w (before ++ bs)) names remarks)
bundles_read first h s w before [] names remarks bound rise can few =
    subst (λ l. Reads (state (papers_at first) (told h s w before) names remarks) end_line (state place.CandidateNames (told h s w l) names remarks))
    (sym (append-nil before)) (end_reads first h s w before names remarks)
bundles_read first h s w before (b ∷ bs) names remarks bound rise can few =
    let here = state (papers_at first) (told h s w before) names remarks in
    let end = state place.CandidateNames (told h s w (before ++ b ∷ bs)) names remarks in
    let room : length (papers_of before) + b.1 ≤ max_papers = omega (arith, few, papers_next b bs) in
    let more : length (papers_of (before ++ b ∷ [])) + length (papers_of bs) ≤ max_papers = omega (arith, few, papers_next b bs, papers_more before b) in
    let last : with_papers before b.0 b.1 ≡ before ++ b ∷ [] = with_last before b.0 b.1 (below_of before b bs rise) in
    let one = subst (λ l. Reads here (bundle_line b) (state place.PaperTotals (told h s w l) names remarks)) last (bundle_reads first h s w before names remarks b.0 b.1 bound can.0 room) in
    let joined = append_assoc before (b ∷ []) bs in
    let others = bundles_read false h s w (before ++ b ∷ []) bs names remarks bound (subst (λ l. IsStrictlySortedBy list_cmp (lists_of l)) (sym joined) rise) can.1 more in
    let all = reads-then here (bundle_line b) (state place.PaperTotals (told h s w (before ++ b ∷ [])) names remarks) (flat_map bundle_line bs ++ end_line)
    (state place.CandidateNames (told h s w ((before ++ b ∷ []) ++ bs)) names remarks) one others in
    subst (λ l. Reads here ((bundle_line b ++ flat_map bundle_line bs) ++ end_line) (state place.CandidateNames (told h s w l) names remarks)) joined
    (subst (λ t. Reads here t (state place.CandidateNames (told h s w ((before ++ b ∷ []) ++ bs)) names remarks)) (sym (append_assoc (bundle_line b) (flat_map bundle_line bs) end_line)) all)

-- ---- the sizes

pub size_reads : (h s : ℕ) → h ≤ 30 → 1 ≤ s → s ≤ max_seats
    → Reads nothing_told (line (decimal h ∷ codes " " ∷ decimal s ∷ [])) (state place.Withdrawn (told h s [] []) nothing_told.names nothing_told.remarks)
unfolding line
size_reads h s bound some few =
    let words = line_numbers (decimal h) (decimal s ∷ []) (decimal_figures h (omega arith)) (decimal_figures s (omega (arith, few)), tt) in
    let read : with_size nothing_told.papers (decimal h ∷ decimal s ∷ []) ≡ Ok (told h s [] []) =
    rw (number_back max_candidates h (omega arith) bound, number_back max_seats s (omega (arith, few)) few, ne_eqb s 0 (λ e. omega (arith, e))) refl in
    number_line nothing_told (state place.Withdrawn (told h s [] []) nothing_told.names nothing_told.remarks) (decimal h) (decimal s ∷ [])
    (decimal_figures h (omega arith)) (decimal_figures s (omega (arith, few)), tt)
    (ap (λ told. and_then told (with_size_line nothing_told)) words ∙ rw read refl)

-- ---- the withdrawn candidates

abbrev minus_word : ℕ → Text
minus_word c = 45 ∷ decimal c

withdrawn_back : (h : ℕ) (before cs : List ℕ) → h ≤ 30 → IsCandidateSet (before ++ cs) → AllByRecursion (λ c. (1 ≤ c) × (c ≤ h)) cs → withdrawn_from h before (map minus_word cs) ≡ Ok (before ++ cs)
withdrawn_back h before [] bound set low = ap Ok (sym (append-nil before))
withdrawn_back h before (c ∷ cs) bound set low =
    let joined = append_assoc before (c ∷ []) cs in
    let whole = subst IsCandidateSet (sym joined) set in
    let front = subst IsCandidateSet (take_at (before ++ c ∷ []) cs (length (before ++ c ∷ [])) refl) (columns-take (length (before ++ c ∷ [])) ((before ++ c ∷ []) ++ cs) whole) in
    rw (candidate_back h c low.0.0 low.0.1 bound, with_column-last before c front) (withdrawn_back h (before ++ c ∷ []) cs bound whole low.1 ∙ ap Ok joined)

minus_figures : (c : ℕ) → c ≤ 30 → IsFigures (minus_word c)
minus_figures c few = record { all = and_both (is_figure 45) _ refl (decimal_figures c (omega arith)).all; some = omega arith }

minuses_figures : (h : ℕ) (cs : List ℕ) → h ≤ 30 → AllByRecursion (λ c. (1 ≤ c) × (c ≤ h)) cs → AreFigures (map minus_word cs)
minuses_figures h [] bound low = tt
minuses_figures h (c ∷ cs) bound low = (minus_figures c (omega (arith, low.0.1)), minuses_figures h cs bound low.1)

minus_text : (cs : List ℕ) → flat_map (withdrawn_number false) cs ++ [] ≡ spaced (map minus_word cs)
minus_text [] = refl
minus_text (c ∷ cs) = append_assoc (32 ∷ minus_word c) (flat_map (withdrawn_number false) cs) [] ∙ ap (λ t. (32 ∷ minus_word c) ++ t) (minus_text cs)

pub withdrawn_reads : (h s : ℕ) (cs : List ℕ) (names : Named) (remarks : Remarks) → h ≤ 30 → IsCandidateSet cs → AllByRecursion (λ c. (1 ≤ c) × (c ≤ h)) cs
    → Reads (state place.Withdrawn (told h s [] []) names remarks) (withdrawn_line cs) (state place.Withdrawn (told h s cs []) names remarks)
unfolding line
withdrawn_reads h s [] names remarks bound set low = reads-nothing (state place.Withdrawn (told h s [] []) names remarks)
withdrawn_reads h s (c ∷ cs) names remarks bound set low =
    let here = state place.Withdrawn (told h s [] []) names remarks in
    let end = state place.Withdrawn (told h s (c ∷ cs) []) names remarks in
    let first = minus_figures c (omega (arith, low.0.1)) in
    let others = minuses_figures h cs bound low.1 in
    let words = line_numbers (minus_word c) (map minus_word cs) first others in
    let read : with_withdrawn (told h s [] []) (map minus_word (c ∷ cs)) ≡ Ok (told h s (c ∷ cs) []) = rw (withdrawn_back h [] (c ∷ cs) bound set low) refl in
    subst (λ t. Reads here ((minus_word c ++ t) ++ 10 ∷ []) end) (sym (minus_text cs))
    (number_line here end (minus_word c) (map minus_word cs) first others (ap (λ told. and_then told (with_withdrawn_line here)) words ∙ rw read refl))
