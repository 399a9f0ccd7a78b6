-- Our own comments, read back.
use Rattle.std.proofs.Common.{◌≡◌, ◌∙◌, ℕ, ◌^◌, ◌<◌, ◌≤◌, List, [], ◌∷◌, ◌++◌, true, false, length, refl, sym, ap, subst, arith, append_assoc, append-nil, Ok, Some, None}
use Rattle.std.specs.Prelude.{◌==◌, codes, Option}
use Rattle.std.specs.Fmt.{decimal}
use Rattle.std.specs.List.{AllByRecursion, flat_map, list_any}
use Rattle.std.proofs.lemmas.Bool.{eq-eqb, false≢true, ne_eqb}
use Rattle.std.proofs.lemmas.List.Folds.{list_any-append}
use Rattle.sheet.specs.Ballots.{lot_comment, ward_comment}
use Rattle.sheet.specs.Entries.{SheetEntry}
use Rattle.sheet.specs.Lines.{line}
use Rattle.sheet.specs.Sheet.{rejected_line}
use Rattle.checker.specs.BallotsComments.{Remarks, count_in, is_drawn, rejected_counts_in, small_in, with_comment, with_words}
use Rattle.checker.specs.Papers.{PapersEntry}
use Rattle.checker.specs.Tokens.{Text, kind_of, parts, piece, pieces_of}
use Rattle.checker.specs.BallotsRoundTrip.{AreOnce, AreSmall}
use Rattle.checker.specs.Reading.{Named}
use Rattle.checker.specs.declared.tokens.LineKind.TheVariants.{Comment}
use Rattle.checker.specs.declared.tokens.Separator.TheVariants.{Mark}
use Rattle.checker.specs.declared.file_content.NextLine.TheVariants as place
use Rattle.checker.proofs.LineLaws.{Reads, cut_piece, figure_other, figure_unblank, is_figure, last_piece, none_of, or_both, or_none, reads-line, reads-nothing, reads-then}
use Rattle.checker.proofs.NumberLaws.{decimal_figures, number_back}
use Rattle.checker.proofs.PaperLaws.{state}

-- ---- numbers among the words of a comment

unparted : (n : ℕ) → n < 2 ^ 64 → list_any (parts Mark) (decimal n) ≡ false
unparted n small =
    none_of is_figure (parts Mark) (λ b h. or_both _ _ (figure_unblank b h) (or_both _ _ (figure_other b 58 h (λ l m. omega arith)) (figure_other b 44 h (λ l m. omega arith))))
    (decimal n) (decimal_figures n small).all

unended : (n : ℕ) → n < 2 ^ 64 → list_any (λ b. b == 10) (decimal n) ≡ false
unended n small = none_of is_figure (λ b. b == 10) (λ b h. figure_other b 10 h (λ l m. omega arith)) (decimal n) (decimal_figures n small).all

whole_word : (w : Text) → 0 < length w → piece Mark w ≡ w ∷ []
whole_word [] some = absurd (omega arith)
whole_word (b ∷ w) some = refl

number_ends : (n : ℕ) → n < 2 ^ 64 → pieces_of Mark [] (decimal n) ≡ decimal n ∷ []
number_ends n small = last_piece Mark [] (decimal n) (unparted n small) ∙ whole_word (decimal n) (decimal_figures n small).some

number_then : (n b : ℕ) (rest : Text) → n < 2 ^ 64 → parts Mark b ≡ true → pieces_of Mark [] (decimal n ++ b ∷ rest) ≡ decimal n ∷ pieces_of Mark [] rest
number_then n b rest small parted = cut_piece Mark [] (decimal n) b rest (unparted n small) parted ∙ ap (λ ps. ps ++ pieces_of Mark [] rest) (whole_word (decimal n) (decimal_figures n small).some)

small_back : (n : ℕ) → n ≤ 255 → small_in (decimal n) ≡ Some n
small_back n few = rw (number_back 255 n (omega arith) few) refl

count_back : (n : ℕ) → n ≤ 4294967295 → count_in (decimal n) ≡ Some n
count_back n few = rw (number_back 4294967295 n (omega arith) few) refl

-- a comment
comment_reads : (papers : PapersEntry) (names : Named) (remarks more : Remarks) (body : Text) → kind_of body ≡ Comment → list_any (λ b. b == 10) body ≡ false → with_comment remarks body ≡ Ok more
    → Reads (state place.End papers names remarks) (body ++ 10 ∷ []) (state place.End papers names more)
comment_reads papers names remarks more body kind none read =
    reads-line (state place.End papers names remarks) body (state place.End papers names more) none (rw (kind, read) refl)

-- ---- the number of the ward

ward_words : (n : ℕ) → n ≤ 255 → pieces_of Mark [] (codes "# Ward " ++ decimal n) ≡ codes "#" ∷ codes "Ward" ∷ decimal n ∷ []
ward_words n few = ap (λ ps. codes "#" ∷ codes "Ward" ∷ ps) (number_ends n (omega arith))

pub ward_reads : (papers : PapersEntry) (names : Named) (remarks : Remarks) (ward : SheetEntry) → ward.number ≤ 255 → remarks.ward ≡ None
    → Reads (state place.End papers names remarks) (ward_comment ward) (state place.End papers names (record { ward = Some ward.number; rejected = remarks.rejected; lots = remarks.lots }))
unfolding line
ward_reads papers names remarks ward few first =
    let n = ward.number in
    let more : Remarks = record { ward = Some n; rejected = remarks.rejected; lots = remarks.lots } in
    let read : with_comment remarks (codes "# Ward " ++ decimal n) ≡ Ok more = ap (with_words remarks (codes "# Ward " ++ decimal n)) (ward_words n few) ∙ rw (small_back n few, first) refl in
    subst (λ t. Reads (state place.End papers names remarks) ((codes "# Ward " ++ t) ++ 10 ∷ []) (state place.End papers names more)) (sym (append-nil (decimal n)))
    (comment_reads papers names remarks more (codes "# Ward " ++ decimal n) refl (unended n (omega arith)) read)

-- ---- the rejected papers

next_code : (n mark : ℕ) (rest : Text) → n ≤ 4294967295 → parts Mark mark ≡ false →
    pieces_of Mark [] (decimal n ++ (44 ∷ 32 ∷ mark ∷ 58 ∷ 32 ∷ rest)) ≡ decimal n ∷ (mark ∷ []) ∷ pieces_of Mark [] rest
next_code n mark rest few other = number_then n 44 (32 ∷ mark ∷ 58 ∷ 32 ∷ rest) (omega arith) refl ∙ ap (λ ps. decimal n ∷ ps) (rw other refl)

abbrev rejected_text : ℕ → ℕ → ℕ → ℕ → ℕ → Text
rejected_text a b c d e =
    codes "# Rejected 1: " ++ (decimal a ++ (codes ", 2: " ++ (decimal b ++ (codes ", 3: " ++ (decimal c ++ (codes ", 4: " ++ (decimal d ++ (codes ", 5: " ++ (decimal e ++ [])))))))))

abbrev rejected_words : ℕ → ℕ → ℕ → ℕ → ℕ → List Text
rejected_words a b c d e =
    codes "1" ∷ decimal a ∷ codes "2" ∷ decimal b ∷ codes "3" ∷ decimal c ∷ codes "4" ∷ decimal d ∷ codes "5" ∷ decimal e ∷ []

-- the number of papers for each code fits in four bytes
pub record AreCounts (a b c d e : ℕ) : Type 0 where
  pub first : a ≤ 4294967295
  pub second : b ≤ 4294967295
  pub third : c ≤ 4294967295
  pub fourth : d ≤ 4294967295
  pub fifth : e ≤ 4294967295

rejected_pieces : (a b c d e : ℕ) → AreCounts a b c d e → pieces_of Mark [] (rejected_text a b c d e) ≡ codes "#" ∷ codes "Rejected" ∷ rejected_words a b c d e
rejected_pieces a b c d e few =
    ap (λ ps. codes "#" ∷ codes "Rejected" ∷ codes "1" ∷ ps)
    (next_code a 50 _ few.first refl ∙ ap (λ ps. decimal a ∷ codes "2" ∷ ps)
    (next_code b 51 _ few.second refl ∙ ap (λ ps. decimal b ∷ codes "3" ∷ ps)
    (next_code c 52 _ few.third refl ∙ ap (λ ps. decimal c ∷ codes "4" ∷ ps)
    (next_code d 53 _ few.fourth refl ∙ ap (λ ps. decimal d ∷ codes "5" ∷ ps)
    (ap (pieces_of Mark []) (append-nil (decimal e)) ∙ number_ends e (omega (arith, few.fifth)))))))

rejected_back : (a b c d e : ℕ) → AreCounts a b c d e → rejected_counts_in (rejected_words a b c d e) ≡ Some (a ∷ b ∷ c ∷ d ∷ e ∷ [])
rejected_back a b c d e few = rw (count_back a few.first, count_back b few.second, count_back c few.third, count_back d few.fourth, count_back e few.fifth) refl

part_unended : (n : ℕ) (rest : Text) → n ≤ 4294967295 → list_any (λ b. b == 10) rest ≡ false → list_any (λ b. b == 10) (decimal n ++ rest) ≡ false
part_unended n rest few none = list_any-append (λ b. b == 10) (decimal n) rest ∙ or_both _ _ (unended n (omega arith)) none

rejected_unended : (a b c d e : ℕ) → AreCounts a b c d e → list_any (λ x. x == 10) (rejected_text a b c d e) ≡ false
rejected_unended a b c d e few =
    part_unended a _ few.first (part_unended b _ few.second (part_unended c _ few.third (part_unended d _ few.fourth (part_unended e [] few.fifth refl))))

pub rejected_reads : (papers : PapersEntry) (names : Named) (remarks : Remarks) (a b c d e : ℕ) → AreCounts a b c d e → remarks.rejected ≡ None
    → Reads (state place.End papers names remarks) (codes "# " ++ rejected_line (a ∷ b ∷ c ∷ d ∷ e ∷ []))
    (state place.End papers names (record { ward = remarks.ward; rejected = Some (a ∷ b ∷ c ∷ d ∷ e ∷ []); lots = remarks.lots }))
unfolding line
rejected_reads papers names remarks a b c d e few first =
    let more : Remarks = record { ward = remarks.ward; rejected = Some (a ∷ b ∷ c ∷ d ∷ e ∷ []); lots = remarks.lots } in
    let read : with_comment remarks (rejected_text a b c d e) ≡ Ok more = ap (with_words remarks (rejected_text a b c d e)) (rejected_pieces a b c d e few)
    ∙ rw (rejected_back a b c d e few, first) refl in
    comment_reads papers names remarks more (rejected_text a b c d e) refl (rejected_unended a b c d e few) read

-- ---- the lots

abbrev lot_text : ℕ → ℕ → Text
lot_text k c = codes "# Lot at stage " ++ (decimal k ++ (codes ": " ++ (decimal c ++ [])))

lot_pieces : (k c : ℕ) → k ≤ 255 → c ≤ 255 → pieces_of Mark [] (lot_text k c) ≡ codes "#" ∷ codes "Lot" ∷ codes "at" ∷ codes "stage" ∷ decimal k ∷ decimal c ∷ []
lot_pieces k c low small =
    ap (λ ps. codes "#" ∷ codes "Lot" ∷ codes "at" ∷ codes "stage" ∷ ps)
    (number_then k 58 (32 ∷ (decimal c ++ [])) (omega arith) refl ∙ ap (λ ps. decimal k ∷ ps) (ap (pieces_of Mark []) (append-nil (decimal c)) ∙ number_ends c (omega arith)))

lot_reads : (papers : PapersEntry) (names : Named) (remarks : Remarks) (k c : ℕ) → k ≤ 255 → c ≤ 255 → is_drawn k remarks.lots ≡ false
    → Reads (state place.End papers names remarks) (lot_comment (k, c)) (state place.End papers names (record { ward = remarks.ward; rejected = remarks.rejected; lots = remarks.lots ++ (k, c) ∷ [] }))
unfolding line
lot_reads papers names remarks k c low small first =
    let more : Remarks = record { ward = remarks.ward; rejected = remarks.rejected; lots = remarks.lots ++ (k, c) ∷ [] } in
    let read : with_comment remarks (lot_text k c) ≡ Ok more = ap (with_words remarks (lot_text k c)) (lot_pieces k c low small) ∙ rw (small_back k low, small_back c small, first) refl in
    comment_reads papers names remarks more (lot_text k c) refl (part_unended k _ (omega arith) (part_unended c [] (omega arith) refl)) read

abbrev Undrawn : List (ℕ × ℕ) → List (ℕ × ℕ) → Type 0
Undrawn before lots = AllByRecursion (λ (lot : ℕ × ℕ). is_drawn lot.0 before ≡ false) lots

undrawn_more : (before : List (ℕ × ℕ)) (x : ℕ × ℕ) (lots : List (ℕ × ℕ)) → Undrawn before lots → is_drawn x.0 lots ≡ false → Undrawn (before ++ x ∷ []) lots
undrawn_more before x [] all none = tt
undrawn_more before x (lot ∷ lots) all none =
    let parts = or_none (lot.0 == x.0) (is_drawn x.0 lots) none in (
      list_any-append (λ (l : ℕ × ℕ). l.0 == lot.0) before (x ∷ []) ∙ or_both _ _ all.0 (or_both _ _ (ne_eqb x.0 lot.0 (λ e. absurd (false≢true (sym parts.0 ∙ eq-eqb lot.0 x.0 (sym e))))) refl),
      undrawn_more before x lots all.1 parts.1,
    )

none_drawn : (lots : List (ℕ × ℕ)) → Undrawn [] lots
none_drawn [] = tt
none_drawn (lot ∷ lots) = (refl, none_drawn lots)

lots_after : (papers : PapersEntry) (names : Named) (number : Option ℕ) (rejected : Option (List ℕ)) (before lots : List (ℕ × ℕ)) → AreSmall lots → AreOnce lots → Undrawn before lots
    → Reads (state place.End papers names (record { ward = number; rejected = rejected; lots = before })) (flat_map lot_comment lots)
    (state place.End papers names (record { ward = number; rejected = rejected; lots = before ++ lots }))
lots_after papers names number rejected before [] small once all =
    subst (λ l. Reads (state place.End papers names (record { ward = number; rejected = rejected; lots = before })) []
    (state place.End papers names (record { ward = number; rejected = rejected; lots = l }))) (sym (append-nil before))
    (reads-nothing (state place.End papers names (record { ward = number; rejected = rejected; lots = before })))
lots_after papers names number rejected before (lot ∷ lots) small once all =
    let here = state place.End papers names (record { ward = number; rejected = rejected; lots = before }) in
    let mid = state place.End papers names (record { ward = number; rejected = rejected; lots = before ++ lot ∷ [] }) in
    let end = state place.End papers names (record { ward = number; rejected = rejected; lots = (before ++ lot ∷ []) ++ lots }) in
    let one = lot_reads papers names (record { ward = number; rejected = rejected; lots = before }) lot.0 lot.1 small.0.0 small.0.1 all.0 in
    let others = lots_after papers names number rejected (before ++ lot ∷ []) lots small.1 once.1 (undrawn_more before lot lots all.1 once.0) in
    subst (λ l. Reads here (lot_comment lot ++ flat_map lot_comment lots) (state place.End papers names (record { ward = number; rejected = rejected; lots = l })))
    (append_assoc before (lot ∷ []) lots)
    (reads-then here (lot_comment lot) mid (flat_map lot_comment lots) end one others)

pub lots_read : (papers : PapersEntry) (names : Named) (number : Option ℕ) (rejected : Option (List ℕ)) (lots : List (ℕ × ℕ)) → AreSmall lots → AreOnce lots
    → Reads (state place.End papers names (record { ward = number; rejected = rejected; lots = [] })) (flat_map lot_comment lots)
    (state place.End papers names (record { ward = number; rejected = rejected; lots = lots }))
lots_read papers names number rejected lots small once = lots_after papers names number rejected [] lots small once (none_drawn lots)
