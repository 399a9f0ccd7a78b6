-- The ballots of a ward, read back.
use Rattle.std.proofs.Common.{◌≡◌, ◌∙◌, ℕ, zero, suc, ◌+◌, ◌-◌, ◌<◌, ◌≤◌, ◌||◌, nat_eq, Bool, true, false, List, [], ◌∷◌, ◌++◌, length, map, refl, sym, ap, subst, arith, append_assoc}
use Rattle.std.proofs.Common.{append-nil, length-append, Ok, Some, None, is_none}
use Rattle.std.specs.Prelude.{◌==◌, codes, if◌then◌else◌, Option, option_map, replicate, slice_get}
use Rattle.std.specs.Fmt.{decimal}
use Rattle.std.specs.List.{AllByRecursion, filter, find, flat_map, list_all, list_any, range_with_len}
use Rattle.std.proofs.lemmas.Bool.{eqb-true, eqb-false, false≢true, le-leb, ne_eqb}
use Rattle.std.proofs.lemmas.List.{length-replicate}
use Rattle.std.proofs.lemmas.List.FromFn.{length-map-range_with_len}
use Rattle.paper.specs.Columns.{IsCandidateSet, max_candidates}
use Rattle.paper.proofs.ColumnSets.{Ascends, ascends_from_columns, columns_from_ascends}
use Rattle.votes.specs.Units.{max_papers}
use Rattle.count.specs.Bundles.{Bundle, IsBundle, papers_of}
use Rattle.count.specs.Law.Contest.{AreForCandidates, In}
use Rattle.sheet.specs.Ballots.{ballots, bundle_line, comments, end_line, highest_number, lot_comment, name_at, name_line, name_lines, number_or_none, papers_text, rejected_comment}
use Rattle.sheet.specs.Ballots.{size_line, ward_comment, withdrawn, withdrawn_line}
use Rattle.sheet.specs.Entries.{SheetEntry}
use Rattle.sheet.specs.Lines.{line, quoted}
use Rattle.sheet.specs.declared.ward.Poll.{Poll}
use Rattle.checker.specs.BallotsComments.{Remarks}
use Rattle.checker.specs.Papers.{PapersEntry}
use Rattle.sheet.specs.Sheet.{rejected_line}
use Rattle.checker.specs.Tokens.{Text, behind_byte_order_mark, pieces_of}
use Rattle.checker.specs.Reading.{Named, ReaderEntry, nothing_told, read, read_from}
use Rattle.checker.specs.BallotsRoundTrip.{CanBeReadBack, IsPollOf, IsReadBack}
use Rattle.checker.specs.Wards.{candidates_of, numbers_of, poll_by, poll_told, ward_told}
use Rattle.checker.specs.declared.tokens.Separator.TheVariants.{LineFeed}
use Rattle.checker.specs.declared.file_content.NextLine.TheVariants as place
use Rattle.checker.proofs.CandidateLaws.{Rise, any_range, rebuilt}
use Rattle.checker.proofs.CommentLaws.{AreCounts, lots_read, rejected_reads, ward_reads}
use Rattle.checker.proofs.FrontLaws.{bundles_read, size_reads, withdrawn_reads}
use Rattle.checker.proofs.LineLaws.{IsFigures, Reads, and_parts, figure_other, is_figure, reads-nothing, reads-then}
use Rattle.checker.proofs.NumberLaws.{decimal_figures}
use Rattle.checker.proofs.PaperLaws.{CanStand, Standing, state, told}
use Rattle.checker.proofs.QuoteLaws.{name_of, names_read, ward_name_reads}
use Rattle.checker.proofs.WardLemmas.{lower}

-- ---- the highest number

highest_next : (x y : ℕ × Text) (others : List (ℕ × Text)) → highest_number (x ∷ y ∷ others) ≡ highest_number (y ∷ others)
highest_next x y others =
    let e : suc (suc (length others)) - 1 ≡ suc (suc (length others) - 1) = omega arith in
    ap (λ n. number_or_none (slice_get (x ∷ y ∷ others) n)) e

all_low : (low : ℕ) (candidates : List (ℕ × Text)) → Ascends low (map (λ (candidate : ℕ × Text). candidate.0) candidates) →
    AllByRecursion (λ (x : ℕ × Text). x.0 ≤ highest_number candidates) candidates
all_low low [] up = tt
all_low low (x ∷ []) up = (omega arith, tt)
all_low low (x ∷ y ∷ others) up =
    let rest = all_low x.0 (y ∷ others) up.2 in
    let same = highest_next x y others in
    subst (λ h. AllByRecursion (λ (z : ℕ × Text). z.0 ≤ h) (x ∷ y ∷ others)) (sym same) (omega (arith, up.2.0, rest.0), rest)

highest_few : (low : ℕ) (candidates : List (ℕ × Text)) → Ascends low (map (λ (candidate : ℕ × Text). candidate.0) candidates) → highest_number candidates ≤ 30
highest_few low [] up = omega arith
highest_few low (x ∷ []) up = up.1
highest_few low (x ∷ y ∷ others) up = omega (arith, highest_next x y others, highest_few x.0 (y ∷ others) up.2)

rises : (low end : ℕ) (candidates : List (ℕ × Text)) → Ascends low (map (λ (candidate : ℕ × Text). candidate.0) candidates) → AllByRecursion (λ (x : ℕ × Text). x.0 ≤ end) candidates →
    Rise (low + 1) (end + 1) candidates
rises low end [] up all = tt
rises low end (x ∷ others) up all = (omega (arith, up.0), omega (arith, all.0), rises x.0 end others up.2 all.1)

-- ---- the withdrawn numbers

range_one : (b : Bool) (k : ℕ) (others : List ℕ) → k + 1 ≤ max_candidates → Ascends (k + 1) others → Ascends k (if b then (k + 1) ∷ others else others)
range_one true k others few up = (omega arith, few, up)
range_one false k others few up = lower k others up

range_ascends : (p : ℕ → Bool) (k n : ℕ) → k + n ≤ max_candidates → Ascends k (filter p (range_with_len (k + 1) n))
range_ascends p k zero few = tt
range_ascends p k (suc n) few = range_one (p (k + 1)) k (filter p (range_with_len (k + 1 + 1) n)) (omega arith) (range_ascends p (k + 1) n (omega arith))

range_low_one : (b : Bool) (a end : ℕ) (others : List ℕ) → 1 ≤ a → a ≤ end → AllByRecursion (λ c. (1 ≤ c) × (c ≤ end)) others →
    AllByRecursion (λ c. (1 ≤ c) × (c ≤ end)) (if b then a ∷ others else others)
range_low_one true a end others some few all = ((some, few), all)
range_low_one false a end others some few all = all

range_low : (p : ℕ → Bool) (a n end : ℕ) → 1 ≤ a → a + n ≤ end + 1 → AllByRecursion (λ c. (1 ≤ c) × (c ≤ end)) (filter p (range_with_len a n))
range_low p a zero end some few = tt
range_low p a (suc n) end some few = range_low_one (p a) a end (filter p (range_with_len (a + 1) n)) some (omega arith) (range_low p (a + 1) n end (omega arith) (omega arith))

-- ---- the candidates

named_one : (b : Bool) (x : ℕ × Text) (others : Option (ℕ × Text)) → (b ≡ false → is_none (option_map (λ (candidate : ℕ × Text). candidate.1) others) ≡ false)
    → is_none (option_map (λ (candidate : ℕ × Text). candidate.1) (if b then Some x else others)) ≡ false
named_one true x others rest = refl
named_one false x others rest = rest refl

or_right : (a b : Bool) → (a || b) ≡ true → a ≡ false → b ≡ true
or_right a b h e = sym (ap (λ t. t || b) e) ∙ h

flipped : (c d : ℕ) → (d == c) ≡ false → nat_eq c d ≡ false
flipped c d h = ne_eqb c d (λ e. eqb-false d c h (sym e))

-- a candidate has a name
has_name : (candidates : List (ℕ × Text)) (c : ℕ) → list_any (nat_eq c) (map (λ (candidate : ℕ × Text). candidate.0) candidates) ≡ true → is_none (name_at candidates c) ≡ false
has_name [] c found = absurd (false≢true found)
has_name (x ∷ candidates) c found =
    named_one (x.0 == c) x (find (λ (candidate : ℕ × Text). candidate.0 == c) candidates) (λ differ. has_name candidates c (or_right (nat_eq c x.0) _ found (flipped c x.0 differ)))

within : (b : Bool) (c h : ℕ) (x : ℕ × Text) → nat_eq c x.0 ≡ b → (1 ≤ x.0) × (x.0 ≤ h) → (b ≡ false → (1 ≤ c) × (c ≤ h)) → (1 ≤ c) × (c ≤ h)
within true c h x e here rest = subst (λ n. (1 ≤ n) × (n ≤ h)) (sym (eqb-true c x.0 e)) here
within false c h x e here rest = rest refl

-- a candidate has a number up to the highest one
has_number : (low h c : ℕ) (candidates : List (ℕ × Text)) → Ascends low (map (λ (candidate : ℕ × Text). candidate.0) candidates) → AllByRecursion (λ (x : ℕ × Text). x.0 ≤ h) candidates
    → list_any (nat_eq c) (map (λ (candidate : ℕ × Text). candidate.0) candidates) ≡ true → (1 ≤ c) × (c ≤ h)
has_number low h c [] up all found = absurd (false≢true found)
has_number low h c (x ∷ candidates) up all found =
    within (nat_eq c x.0) c h x refl (omega (arith, up.0), all.0) (λ differ. has_number x.0 h c candidates up.2 all.1 (or_right (nat_eq c x.0) _ found differ))

-- ---- the bundles of a ward

module _ (ward : SheetEntry) where
  abbrev highest : ℕ
  highest = highest_number ward.candidates

  list_stands : (list : List ℕ) → IsCandidateSet (numbers_of ward) → AllByRecursion (λ c. In c (numbers_of ward)) list → AllByRecursion (λ c. c ≤ highest) list × Standing (withdrawn ward) list
  list_stands [] set all = (tt, tt)
  list_stands (c ∷ list) set all =
      let up = ascends_from_columns (numbers_of ward) set in
      let number = has_number 0 highest c ward.candidates up (all_low 0 ward.candidates up) all.0 in
      let rest = list_stands list set all.1 in
      let stands = any_range (λ d. is_none (name_at ward.candidates d)) 1 highest c number.0 (omega (arith, number.1)) ∙ has_name ward.candidates c all.0 in
      ((number.1, rest.0), (stands, rest.1))

  bundles_stand : (bundles : List Bundle) (most : ℕ) → IsCandidateSet (numbers_of ward) → AllByRecursion IsBundle bundles → AreForCandidates (numbers_of ward) (map (λ (b : Bundle). b.0) bundles) →
      length (papers_of bundles) ≤ max_papers
      → AllByRecursion (λ (b : Bundle). CanStand highest (withdrawn ward) b.0 b.1) bundles
  bundles_stand [] most set each fors few = tt
  bundles_stand (b ∷ bundles) most set each fors few =
      let stands = list_stands b.0 set fors.0 in
      let sum : length (papers_of (b ∷ bundles)) ≡ b.1 + length (papers_of bundles) = length-append (replicate b.1 b.0) (papers_of bundles) ∙ ap
      (λ n. n + length (papers_of bundles)) (length-replicate b.1 b.0) in (
        record { some = each.0.0; few = omega (arith, few, sum); listed = each.0.1; ranking = each.0.2; low = stands.0; standing = stands.1 },
        bundles_stand bundles most set each.1 fors.1 (omega (arith, few, sum)),
      )

  -- the content of the lines with names
  abbrev all_names : List Text
  all_names = map (name_of ward.candidates) (range_with_len 1 highest)

  candidates_back : IsCandidateSet (numbers_of ward) → candidates_of (withdrawn ward) all_names ≡ ward.candidates
  candidates_back set =
      let up = ascends_from_columns (numbers_of ward) set in
      rebuilt ward.candidates (withdrawn ward) highest 1 (highest + 1) ward.candidates (omega arith) (rises 0 highest ward.candidates up (all_low 0 ward.candidates up)) (λ c low. refl)
      (λ c low high. any_range (λ d. is_none (name_at ward.candidates d)) 1 highest c low (omega (arith, high)))

-- ---- the poll of a ward

record Five (rejected : List ℕ) : Type 0 where
  a : ℕ
  b : ℕ
  c : ℕ
  d : ℕ
  e : ℕ
  is : rejected ≡ a ∷ b ∷ c ∷ d ∷ e ∷ []
  counts : AreCounts a b c d e

five_of : (rejected : List ℕ) → length rejected ≡ 5 → AllByRecursion (λ n. n ≤ 4294967295) rejected → Five rejected
five_of [] five fit = absurd (omega arith)
five_of (a ∷ []) five fit = absurd (omega arith)
five_of (a ∷ b ∷ []) five fit = absurd (omega arith)
five_of (a ∷ b ∷ c ∷ []) five fit = absurd (omega arith)
five_of (a ∷ b ∷ c ∷ d ∷ []) five fit = absurd (omega arith)
five_of (a ∷ b ∷ c ∷ d ∷ e ∷ []) five fit = record {
  a = a;
  b = b;
  c = c;
  d = d;
  e = e;
  is = refl;
  counts
      = record { first = fit.0; second = fit.1.0; third = fit.1.1.0; fourth = fit.1.1.1.0; fifth = fit.1.1.1.1.0 };
}
five_of (a ∷ b ∷ c ∷ d ∷ e ∷ f ∷ others) five fit = absurd (omega arith)

-- the rejected papers in the file of a ward
abbrev rejected_told : Option Poll → Option (List ℕ)
rejected_told None = None
rejected_told (Some poll) = Some poll.rejected

poll_reads : (poll : Option Poll) (bundles : List Bundle) (n seats : ℕ) (papers : PapersEntry) (names : Named) (number : Option ℕ) → IsPollOf poll bundles n seats
    → Reads (state place.End papers names (record { ward = number; rejected = None; lots = [] })) (rejected_comment poll)
    (state place.End papers names (record { ward = number; rejected = rejected_told poll; lots = [] }))
poll_reads None bundles n seats papers names number is = reads-nothing (state place.End papers names (record { ward = number; rejected = None; lots = [] }))
poll_reads (Some poll) bundles n seats papers names number is =
    let five = five_of poll.rejected is.1.five is.1.fit in
    let here = state place.End papers names (record { ward = number; rejected = None; lots = [] }) in
    subst (λ r. Reads here (codes "# " ++ rejected_line r) (state place.End papers names (record { ward = number; rejected = Some r; lots = [] }))) (sym five.is)
    (rejected_reads papers names (record { ward = number; rejected = None; lots = [] }) five.a five.b five.c five.d five.e five.counts refl)

poll_back : (poll : Option Poll) (bundles : List Bundle) (n seats : ℕ) → IsPollOf poll bundles n seats → poll_by (rejected_told poll) bundles n seats ≡ poll
poll_back None bundles n seats is = ap (λ bs. poll_by None bs n seats) is.0 ∙ rw (le-leb n seats is.1) refl
poll_back (Some poll) bundles n seats is = ap (λ v. Some (record { valid = v; rejected = poll.rejected })) (sym is.0)

-- ---- no byte order mark

abbrev first_is_mark : Text → Bool
first_is_mark [] = false
first_is_mark (b ∷ text) = b == 239

unmarked : (text : Text) → first_is_mark text ≡ false → behind_byte_order_mark text ≡ text
unmarked [] none = refl
unmarked (a ∷ []) none = refl
unmarked (a ∷ b ∷ []) none = refl
unmarked (a ∷ b ∷ c ∷ text) none = rw none refl

-- only the beginning of a text matters
front_marks : (front text : Text) → 0 < length front → first_is_mark front ≡ false → (0 < length (front ++ text)) × (first_is_mark (front ++ text) ≡ false)
front_marks [] text some none = absurd (omega arith)
front_marks (b ∷ front) text some none = (omega arith, none)

figures_unmarked : (w : Text) → IsFigures w → first_is_mark w ≡ false
figures_unmarked [] is = refl
figures_unmarked (b ∷ w) is = figure_other b 239 (and_parts (is_figure b) (list_all is_figure w) is.all).0 (λ l m. omega arith)

size_unmarked : (ward : SheetEntry) → highest_number ward.candidates ≤ 30 → (0 < length (size_line ward)) × (first_is_mark (size_line ward) ≡ false)
unfolding line
size_unmarked ward few =
    let digits = decimal_figures (highest_number ward.candidates) (omega (arith, few)) in
    let front = front_marks (decimal (highest_number ward.candidates)) (codes " " ++ (decimal ward.seats ++ [])) digits.some (figures_unmarked _ digits) in
    front_marks (decimal (highest_number ward.candidates) ++ (codes " " ++ (decimal ward.seats ++ []))) (codes "\n") front.0 front.1

ballots_unmarked : (ward : SheetEntry) (bundles : List Bundle) (lots : List (ℕ × ℕ)) → highest_number ward.candidates ≤ 30 → first_is_mark (ballots ward bundles lots) ≡ false
ballots_unmarked ward bundles lots few =
    let a = size_unmarked ward few in
    let b = front_marks (size_line ward) (withdrawn_line (withdrawn ward)) a.0 a.1 in
    let c = front_marks (size_line ward ++ withdrawn_line (withdrawn ward)) (flat_map bundle_line bundles) b.0 b.1 in
    let d = front_marks (size_line ward ++ withdrawn_line (withdrawn ward) ++ flat_map bundle_line bundles) end_line c.0 c.1 in
    let e = front_marks (papers_text ward bundles) (name_lines ward) d.0 d.1 in
    (front_marks (papers_text ward bundles ++ name_lines ward) (comments ward lots) e.0 e.1).1

-- ---- the whole file

module _ (ward : SheetEntry) (bundles : List Bundle) (lots : List (ℕ × ℕ)) where
  abbrev number : ℕ
  number = highest_number ward.candidates

  abbrev all_told : PapersEntry
  all_told = told number ward.seats (withdrawn ward) bundles

  abbrev none_told : Remarks
  none_told = record { ward = None; rejected = None; lots = [] }

  abbrev names_told : Named
  names_told = record { names = all_names ward; ward = ward.name }

  abbrev remarks_told : Remarks
  remarks_told = record { ward = Some ward.number; rejected = rejected_told ward.poll; lots = lots }

  abbrev whole : ReaderEntry
  whole = state place.End all_told names_told remarks_told

  front_reads : CanBeReadBack ward bundles lots → Reads nothing_told (papers_text ward bundles) (state place.CandidateNames all_told nothing_told.names none_told)
  front_reads can =
      let up = ascends_from_columns (numbers_of ward) can.candidate_set in
      let bound = highest_few 0 ward.candidates up in
      let missing = columns_from_ascends 0 (withdrawn ward) (range_ascends (λ c. is_none (name_at ward.candidates c)) 0 number (omega (arith, bound))) in
      let low = range_low (λ c. is_none (name_at ward.candidates c)) 1 number number (omega arith) (omega arith) in
      let sizes = size_reads number ward.seats bound can.some_seats can.seats_in_range in
      let gone = withdrawn_reads number ward.seats (withdrawn ward) nothing_told.names none_told bound missing low in
      let stand = bundles_stand ward bundles 0 can.candidate_set can.bundles_are.each can.for_candidates can.few_papers in
      let papers = bundles_read true number ward.seats (withdrawn ward) [] bundles nothing_told.names none_told bound can.bundles_are.rise stand (omega (arith, can.few_papers)) in
      subst (λ t. Reads nothing_told t (state place.CandidateNames all_told nothing_told.names none_told))
      (sym (append_assoc (size_line ward ++ withdrawn_line (withdrawn ward)) (flat_map bundle_line bundles) end_line))
      (reads-then nothing_told (size_line ward ++ withdrawn_line (withdrawn ward)) (state place.Withdrawn (told number ward.seats (withdrawn ward) []) nothing_told.names none_told)
      (flat_map bundle_line bundles ++ end_line) (state place.CandidateNames all_told nothing_told.names none_told)
      (reads-then nothing_told (size_line ward) (state place.Withdrawn (told number ward.seats [] []) nothing_told.names none_told) (withdrawn_line (withdrawn ward))
      (state place.Withdrawn (told number ward.seats (withdrawn ward) []) nothing_told.names none_told) sizes gone)
      papers)

  names_back : CanBeReadBack ward bundles lots → Reads (state place.CandidateNames all_told nothing_told.names none_told) (name_lines ward) (state place.End all_told names_told none_told)
  names_back can =
      let size = length-map-range_with_len (name_of ward.candidates) 1 number in
      let here = state place.CandidateNames all_told nothing_told.names none_told in
      let mid = state place.CandidateNames all_told (record { names = all_names ward; ward = [] }) none_told in
      reads-then here (flat_map (name_line ward.candidates) (range_with_len 1 number)) mid (line (quoted ward.name ∷ [])) (state place.End all_told names_told none_told)
      (names_read ward.candidates all_told none_told [] [] 1 number can.names (omega arith))
      (ward_name_reads all_told none_told (all_names ward) ward.name can.name (omega (arith, size)))

  comments_back : CanBeReadBack ward bundles lots → Reads (state place.End all_told names_told none_told) (comments ward lots) whole
  comments_back can =
      let here = state place.End all_told names_told none_told in
      let numbered = state place.End all_told names_told (record { ward = Some ward.number; rejected = None; lots = [] }) in
      let polled = state place.End all_told names_told (record { ward = Some ward.number; rejected = rejected_told ward.poll; lots = [] }) in
      reads-then here (ward_comment ward ++ rejected_comment ward.poll) polled (flat_map lot_comment lots) whole
      (reads-then here (ward_comment ward) numbered (rejected_comment ward.poll) polled (ward_reads all_told names_told none_told ward can.number refl)
      (poll_reads ward.poll bundles (length ward.candidates) ward.seats all_told names_told (Some ward.number) can.poll))
      (lots_read all_told names_told (Some ward.number) (rejected_told ward.poll) lots can.lots_small can.lots_once)

  all_read : CanBeReadBack ward bundles lots → Reads nothing_told (ballots ward bundles lots) whole
  all_read can =
      reads-then nothing_told (papers_text ward bundles ++ name_lines ward) (state place.End all_told names_told none_told) (comments ward lots) whole
      (reads-then nothing_told (papers_text ward bundles) (state place.CandidateNames all_told nothing_told.names none_told) (name_lines ward)
      (state place.End all_told names_told none_told) (front_reads can) (names_back can))
      (comments_back can)

  understood_so : CanBeReadBack ward bundles lots → read (ballots ward bundles lots) ≡ Ok whole
  understood_so can =
      let up = ascends_from_columns (numbers_of ward) can.candidate_set in
      let plain = unmarked (ballots ward bundles lots) (ballots_unmarked ward bundles lots (highest_few 0 ward.candidates up)) in
      let all = all_read can in
      ap (λ t. read_from 0 nothing_told (pieces_of LineFeed [] t)) (plain ∙ sym (append-nil (ballots ward bundles lots))) ∙ all.so 0 []

  ward_so : CanBeReadBack ward bundles lots → ward_told whole ≡ ward
  ward_so can =
      let candidates = candidates_back ward can.candidate_set in
      let poll = ap (λ (cs : List (ℕ × Text)). poll_by (rejected_told ward.poll) bundles (length cs) ward.seats) candidates ∙ poll_back ward.poll bundles
      (length ward.candidates) ward.seats can.poll in
      ap (λ (cs : List (ℕ × Text)). record { number = ward.number; name = ward.name; seats = ward.seats; candidates = cs; poll = poll_told whole }) candidates
      ∙ ap (λ (p : Option Poll). record { number = ward.number; name = ward.name; seats = ward.seats; candidates = ward.candidates; poll = p }) poll

-- the ballots of a ward read back
pub ballots_back : (ward : SheetEntry) (bundles : List Bundle) (lots : List (ℕ × ℕ)) → CanBeReadBack ward bundles lots → IsReadBack ward bundles lots
ballots_back ward bundles lots can = record {
  reading = whole ward bundles lots;
  understood = understood_so ward bundles lots can;
  ward_is = ward_so ward bundles lots can;
  bundles_are = refl;
  lots_are = refl;
}
