-- Proofs that the texts of a textual election can be printed, and that the election of every ward of a state is textual.
use Rattle.std.proofs.Common.{◌≡◌, ℕ, ◌≤◌, ◌&&◌, nat_le, ◌==◌, Bool, true, false, List, [], ◌∷◌, length, map, Option, Some, None, cond, if◌then◌else◌, string_bytes, String, refl, sym, subst, ap, ◌∙◌}
use Rattle.std.specs.List.{list_all}
use Rattle.std.specs.declared.alloc.Global.{Global}
use Rattle.std.proofs.lemmas.Bool.{and_parts, leb-true}
use Rattle.votes.specs.Units.{max_seats, max_papers}
use Rattle.paper.specs.Columns.{IsCandidateSet}
use Rattle.count.specs.Bundles.{Bundle, bundled, papers_of}
use Rattle.count.specs.Law.Contest.{IsContest, contest_for}
use Rattle.sheet.specs.Surpluses.{surpluses_of}
use Rattle.sheet.specs.declared.surpluses.PassedOn.{PassedOn}
use Rattle.sheet.specs.declared.ward.Poll.{Poll}
use Rattle.sheet.specs.declared.ward.Ward.{Ward}
use Rattle.sheet.specs.Entries.{SheetEntry, shown}
use Rattle.sheet.specs.Wards.{HasFewPapers, CanBePrinted}
use Rattle.register.specs.Ranges.{is_ward_number, is_seat_number, is_candidate_number, is_name}
use Rattle.register.specs.Offices.{WardEntry, CandidateEntry, OfficeState, ward_compared, ward_at, candidates_of}
use Rattle.register.specs.Marks.{columns_of}
use Rattle.register.specs.Elections.{ElectionEntry, election_of, has_count, is_counted, is_in_count}
use Rattle.register.specs.StateConditions.{is_ward, is_candidate, IsState}
use Rattle.register.proofs.MapLemmas.{kept_all, found_passes, list_all_weaker}
use Rattle.register.proofs.ContestLemmas.{columns_are_set, seats_and_papers_are_few, contest_is_fair}
use Rattle.office.specs.Sheets.{bundles_shown, candidate_shown, lots_shown, poll_shown, shown_with, stages_shown, surpluses_shown, is_numbered, IsTextual}

-- ---- what can be printed

numbers_of_lines : (lines : List (ℕ × String Global))
    → map (λ (line : ℕ × List ℕ). line.0) (map (λ (line : ℕ × String Global). (line.0, string_bytes line.1)) lines) ≡ map (λ (line : ℕ × String Global). line.0) lines
numbers_of_lines [] = refl
numbers_of_lines (line ∷ lines) = ap (λ (ns : List ℕ). line.0 ∷ ns) (numbers_of_lines lines)

numbers_of_shown : (cs : List CandidateEntry) → map (λ (line : ℕ × List ℕ). line.0) (map candidate_shown cs) ≡ map (λ (c : CandidateEntry). c.number) cs
numbers_of_shown [] = refl
numbers_of_shown (c ∷ cs) = ap (λ (ns : List ℕ). c.number ∷ ns) (numbers_of_shown cs)

-- a ward that shows a textual election, with few enough papers, can be printed
pub textual_can_be_printed : (ward : Ward) (poll : Option Poll) (e : ElectionEntry) → shown ward ≡ shown_with poll e → IsTextual e → HasFewPapers poll → CanBePrinted ward
textual_can_be_printed ward poll e same textual few =
    let seats : e.ward.seats ≡ ward.seats = sym (ap (λ (x : SheetEntry). x.seats) same) in
    let numbers : map (λ (c : CandidateEntry). c.number) e.candidates ≡ map (λ (line : ℕ × String Global). line.0) ward.candidates.now =
    sym (numbers_of_shown e.candidates) ∙ (ap (λ (x : SheetEntry). map (λ (line : ℕ × List ℕ). line.0) x.candidates) (sym same) ∙ numbers_of_lines ward.candidates.now) in
    record {
      some_seats = subst (λ (n : ℕ). 1 ≤ n) seats textual.some_seats;
      few_seats = subst (λ (n : ℕ). n ≤ max_seats) seats textual.few_seats;
      candidate_set = subst IsCandidateSet numbers textual.ascending;
      few_papers = subst HasFewPapers (ap (λ (x : SheetEntry). x.poll) (sym same)) few;
    }

-- a textual election has few enough papers
pub few_shown : (e : ElectionEntry) → length e.ballots.papers ≤ max_papers → HasFewPapers (poll_shown e)
few_shown e few = go (has_count e)
  where
    go : (b : Bool) → HasFewPapers (if b then Some (record { valid = length e.ballots.papers; rejected = e.ballots.rejected }) else None)
    go true = few
    go false = tt

-- ---- each ward of a state

numbered : (c : CandidateEntry) → is_candidate c ≡ true → is_numbered c ≡ true
unfolding is_candidate
numbered c fine = (and_parts (is_candidate_number c.number) (is_name c.name) (and_parts (is_ward_number c.ward) (is_candidate_number c.number && is_name c.name) fine).1).0

ward_number_few : (s : OfficeState) (w : WardEntry) → list_all is_ward s.wards ≡ true → ward_at s w.number ≡ Some w → w.number ≤ 99
unfolding is_ward
ward_number_few s w wards there =
    let own = found_passes (ward_compared w.number) is_ward w s.wards wards there in
    let parts = and_parts (is_ward_number w.number) (is_seat_number w.seats && is_name w.name) own in
    leb-true w.number 99 (and_parts (nat_le 1 w.number) (nat_le w.number 99) parts.0).1

-- the election of every ward of a state is textual, given that the columns are the candidates' numbers
pub state_is_textual : (s : OfficeState) (w : WardEntry) → IsState s → columns_of (candidates_of s w.number) ≡ map (λ c. c.number) (candidates_of s w.number) → ward_at s w.number ≡ Some w
    → IsTextual (election_of s w)
state_is_textual s w is columns there =
    let wards = and_parts _ _ is.in_range in
    let candidates = and_parts _ _ wards.1 in
    let few = seats_and_papers_are_few s w is.in_range is.keyed is.rise there in
    record {
      number = ward_number_few s w wards.0 there;
      some_seats = few.0;
      few_seats = few.1;
      few_papers = few.2;
      numbered = list_all_weaker is_candidate is_numbered (candidates_of s w.number) numbered (kept_all is_candidate (λ c. c.ward == w.number) s.candidates candidates.0);
      ascending = subst IsCandidateSet columns (columns_are_set (candidates_of s w.number));
      counted = contest_is_fair s w is.in_range is.keyed is.rise there;
    }

-- the papers that passed on with each surplus, if the program counts the bundles of the election with its lots
pub surpluses_alike : (e : ElectionEntry) (found : List PassedOn) (candidates : List ℕ) (seats : ℕ) (bundles : List Bundle) (lots : List (ℕ × ℕ)) (k : ℕ) → is_in_count e ≡ true →
    IsContest (contest_for (columns_of e.candidates) e.ward.seats (papers_of (bundled e.ballots.papers))) → candidates ≡ columns_of e.candidates → seats ≡ e.ward.seats → bundles ≡ bundles_shown e →
    lots ≡ lots_shown e → k ≡ length (stages_shown e) →
    (IsContest (contest_for candidates seats (papers_of bundles)) → found ≡ surpluses_of candidates seats bundles lots k) → found ≡ surpluses_shown e
surpluses_alike e found candidates seats bundles lots k counted fair candidates_are seats_are bundles_are lots_are k_is is =
    let has : has_count e ≡ true = (and_parts (is_counted e.ward.phase) (has_count e) counted).1 in
    let papers : List Bundle = bundled e.ballots.papers in
    let whole : bundles ≡ papers = bundles_are ∙ ap (λ (b : Bool). cond b papers []) has in
    let by_candidates : IsContest (contest_for candidates e.ward.seats (papers_of papers)) =
    subst (λ (cs : List ℕ). IsContest (contest_for cs e.ward.seats (papers_of papers))) (sym candidates_are) fair in
    let by_seats : IsContest (contest_for candidates seats (papers_of papers)) = subst (λ (n : ℕ). IsContest (contest_for candidates n (papers_of papers))) (sym seats_are) by_candidates in
    let by_bundles : IsContest (contest_for candidates seats (papers_of bundles)) = subst (λ (bs : List Bundle). IsContest (contest_for candidates seats (papers_of bs))) (sym whole) by_seats in
    is by_bundles
    ∙ ap (λ (cs : List ℕ). surpluses_of cs seats bundles lots k) candidates_are
    ∙ ap (λ (n : ℕ). surpluses_of (columns_of e.candidates) n bundles lots k) seats_are
    ∙ ap (λ (bs : List Bundle). surpluses_of (columns_of e.candidates) e.ward.seats bs lots k) bundles_are
    ∙ ap (λ (l : List (ℕ × ℕ)). surpluses_of (columns_of e.candidates) e.ward.seats (bundles_shown e) l k) lots_are
    ∙ ap (surpluses_of (columns_of e.candidates) e.ward.seats (bundles_shown e) (lots_shown e)) k_is
    ∙ sym (ap (λ (b : Bool). cond b (surpluses_of (columns_of e.candidates) e.ward.seats (bundles_shown e) (lots_shown e) (length (stages_shown e))) []) has)
