-- The data read for the count of a ward is that of the state.
use Rattle.std.proofs.Common.{◌≡◌, ◌≤◌, ◌==◌, ◌&&◌, not, ℕ, Bool, List, map, Option, Some, None, MatchOption, IfSome, IsSome, option_map, true, false, refl, sym, ap, subst, ◌∙◌, true≢false, arith}
use Rattle.std.proofs.Math.Bool.{and-false}
use Rattle.std.proofs.lemmas.Bool.{and_parts, and_from, ne_eqb}
use Rattle.register.specs.declared.candidates.Candidate.{Candidate}
use Rattle.register.specs.declared.elections.Count.{Count}
use Rattle.register.specs.declared.elections.CountedWard.{CountedWard}
use Rattle.register.specs.declared.elections.Election.{Election}
use Rattle.register.specs.declared.elections.WardSheet.{WardSheet}
use Rattle.register.specs.Offices.{WardEntry, CandidateEntry, OfficeState, ward_at, ward_entry, candidate_entry}
use Rattle.register.specs.Elections.{ElectionEntry, IsElection, election_of, has_count, is_counted, is_in_count, contest_of}
use Rattle.register.specs.StateConditions.{IsState}
use Rattle.register.proofs.MapLemmas.{found_number}
use Rattle.register.proofs.ContestLemmas.{seats_and_papers_are_few}
use Rattle.count.specs.Law.Contest.{IsContest}
use Rattle.votes.specs.Units.{max_seats}
use Rattle.register.specs.Counts.{poll_for, due_for, elected_for}
use Rattle.register.specs.CommandInputs.{empty_input}
use Rattle.register.specs.declared.command.Command.TheVariants.{Count as counting}
use Rattle.register.specs.declared.counts.CountCommand.TheVariants.{Advance}
use Rattle.register.specs.Nominations.{is_contested}
use Rattle.register.specs.Tabulated.{has_stages, IsCount, IsCountIn, IsCountFor, IsCountedWard}
use Rattle.store.specs.Elections.{IsFoundFor, polled_part, counted_part, election_in, WasFound, IsContestAt, IsCountIfBegun, IsCountIfContested, IsWardCount}
use Rattle.store.specs.Elections.{IsBegun, IsCounted, IsCountedFor, IsCountIfExists, IsCountedIn, IsCountedInFor, IsSheet, IsSheetFor}

-- the input with the poll, for a ward that may not exist
pub part_polled : (s : OfficeState) (ward : Option WardEntry) → polled_part (option_map (election_of s) ward) ≡ record empty_input { ward = ward; poll = poll_for s ward }
part_polled s None = refl
part_polled s (Some w) = refl

-- the input with what the count requires next, for a ward that may not exist
pub part_counted : (s : OfficeState) (ward : Option WardEntry) → counted_part (option_map (election_of s) ward) ≡ record empty_input { ward = ward; due = due_for s ward; elected = elected_for s ward }
part_counted s None = refl
part_counted s (Some w) = refl

-- ---- each election of a state can be polled

-- an election whose number of seats is in range
record IsSound (e : ElectionEntry) : Type 0 where
  some_seats : 1 ≤ e.ward.seats
  few_seats : e.ward.seats ≤ max_seats

ward_is_sound : (s : OfficeState) (ward : ℕ) (w : WardEntry) → IsState s → ward_at s ward ≡ Some w → IsSound (election_of s w)
ward_is_sound s ward w is found =
    let there : ward_at s w.number ≡ Some w = subst (λ (n : ℕ). ward_at s n ≡ Some w) (found_number (λ (x : WardEntry). x.number) s.wards ward w found) found in
    let few = seats_and_papers_are_few s w is.in_range is.keyed is.rise there in
    record { some_seats = few.0; few_seats = few.1 }

-- an election that has been found meets the conditions on its number of seats
pub sound_polled : {R : Type 0} (s : OfficeState) (ward : ℕ) (found : Option Election) → IsState s → IsFoundFor found (option_map (election_of s) (ward_at s ward))
    → MatchOption found R (λ e. 1 ≤ e.ward.seats → e.ward.seats ≤ max_seats → R) → R
sound_polled s ward None is there r = r
sound_polled {R = R} s ward (Some e) is there r = by_ward (ward_at s ward) refl there
  where
    by_ward : (o : Option WardEntry) → ward_at s ward ≡ o → IsFoundFor (Some e) (option_map (election_of s) o) → R
    by_ward None none gone = absurd gone
    by_ward (Some w) at made =
        let it = ward_is_sound s ward w is at in
        let seats : e.ward.seats ≡ w.seats = ap (λ (x : WardEntry). x.seats) made.ward_is in
        r (omega (arith, seats, it.some_seats)) (omega (arith, seats, it.few_seats))

-- ---- the count

-- a ward found under any number is also found under its own
pub ward_there : (s : OfficeState) (ward : ℕ) (w : WardEntry) → ward_at s ward ≡ Some w → ward_at s w.number ≡ Some w
ward_there s ward w found = subst (λ (n : ℕ). ward_at s n ≡ Some w) (found_number (λ (x : WardEntry). x.number) s.wards ward w found) found

-- whether the election is contested, according to the candidates found with the ward
pub contested_told : (s : OfficeState) (found : CountedWard) (candidates : List Candidate) (told : Bool) → candidates ≡ found.candidates.items
    → WasFound s found → told ≡ is_contested (ward_entry found.ward) (map candidate_entry candidates)
    → has_count (election_in s found) ≡ told
contested_told s found candidates told same there is = ap (is_contested (ward_entry found.ward)) (sym (ap (map candidate_entry) same ∙ there.1)) ∙ sym is

-- if a value was found and a property holds for any value found, it holds for this one
pub some_found : {X : Type 0} {P : X → Type 0} (found : Option X) → IsSome found → IfSome found P → (x : X) × (found ≡ Some x) × P x
some_found None some holds = absurd (true≢false (sym some))
some_found (Some x) some holds = (x, refl, holds)

-- an election with a stage done has a count
pub stages_contested : (e : ElectionEntry) → has_stages e ≡ true → has_count e ≡ true
stages_contested e begun = (and_parts (has_count e) (not (e.ward.done == 0)) begun).0

-- if the ward isn't contested, or no stage has been done, there is no count with a stage done
pub uncontested_bare : (e : ElectionEntry) → has_count e ≡ false → has_stages e ≡ false
uncontested_bare e none = ap (λ b. b && not (e.ward.done == 0)) none

pub fresh_bare : (e : ElectionEntry) → e.ward.done ≡ 0 → has_stages e ≡ false
fresh_bare e fresh = ap (λ n. has_count e && not (n == 0)) fresh ∙ and-false (has_count e)

pub begun_stages : (e : ElectionEntry) → has_count e ≡ true → (e.ward.done ≡ 0 → ⊥) → has_stages e ≡ true
begun_stages e contested some = and_from _ _ contested (ap not (ne_eqb e.ward.done 0 some))

-- the count found for an election with a stage done
pub book_found : (e : ElectionEntry) (found : Option Count) → has_stages e ≡ true → IsCount e found → IsCountIfBegun e found
book_found e found begun is = subst (IsCountIfBegun e) (sym is.1) (begun, is.2)

pub held_found : (e : ElectionEntry) (found : Option Count) → has_count e ≡ true → IsCount e found → IsCountIfContested e found
held_found e found contested is = subst (IsCountIfContested e) (sym is.1) (contested, is.2)

-- the sheet of an election before its first stage
pub begun_found : (e : ElectionEntry) (from : Election) (found : Option WardSheet) → IsElection from e → has_count e ≡ true → e.ward.done ≡ 0 → IsContest (contest_of e) → IsSome found
    → IfSome found (λ begun. (begun.counted.ward ≡ from.ward) × (begun.counted.candidates ≡ from.candidates))
    → IfSome found (λ begun. (e : ElectionEntry) → IsElection from e → e.ward.done ≡ 0 → IsContest (contest_of e) → IsCount e begun.counted.count)
    → IfSome found (λ begun. (e : ElectionEntry) → IsElection from e → begun.rejected ≡ e.ballots.rejected)
    → IsBegun e found
begun_found e from None of contested fresh fair some same is rejected = absurd (true≢false (sym some))
begun_found e from (Some sheet) of contested fresh fair some same is rejected = (
  sheet,
  refl,
  record {
    ward_is = ap ward_entry same.0 ∙ of.ward_is;
    candidates_are = ap (λ cs. map candidate_entry cs.items) same.1 ∙ of.candidates_are;
    count_is = held_found e sheet.counted.count contested (is e of fresh fair);
  },
  rejected e of,
)

-- an uncontested ward has no count
pub bare_counted : (s : OfficeState) (ward : ℕ) (found : CountedWard) → IsContestAt s ward (Some found) → has_count (election_in s found) ≡ false
    → IsCountedFor (option_map (election_of s) (ward_at s ward)) (Some found)
bare_counted s ward found is none =
    let e = election_in s found in
    let held : IsCountIfContested e found.count = subst (IsCountIfContested e) (sym is.2) none in
    let counted : IsCounted e (Some found) = (found, refl, record { ward_is = refl; candidates_are = is.1.1; count_is = held }) in
    subst (λ (o : Option WardEntry). IsCountedFor (option_map (election_of s) o) (Some found)) (sym is.0) counted

-- the count found is the one that a command sees
pub held_shown : (e : ElectionEntry) (found : Option Count) → IsCountIfContested e found → has_count e ≡ true → IsCount e found
held_shown e None none contested = absurd (true≢false (sym contested ∙ none))
held_shown e (Some count) is contested = (count, refl, is.1)

pub counted_shown : (entry : Option ElectionEntry) (found : Option CountedWard) (there : CountedWard) → found ≡ Some there → IsCountedFor entry found → IsCountIfExists entry there.count
counted_shown None found there is none = tt
counted_shown (Some e) found there is counted =
    let same : counted.0 ≡ there = let one : Some counted.0 ≡ Some there = sym counted.1 ∙ is in cc in
    held_shown e there.count (subst (λ (x : CountedWard). IsCountIfContested e x.count) same counted.2.count_is)

-- the count that a command sees is the one to which a stage is added
pub shown_for : (s : OfficeState) (ward : ℕ) (shown : Option Count) → IsCountIfExists (option_map (election_of s) (ward_at s ward)) shown → IsCountFor s (counting (Advance ward)) shown
shown_for s ward shown is = λ w at. subst (λ (o : Option WardEntry). IsCountIfExists (option_map (election_of s) o) shown) at is

-- ---- wards in count

-- an election in count is contested
pub in_count_contested : (e : ElectionEntry) → is_in_count e ≡ true → has_count e ≡ true
in_count_contested e counted = (and_parts (is_counted e.ward.phase) (has_count e) counted).1

-- the count found for an election in count
count_in_count : (e : ElectionEntry) (found : Option Count) → is_in_count e ≡ true → IsCountIfContested e found → IsCountIn e found
count_in_count e None counted none = absurd (true≢false (sym (in_count_contested e counted) ∙ none))
count_in_count e (Some count) counted is = (counted, is.1)

ward_in_count : (e : ElectionEntry) (found : CountedWard) → is_in_count e ≡ true → IsWardCount e found → IsCountedWard e found
ward_in_count e found counted is = record { ward_is = is.ward_is; candidates_are = is.candidates_are; count_is = count_in_count e found.count counted is.count_is }

pub found_counted : (e : ElectionEntry) (found : Option CountedWard) → is_in_count e ≡ true → IsCounted e found → IsCountedIn e found
found_counted e found counted is = (is.0, is.1, ward_in_count e is.0 counted is.2)

-- the data for the sheet of an election in count
pub sheet_of : (e : ElectionEntry) (sheet : WardSheet) → is_in_count e ≡ true → IsWardCount e sheet.counted → sheet.rejected ≡ e.ballots.rejected → IsSheet e (Some sheet)
sheet_of e sheet counted is rejected = (sheet, refl, record { counted_is = ward_in_count e sheet.counted counted is; rejected_are = λ yes. rejected })

pub begin_sheet : (e : ElectionEntry) (found : Option WardSheet) → is_in_count e ≡ true → IsBegun e found → IsSheet e found
begin_sheet e found counted is = subst (IsSheet e) (sym is.1) (sheet_of e is.0 counted is.2 is.3)

-- whether the election is in count, according to the candidates found with the ward
pub in_count_told : (s : OfficeState) (found : CountedWard) (candidates : List Candidate) (told : Bool) → candidates ≡ found.candidates.items → WasFound s found
    → told ≡ (is_counted (ward_entry found.ward).phase && is_contested (ward_entry found.ward) (map candidate_entry candidates)) → is_in_count (election_in s found) ≡ told
in_count_told s found candidates told same there is =
    ap (λ (cs : List CandidateEntry). is_counted (ward_entry found.ward).phase && is_contested (ward_entry found.ward) cs) (sym (ap (map candidate_entry) same ∙ there.1)) ∙ sym is

-- a ward that isn't in count has neither a count nor papers
module _ (s : OfficeState) (ward : ℕ) (found : CountedWard) (is : IsContestAt s ward (Some found)) (none : is_in_count (election_in s found) ≡ false) where
  bare_ward : IsCountedWard (election_in s found) found
  bare_ward = record { ward_is = refl; candidates_are = is.1.1; count_is = subst (IsCountIn (election_in s found)) (sym is.2) none }

  pub bare_in_count : IsCountedInFor (option_map (election_of s) (ward_at s ward)) (Some found)
  bare_in_count =
      let told : IsCountedIn (election_in s found) (Some found) = (found, refl, bare_ward) in
      subst (λ (o : Option WardEntry). IsCountedInFor (option_map (election_of s) o) (Some found)) (sym is.0) told

  pub bare_sheet : (sheet : WardSheet) → sheet.counted ≡ found → IsSheetFor (option_map (election_of s) (ward_at s ward)) (Some sheet)
  bare_sheet sheet same =
      let e = election_in s found in
      let told : IsSheet e (Some sheet) = (sheet, refl, record { counted_is = subst (IsCountedWard e) (sym same) bare_ward; rejected_are = λ counted. absurd (true≢false (sym counted ∙ none)) }) in
      subst (λ (o : Option WardEntry). IsSheetFor (option_map (election_of s) o) (Some sheet)) (sym is.0) told
