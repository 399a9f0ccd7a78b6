-- Every text that an office prints for a ward, checked against the ballots that it prints.
use Rattle.std.proofs.Common.{◌≡◌, ℕ, true, List, map, Some, refl, sym, subst}
use Rattle.register.specs.Marks.{columns_of}
use Rattle.register.specs.Offices.{OfficeState, WardEntry, candidates_of, ward_at}
use Rattle.register.specs.Elections.{election_of, is_counted, is_declared}
use Rattle.register.specs.StateConditions.{IsState}
use Rattle.register.specs.declared.phase.Phase.{Phase}
use Rattle.register.specs.declared.phase.Phase.TheVariants.{Nominations, Keying, Sealed, Declared}
use Rattle.checker.specs.Differences.{IsComparison}
use Rattle.checker.specs.declared.differences.Checked.{Checked}
use Rattle.checker.specs.declared.differences.Checked.TheVariants as checked
use Rattle.checker.specs.BallotsRoundTrip.{AreCheckedAsTold, AreHinderedAsTold, AreReadBack, CanBeReadBack}
use Rattle.office.specs.Sheets.{IsTextual, bundles_shown, declaration_of, election_shown, lots_shown, sheet_of}
use Rattle.office.specs.declared.sheets.WardText.TheVariants.{Ballots, Declaration, Sheet}
use Rattle.sheet_round_trip.specs.OwnTexts.{DeclaredAreFinished, IsConfirmed, IsFinished, IsReadAs, IsTold, IsWardOf}
use Rattle.sheet_round_trip.proofs.BallotLemmas.{can_be_read_back, own_lots_small, own_numbers}
use Rattle.sheet_round_trip.proofs.StateLemmas.{counted_right, declared_is_finished, own_yes}
use Rattle.sheet_round_trip.proofs.ToldLemmas.{told_of}
use Rattle.sheet_round_trip.proofs.YesLemmas.{IsYes, confirmed}

-- a declared ward has been sealed
declared_is_sealed : (phase : Phase) → is_declared phase ≡ true → is_counted phase ≡ true
declared_is_sealed Nominations is = absurd (cc)
declared_is_sealed Keying is = absurd (cc)
declared_is_sealed Sealed is = refl
declared_is_sealed Declared is = refl

pub declared_finished : DeclaredAreFinished
declared_finished s w of declared = declared_is_finished (election_of s w) (declared_is_sealed w.phase declared) (counted_right s w of.state of.there) declared

-- given the laws of reading back, of the texts, and of a ward's columns
module _
    (read_back : AreReadBack) (checked_so : AreCheckedAsTold) (hindered_so : AreHinderedAsTold) (textual : (s : OfficeState) (w : WardEntry) → IsState s
    → ward_at s w.number ≡ Some w → IsTextual (election_of s w))
    (columns : (s : OfficeState) (ward : ℕ) → IsState s → columns_of (candidates_of s ward) ≡ map (λ c. c.number) (candidates_of s ward)) (s : OfficeState) (w : WardEntry)
  where
    can : IsWardOf s w → CanBeReadBack (election_shown (election_of s w)) (bundles_shown (election_of s w)) (lots_shown (election_of s w))
    can of = can_be_read_back s w of.state of.there (columns s w.number of.state) (textual s w of.state of.there)

    pub ballots_read : (file : List ℕ) → IsWardOf s w → IsTold s w Ballots file → IsReadAs file (election_of s w)
    ballots_read file of told =
        let is = told_of Ballots s w file of.there told in
        let back = read_back _ _ _ (can of) in
        subst (λ (f : List ℕ). IsReadAs f (election_of s w)) (sym is.is)
        (record { reading = back.reading; understood = back.understood; ward_is = back.ward_is; bundles_are = back.bundles_are; lots_are = back.lots_are })

    confirms : (file text : List ℕ) (answer : Checked) → IsYes answer → IsWardOf s w → IsFinished (election_of s w) → IsTold s w Ballots file
        → IsComparison text (sheet_of (election_of s w)) (declaration_of (election_of s w)) answer → IsConfirmed file text answer
    confirms file text answer is_yes of finished told compared =
        let is = told_of Ballots s w file of.there told in
        let fine = textual s w of.state of.there in
        let numbers = columns s w.number of.state in
        let small = own_lots_small s w of.state of.there numbers fine in
        let own = own_numbers s w of.state of.there numbers fine in
        let right = counted_right s w of.state of.there in
        let has = own_yes (election_of s w) is.in_phase right own fine.counted small finished text answer is_yes compared in
        subst (λ (f : List ℕ). IsConfirmed f text answer) (sym is.is) (confirmed _ _ _ text answer read_back checked_so hindered_so (can of) has)

    pub sheet_confirmed : (file text : List ℕ) → IsWardOf s w → IsFinished (election_of s w) → IsTold s w Ballots file → IsTold s w Sheet text → IsConfirmed file text checked.Sheet
    sheet_confirmed file text of finished told shown =
        let own = told_of Sheet s w text of.there shown in
        confirms file text checked.Sheet tt of finished told own.is

    pub declaration_confirmed : (file text : List ℕ) → IsWardOf s w → IsTold s w Ballots file → IsTold s w Declaration text → IsConfirmed file text checked.Declaration
    declaration_confirmed file text of told shown =
        let own = told_of Declaration s w text of.there shown in
        confirms file text checked.Declaration tt of (declared_finished s w of own.in_phase) told own.is
