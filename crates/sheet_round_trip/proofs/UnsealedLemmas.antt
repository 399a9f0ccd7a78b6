-- A ward of a state that isn't sealed has the same row on the page of all wards, whether or not its candidates are known.
use Rattle.std.proofs.Common.{◌≡◌, ℕ, Bool, true, false, List, [], map, filter, refl, ap, ◌∙◌}
use Rattle.std.proofs.lemmas.Bool.{cond-false}
use Rattle.sheet.specs.Index.{ListedEntry, index_row}
use Rattle.checker.specs.Folders.{UnsealedEntry, is_unsealed, listed_of}
use Rattle.register.specs.declared.phase.Phase.{Phase}
use Rattle.register.specs.declared.phase.Phase.TheVariants.{Nominations, Keying, Sealed, Declared}
use Rattle.register.specs.Offices.{CandidateEntry, OfficeState, WardEntry, candidates_of}
use Rattle.register.specs.Elections.{is_counted, is_declared}
use Rattle.store.specs.Overviews.{ward_view_of}
use Rattle.office.specs.Index.{is_among_elected, listed_shown, standing_in}
use Rattle.office.specs.Sheets.{candidate_shown}

-- whether the papers of a ward are being keyed
abbrev is_in_keying : Phase → Bool
is_in_keying Nominations = false
is_in_keying Keying = true
is_in_keying Sealed = false
is_in_keying Declared = false

-- a ward that isn't sealed isn't declared
undeclared : (phase : Phase) → is_counted phase ≡ false → is_declared phase ≡ false
undeclared Nominations unsealed = refl
undeclared Keying unsealed = refl
undeclared Sealed unsealed = absurd (cc)
undeclared Declared unsealed = absurd (cc)

-- the ward, as the checker makes it
abbrev pub unsealed_of : WardEntry → UnsealedEntry
unsealed_of w = record { number = w.number; name = w.name; seats = w.seats; is_keying = is_in_keying w.phase }

-- its entry, without anybody elected
abbrev listed_with : WardEntry → Phase → Bool → ListedEntry
listed_with w phase contested = record { number = w.number; name = w.name; seats = w.seats; standing = standing_in phase; is_contested = contested; elected = [] }

row_in : (w : WardEntry) (phase : Phase) (contested : Bool) → is_counted phase ≡ false
    → index_row (listed_with w phase contested) ≡ index_row (listed_of (is_unsealed (record { number = w.number; name = w.name; seats = w.seats; is_keying = is_in_keying phase })))
row_in w Nominations contested unsealed = refl
row_in w Keying contested unsealed = refl
row_in w Sealed contested unsealed = absurd (cc)
row_in w Declared contested unsealed = absurd (cc)

-- nobody is elected in it
none_elected : (s : OfficeState) (w : WardEntry) → is_declared w.phase ≡ false → (listed_shown (ward_view_of s w)).elected ≡ []
none_elected s w undeclared =
    ap (λ (cs : List CandidateEntry). map candidate_shown (filter (is_among_elected (ward_view_of s w).elected) cs)) (cond-false (is_declared w.phase) (candidates_of s w.number) [] undeclared)

pub same_row : (s : OfficeState) (w : WardEntry) → is_counted w.phase ≡ false → index_row (listed_shown (ward_view_of s w)) ≡ index_row (listed_of (is_unsealed (unsealed_of w)))
same_row s w unsealed =
    let listed : ListedEntry = listed_shown (ward_view_of s w) in
    ap (λ (elected : List (ℕ × List ℕ)). index_row (record listed { elected = elected })) (none_elected s w (undeclared w.phase unsealed))
    ∙ row_in w w.phase listed.is_contested unsealed
