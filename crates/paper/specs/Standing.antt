-- The status of each candidate, and the next available preference.
use Rattle.std.specs.Prelude.{◌≡◌, ℕ, nat_eq, Bool, true, false, if◌then◌else◌, List, [], ◌∷◌, drop, slice_index_or, Option}
use Rattle.std.specs.List.{list_any, find}
use Rattle.paper.specs.declared.standing.CandidateStatus.{CandidateStatus}
use Rattle.paper.specs.declared.standing.CandidateStatus.TheVariants.{Continuing, Elected, Excluded, Absent}

-- the status of a number in a standing: the element at that index, or absent past the end
abbrev pub status_of : List CandidateStatus → ℕ → CandidateStatus
status_of standing c = slice_index_or standing c Absent

-- the status of a number, given the sets of continuing, elected and excluded candidates
abbrev pub status_among : List ℕ → List ℕ → List ℕ → ℕ → CandidateStatus
status_among continuing elected excluded c =
    if list_any (nat_eq c) continuing then Continuing else (
    if list_any (nat_eq c) elected then Elected else (
    if list_any (nat_eq c) excluded then Excluded else Absent))

-- two sets have no number in common
abbrev pub AreApart : List ℕ → List ℕ → Type 0
AreApart xs ys = (c : ℕ) → list_any (nat_eq c) xs ≡ true → list_any (nat_eq c) ys ≡ false

-- whether a status is that of a continuing candidate
abbrev pub is_continuing_status : CandidateStatus → Bool
is_continuing_status Continuing = true
is_continuing_status Elected = false
is_continuing_status Excluded = false
is_continuing_status Absent = false

-- whether a number belongs to a continuing candidate
abbrev pub is_continuing : List CandidateStatus → ℕ → Bool
is_continuing standing c = is_continuing_status (status_of standing c)

-- Transfer of ballot papers: the next available preference, from a given place onwards, is the first preference for a
-- continuing candidate; preferences for other candidates are skipped
abbrev pub next_available_of : List ℕ → ℕ → List CandidateStatus → Option ℕ
next_available_of prefs from standing = find (is_continuing standing) (drop from prefs)

-- the rest of a list, starting at the first element that passes a test
abbrev pub from_first : {X : Type 0} → (X → Bool) → List X → List X
from_first test [] = []
from_first test (x ∷ xs) = if test x then x ∷ xs else from_first test xs
