-- The lots of a ward on a page: for each, its stage, the tied candidates, and what it decided.
use Rattle.std.specs.Prelude.{ℕ, ◌-◌, Bool, not, ◌&&◌, ◌==◌, nat_lt, if◌then◌else◌, List, [], ◌∷◌, ◌++◌, length, take, slice_get, codes, decimal, Option, Some, None}
use Rattle.std.specs.List.{list_all, list_any, flat_map}
use Rattle.count.specs.Law.Contest.{votes_at}
use Rattle.count.specs.declared.stages.Stage.{Stage}
use Rattle.count.specs.declared.stages.Action.{Action}
use Rattle.count.specs.declared.stages.Action.TheVariants.{First, Surplus, Exclude, ExcludeLast}
use Rattle.sheet.specs.Names.{name_at, name_or_withdrawn}
use Rattle.sheet.specs.Entries.{SheetEntry}
use Rattle.sheet.specs.Lines.{joined, line, named}
use Rattle.sheet.specs.Stages.{is_excluded_at}

-- whether two candidates had equal votes at each of the given stages
abbrev pub are_equal_at : List Stage → ℕ → ℕ → Bool
are_equal_at stages c d = list_all (λ s. votes_at s c == votes_at s d) stages

-- whether a candidate was tied with the one drawn by lot: not excluded before it, and with equal votes at all stages
abbrev pub is_tied : List Stage → ℕ → ℕ → Bool
is_tied earlier c d = not (is_excluded_at earlier d) && are_equal_at earlier c d

-- whether some candidate tied with `c` has a lower number than `d`, and whether some candidate has a higher one; names make no difference
abbrev pub has_tied_below : {N : Type 0} → List (ℕ × N) → List Stage → ℕ → ℕ → Bool
has_tied_below candidates earlier c d = list_any (λ candidate. nat_lt candidate.0 d && is_tied earlier c candidate.0) candidates

abbrev pub has_tied_above : {N : Type 0} → List (ℕ × N) → List Stage → ℕ → ℕ → Bool
has_tied_above candidates earlier c d = list_any (λ candidate. nat_lt d candidate.0 && is_tied earlier c candidate.0) candidates

-- the separator before a tied candidate: nothing before the first, ` and ` before the last, a comma before any other
abbrev pub tie_mark : Bool → Bool → List ℕ
tie_mark has_below has_above = if has_below then (if has_above then codes ", " else codes " and ") else []

-- a tied candidate
abbrev pub tied_name : List (ℕ × List ℕ) → List Stage → ℕ → ℕ → List ℕ → List ℕ
tied_name candidates earlier c d name =
    if is_tied earlier c d then joined (tie_mark (has_tied_below candidates earlier c d) (has_tied_above candidates earlier c d) ∷ named d name ∷ []) else []

-- `2 Bob, 4 Dot and 5 Ed`: all candidates who were tied with the one drawn by lot
abbrev pub tied_names : SheetEntry → List Stage → ℕ → List ℕ
tied_names ward earlier c = flat_map (λ candidate. tied_name ward.candidates earlier c candidate.0 candidate.1) ward.candidates

-- what a lot decided, given the action of its stage, once that stage has been completed
abbrev pub settled_by : Action → List ℕ
settled_by First = codes ": drawn "
settled_by (Surplus c) = codes ": first the surplus of "
settled_by (Exclude c) = codes ": excluded "
settled_by (ExcludeLast c) = codes ": excluded "

abbrev pub settled_at : Option Stage → List ℕ
settled_at None = codes ": drawn "
settled_at (Some stage) = settled_by stage.action

-- the stages before the one with the given number
abbrev pub stages_before : List Stage → ℕ → List Stage
stages_before stages k = take (k - 1) stages

-- `Lot at stage 2 between 2 Bob and 5 Ed: excluded 5 Ed`
abbrev pub lot_item : SheetEntry → List Stage → (ℕ × ℕ) → List ℕ
lot_item ward stages lot =
    joined (codes "<li>Lot at stage " ∷ decimal lot.0 ∷ codes " between " ∷ [])
    ++ tied_names ward (stages_before stages lot.0) lot.1
    ++ line (settled_at (slice_get stages (lot.0 - 1)) ∷ named lot.1 (name_or_withdrawn (name_at ward.candidates lot.1)) ∷ codes "</li>" ∷ [])

-- the lots that were drawn, below the ties that earlier stages settled
abbrev pub lots_text : SheetEntry → List Stage → List (ℕ × ℕ) → List ℕ
lots_text ward stages lots =
    if length lots == 0 then line (codes "<p>No lot was drawn.</p>" ∷ [])
    else line (codes "<ul>" ∷ []) ++ flat_map (lot_item ward stages) lots ++ line (codes "</ul>" ∷ [])
