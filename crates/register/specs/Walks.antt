-- How this crate's private functions iterate over lists. No public contract refers to this file, so readers of the contracts can skip
-- it.
use Rattle.std.specs.Prelude.{ℕ, ◌+◌, ◌-◌, ◌==◌, ◌&&◌, Bool, if◌then◌else◌, List, [], ◌∷◌, map, length, reverse, slice_index}
use Rattle.count.specs.Bundles.{Bundle}
use Rattle.count.specs.Marks.{figures_at}
use Rattle.count.specs.Law.Places.{Place}
use Rattle.count.specs.declared.placed.Placed.{Placed}
use Rattle.count.specs.declared.stages.Stage.{Stage}
use Rattle.register.specs.declared.polls.Judgement.{Judgement}
use Rattle.register.specs.Polls.{is_rejected}
use Rattle.register.specs.Tabulated.{PlacedEntry, FigureEntry, AdditionEntries, placed_at, figure_at, figures_to}

-- the number of papers rejected with each code from 1 to 5, updated for one judgement; folding this over all judgements yields
-- `rejected_with` for each code
abbrev pub and_rejected : List ℕ → Judgement → List ℕ
and_rejected rejected judgement =
    map (λ n. slice_index rejected (n - 1) + (if is_rejected n judgement then 1 else 0)) (1 ∷ 2 ∷ 3 ∷ 4 ∷ 5 ∷ [])

-- two places are equal
abbrev pub is_same_placed : Placed → Placed → Bool
is_same_placed old new = (old.holder == new.holder) && (old.value == new.value)

-- a ward's bundles whose old and new places differ
abbrev pub moved_bundles : ℕ → List Bundle → List Placed → List Placed → List PlacedEntry
moved_bundles ward [] before now = []
moved_bundles ward (b ∷ bs) [] now = []
moved_bundles ward (b ∷ bs) (old ∷ before) [] = []
moved_bundles ward (b ∷ bs) (old ∷ before) (new ∷ now) =
    (if is_same_placed old new then moved_bundles ward bs before now else record { ward = ward; list = b.0; papers = b.1; holder = new.holder; value = new.value } ∷ moved_bundles ward bs before now)

-- the figures of the latest stage of a ward, with the number of that stage
abbrev pub last_figures : ℕ → List ℕ → List Stage → List FigureEntry
last_figures ward candidates stages = map (figure_at ward (length stages)) (figures_at candidates (reverse stages))

-- what the first stage of a ward's count adds, given its bundles, their new places, and the stages
abbrev pub all_added : ℕ → List ℕ → List Bundle → (List ℕ → Place) → List Stage → AdditionEntries
all_added ward candidates bundles now stages = record { placed = map (λ (b : Bundle). placed_at ward b (now b.0)) bundles; moved = []; figures = figures_to ward candidates (reverse stages) }

-- what a later stage adds, given the old and new places of the bundles, and the stages
abbrev pub moves_added : ℕ → List ℕ → List Bundle → List Placed → List Placed → List Stage → AdditionEntries
moves_added ward candidates bundles before now stages = record { placed = []; moved = moved_bundles ward bundles before now; figures = last_figures ward candidates stages }
