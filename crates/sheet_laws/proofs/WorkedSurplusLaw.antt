-- A surplus compared with its stage, worked through: three papers of the candidate are first preferences, and seven were received with an earlier surplus.
use Rattle.std.proofs.Common.{◌≡◌, ◌-◌, ℕ, List, [], ◌∷◌, length, map, refl}
use Rattle.std.specs.List.{sum_by}
use Rattle.count.specs.Bundles.{Bundle, papers_of}
use Rattle.count.specs.Law.Contest.{Contest, History, contest_for}
use Rattle.count.specs.Law.Count.{stages_to}
use Rattle.count.specs.declared.stages.Stage.{Stage}
use Rattle.sheet.specs.Surpluses.{all_held, papers_in, surpluses_of}
use Rattle.sheet.specs.declared.surpluses.PassedOn.{PassedOn}
use Rattle.sheet_laws.specs.SurplusLaw.{gained, others, papers_held, papers_held_at, papers_received_at, passed_at, value_received, value_transferred}

abbrev bundles : List Bundle
bundles = (1 ∷ [], 1) ∷ (1 ∷ 2 ∷ [], 3) ∷ (1 ∷ 2 ∷ 3 ∷ [], 4) ∷ (2 ∷ [], 3) ∷ (3 ∷ [], 1) ∷ (4 ∷ [], 1) ∷ []

abbrev contest : Contest
contest = contest_for (1 ∷ 2 ∷ 3 ∷ 4 ∷ []) 3 (papers_of bundles)

-- the papers that pass on at stage 3
abbrev groups : List PassedOn
groups = all_held contest (stages_to contest [] 2) bundles 2

-- two stages transfer a surplus, the first of them of one group, and the second of two
each_stage : surpluses_of (1 ∷ 2 ∷ 3 ∷ 4 ∷ []) 3 bundles [] 3 ≡ passed_at contest bundles (stages_to contest [] 3)
unfolding stages_to
each_stage = refl

as_many : papers_in groups ≡ 10
unfolding stages_to
as_many = refl

held_papers : length (papers_held contest (stages_to contest [] 2) 2) ≡ 10
unfolding stages_to
held_papers = refl

as_many_halves : papers_received_at 50000 groups ≡ 7
unfolding stages_to
as_many_halves = refl

held_halves : length (papers_held_at contest (stages_to contest [] 2) 2 50000) ≡ 7
unfolding stages_to
held_halves = refl

all_votes : value_received groups ≡ 650000
unfolding stages_to
all_votes = refl

-- of a surplus of 250000 units 7 are lost
passed_value : value_transferred groups ≡ 249993
unfolding stages_to
passed_value = refl

lost_units : map (λ (s : Stage). s.lost) (stages_to contest [] 3) ≡ 7 ∷ 0 ∷ 0 ∷ []
unfolding stages_to
lost_units = refl

-- what the others gain at the newest of two stages or more, and the growth of the non-transferable votes
newest_gains : History → List ℕ
newest_gains [] = []
newest_gains (s ∷ []) = []
newest_gains (s ∷ old ∷ older) = sum_by (gained s old) (others contest 2) ∷ (s.non_transferable - old.non_transferable) ∷ []

-- candidate 3 gains four papers at 0.19230; the other six, three of either value, have no next preference
all_gains : newest_gains (stages_to contest [] 3) ≡ 76920 ∷ 173073 ∷ []
unfolding stages_to newest_gains
all_gains = refl
