-- The tabulation of an example count, worked out by hand.
use Rattle.std.specs.Prelude.{◌≡◌, ℕ, true, List, [], ◌∷◌, ◌++◌, replicate}
use Rattle.register.specs.declared.phase.Phase.TheVariants.{Sealed}
use Rattle.register.specs.Tabulated.{PlacedEntry, FigureEntry, bundles_in, figures_in}
use Rattle.register.specs.Elections.{ElectionEntry}
use Rattle.register.specs.WorkedOffice.{harbour, dee, eve, fay}

-- the election in Harbour after the given number of stages: three candidates contest its two seats; of its nine papers, four read 1, 2; two read 1, 3;
-- one reads 2; and two read 3
abbrev pub harbour_after : ℕ → ElectionEntry
harbour_after done =
    record {
      ward = record (harbour Sealed) { done = done };
      candidates = dee 7 ∷ eve 7 ∷ fay 7 ∷ [];
      ballots = record { papers = replicate 4 (1 ∷ 2 ∷ []) ++ replicate 2 (1 ∷ 3 ∷ []) ++ replicate 1 (2 ∷ []) ++ replicate 2 (3 ∷ []); rejected = 0 ∷ 0 ∷ 0 ∷ 0 ∷ 0 ∷ []; settled = true };
      lots = [];
    }

-- a bundle from Harbour, and a figure
abbrev pub lies : List ℕ → ℕ → ℕ → ℕ → PlacedEntry
lies list papers holder value = record { ward = 7; list = list; papers = papers; holder = holder; value = value }

abbrev pub shows : ℕ → ℕ → ℕ → ℕ → FigureEntry
shows stage candidate units mark = record { ward = 7; stage = stage; candidate = candidate; units = units; mark = mark }

-- the figures of Harbour's first two stages
abbrev pub first_figures : List FigureEntry
first_figures = shows 1 0 0 0 ∷ shows 1 1 600000 1 ∷ shows 1 2 100000 0 ∷ shows 1 3 200000 0 ∷ shows 1 99 0 0 ∷ []

abbrev pub second_figures : List FigureEntry
second_figures = shows 2 0 0 0 ∷ shows 2 1 400000 3 ∷ shows 2 2 233332 0 ∷ shows 2 3 266666 0 ∷ shows 2 99 2 0 ∷ []

-- Before the first stage, nothing is tabulated. After it, each bundle is held by its first preference, at one vote. After the second stage, the bundles
-- of candidate 1, who has 2 votes more than the quota of 4, are held by their next preferences, each paper at 0.33333.
pub record WorkedTabulation : Type 0 where
  pub none_placed : bundles_in (harbour_after 0) ≡ []
  pub none_shown : figures_in (harbour_after 0) ≡ []
  pub placed_first : bundles_in (harbour_after 1) ≡ lies (1 ∷ 2 ∷ []) 4 1 100000 ∷ lies (1 ∷ 3 ∷ []) 2 1 100000 ∷ lies (2 ∷ []) 1 2 100000 ∷ lies (3 ∷ []) 2 3 100000 ∷ []
  pub shown_first : figures_in (harbour_after 1) ≡ first_figures
  pub placed_second : bundles_in (harbour_after 2) ≡ lies (1 ∷ 2 ∷ []) 4 2 33333 ∷ lies (1 ∷ 3 ∷ []) 2 3 33333 ∷ lies (2 ∷ []) 1 2 100000 ∷ lies (3 ∷ []) 2 3 100000 ∷ []
  pub shown_second : figures_in (harbour_after 2) ≡ first_figures ++ second_figures
