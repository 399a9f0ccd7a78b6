-- The place of each paper after given stages, and its value.
use Rattle.std.specs.Prelude.{ℕ, ◌-◌, ◌==◌, if◌then◌else◌, List, [], ◌∷◌, drop}
use Rattle.votes.specs.Units.{one_vote, cut}
use Rattle.paper.specs.Standing.{from_first}
use Rattle.count.specs.Law.Contest.{Contest, History, newest_votes}
use Rattle.count.specs.Law.Elected.{is_continuing}
use Rattle.count.specs.declared.stages.Action.{Action}
use Rattle.count.specs.declared.stages.Action.TheVariants.{First, Surplus, Exclude, ExcludeLast}

-- the place of a paper: its holder, 0 for no one, and the value in units at which it was received
pub record Place : Type 0 where
  pub holder : ℕ
  pub value : ℕ

-- the first of a list of preferences, or 0 if it is empty
abbrev pub first_of : List ℕ → ℕ
first_of [] = 0
first_of (x ∷ xs) = x

-- the preferences of a paper after the one for c
abbrev pub after : ℕ → List ℕ → List ℕ
after c paper = drop 1 (from_first (λ d. d == c) paper)

-- Transfer of ballot papers: the next available preference after c is the next one for a continuing candidate; 0 if there is none
abbrev pub next_available : Contest → History → ℕ → List ℕ → ℕ
next_available contest stages c paper = first_of (from_first (is_continuing contest stages) (after c paper))

-- Transfer of ballot papers: the votes of c above the quota
abbrev pub surplus_of : Contest → History → ℕ → ℕ
surplus_of contest stages c = newest_votes stages c - contest.quota

-- if c holds a paper, it passes to its next available preference, at the given value; otherwise it stays
abbrev pub passed_on : Contest → History → ℕ → List ℕ → Place → ℕ → Place
passed_on contest before c paper at new_value =
    if at.holder == c then record { holder = next_available contest before c paper; value = new_value } else at

-- The place to which an action after the given stages moves a paper. At the first stage: to its first preference, as one vote. Transfer of ballot papers,
-- Transfer values: on a surplus, all papers of c are transferred, each at its value times the share of the surplus, rounded down. Exclusion of candidates:
-- on an exclusion, all papers of c are transferred, each at the value at which it was received. Filling of last vacancies: an exclusion that fills the last
-- vacancies moves nothing.
abbrev pub moved : Contest → History → Action → List ℕ → Place → Place
moved contest before First paper at = record { holder = first_of paper; value = one_vote }
moved contest before (Surplus c) paper at =
    passed_on contest before c paper at (cut (surplus_of contest before c) at.value (newest_votes before c))
moved contest before (Exclude c) paper at = passed_on contest before c paper at at.value
moved contest before (ExcludeLast c) paper at = at

-- the place of a paper after the given stages
abbrev pub place : Contest → History → List ℕ → Place
place contest [] paper = record { holder = 0; value = 0 }
place contest (s ∷ before) paper = moved contest before s.action paper (place contest before paper)
