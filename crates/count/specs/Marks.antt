-- What a stage shows for each candidate: the votes, and a mark.
use Rattle.std.specs.Prelude.{ℕ, ◌==◌, Bool, nat_eq, if◌then◌else◌, List, [], ◌∷◌, ◌++◌, map}
use Rattle.std.specs.List.{list_any}
use Rattle.count.specs.Law.Contest.{History, votes_at}
use Rattle.count.specs.Law.Elected.{is_excluded}
use Rattle.count.specs.declared.figures.Figure.{Figure}
use Rattle.count.specs.declared.stages.Action.{Action}
use Rattle.count.specs.declared.stages.Action.TheVariants.{First, Surplus, Exclude, ExcludeLast}
use Rattle.count.specs.declared.stages.Stage.{Stage}

-- the numbers for the non-transferable votes and for the loss by fractions
abbrev pub no_candidate : ℕ
no_candidate = 0

abbrev pub fractions : ℕ
fractions = 99

-- whether c was named as elected at some stage
abbrev pub is_named : History → ℕ → Bool
is_named stages c = list_any (λ (s : Stage). list_any (nat_eq c) s.elected) stages

-- ---- marks

-- the candidate continues; also the mark of figures that don't belong to a candidate
abbrev pub continuing : ℕ
continuing = 0

-- the candidate is elected
abbrev pub elected : ℕ
elected = 1

-- the candidate was excluded at an earlier stage
abbrev pub excluded : ℕ
excluded = 2

-- the candidate is elected, and the surplus is transferred at this stage
abbrev pub surplus_now : ℕ
surplus_now = 3

-- the candidate is excluded at this stage, and the candidate's papers are transferred
abbrev pub excluded_now : ℕ
excluded_now = 4

-- the candidate is excluded at this stage to fill the last vacancies, and nothing is transferred
abbrev pub excluded_last : ℕ
excluded_last = 5

-- the mark of c at a stage that doesn't act on c
abbrev pub standing_mark : History → ℕ → ℕ
standing_mark stages c = if is_named stages c then elected else if is_excluded stages c then excluded else continuing

-- the mark of c at the stage of the given action: that of the action if it acts on c, otherwise the other mark
abbrev pub mark_by : Action → ℕ → ℕ → ℕ
mark_by First c other = other
mark_by (Surplus d) c other = if d == c then surplus_now else other
mark_by (Exclude d) c other = if d == c then excluded_now else other
mark_by (ExcludeLast d) c other = if d == c then excluded_last else other

-- the figure of c at the newest stage
abbrev pub figure_of : Stage → History → ℕ → Figure
figure_of newest stages c = record { candidate = c; units = votes_at newest c; mark = mark_by newest.action c (standing_mark stages c) }

-- the figures of the newest stage: the non-transferable votes, each candidate in ascending order, and the loss by fractions
abbrev pub figures_at : List ℕ → History → List Figure
figures_at candidates [] = []
figures_at candidates (s ∷ before) =
    record { candidate = no_candidate; units = s.non_transferable; mark = continuing }
    ∷ map (figure_of s (s ∷ before)) candidates ++ record { candidate = fractions; units = s.lost; mark = continuing } ∷ []

-- the figures of all stages, in order
abbrev pub all_figures : List ℕ → History → List Figure
all_figures candidates [] = []
all_figures candidates (s ∷ before) = all_figures candidates before ++ figures_at candidates (s ∷ before)
