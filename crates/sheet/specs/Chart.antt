-- The chart of a ward's votes: one row per candidate, with a bar and its figures. The longest bar represents the maximum and has length 100.
use Rattle.std.specs.Prelude.{ℕ, ◌+◌, ◌-◌, ◌*◌, ◌/◌, nat_lt, nat_eq, min, max, if◌then◌else◌, List, [], ◌∷◌, ◌++◌, length, slice_get, codes, decimal}
use Rattle.std.specs.Prelude.{Option, Some, None, position}
use Rattle.std.specs.List.{list_any, flat_map}
use Rattle.votes.specs.Units.{quota_of}
use Rattle.votes.specs.Text.{votes_text}
use Rattle.count.specs.Law.Contest.{votes_at}
use Rattle.count.specs.Law.Elected.{excludes}
use Rattle.count.specs.declared.stages.Stage.{Stage}
use Rattle.sheet.specs.Cells.{votes_or}
use Rattle.sheet.specs.Entries.{SheetEntry}
use Rattle.sheet.specs.Lines.{joined, line, named}
use Rattle.sheet.specs.Look.{legend, patterns}
use Rattle.sheet.specs.declared.chart.Scale.{Scale}
use Rattle.sheet.specs.declared.chart.Ending.{Ending}
use Rattle.sheet.specs.declared.chart.Ending.TheVariants.{Elected, Excluded, Neither}
use Rattle.sheet.specs.declared.ward.Poll.{Poll}

-- the maximum of the given values and another value
abbrev pub greatest : ℕ → List ℕ → ℕ
greatest most [] = most
greatest most (units ∷ others) = greatest (if nat_lt most units then units else most) others

-- the maximum of the votes at the given stages and another value
abbrev pub greatest_at : ℕ → List Stage → ℕ
greatest_at most [] = most
greatest_at most (stage ∷ later) = greatest_at (greatest most stage.votes) later

-- the scale of the bars: the quota, and the maximum of the quota and all votes at any stage
abbrev pub scale_of : ℕ → Poll → List Stage → Scale
scale_of seats poll stages = let quota = quota_of poll.valid seats in record { quota = quota; most = greatest_at quota stages }

-- the length of a bar: 100 for the maximum, rounded down to a whole number, and never more than 100
abbrev pub bar_length : Scale → ℕ → ℕ
bar_length scale units = min (units * 100 / max scale.most 1) 100

-- the maximum of a candidate's votes at the given stages and another value
abbrev pub most_votes : ℕ → List Stage → ℕ → ℕ
most_votes most [] c = most
most_votes most (stage ∷ later) c = most_votes (if nat_lt most (votes_at stage c) then votes_at stage c else most) later c

-- the number of stages before the one at which a candidate is elected, if there is one
abbrev pub elected_place : List Stage → ℕ → Option ℕ
elected_place stages c = position (λ s. list_any (nat_eq c) s.elected) stages

-- the number of stages before the one at which a candidate is excluded, if there is one
abbrev pub excluded_place : List Stage → ℕ → Option ℕ
excluded_place stages c = position (λ s. excludes s.action c) stages

-- the final outcome for a candidate: elected at a stage, or excluded at a stage, or neither by the last stage
abbrev pub ending_by : ℕ → Option ℕ → Option ℕ → Ending
ending_by last (Some place) excluded = Elected (place + 1)
ending_by last None (Some place) = Excluded (place + 1)
ending_by last None None = Neither last

abbrev pub ending_of : List Stage → ℕ → Ending
ending_of stages c = ending_by (length stages) (elected_place stages c) (excluded_place stages c)

-- the class of the row, which determines its style
abbrev pub ending_class : Ending → List ℕ
ending_class (Elected k) = codes "elected"
ending_class (Excluded k) = codes "excluded"
ending_class (Neither k) = codes "neither"

-- the outcome in words, to be followed by the number of the stage
abbrev pub ending_words : Ending → List ℕ
ending_words (Elected k) = codes "<b>elected</b> at stage "
ending_words (Excluded k) = codes "excluded at stage "
ending_words (Neither k) = codes "not elected up to stage "

-- the number of an outcome's stage
abbrev pub ending_stage : Ending → ℕ
ending_stage (Elected k) = k
ending_stage (Excluded k) = k
ending_stage (Neither k) = k

-- a bar: the votes at the first stage, then those gained later, and the quota
abbrev pub bar : Scale → ℕ → ℕ → List (List ℕ)
bar scale first most =
    codes "<svg class=\"bar\" aria-hidden=\"true\"><rect class=\"first\" width=\"" ∷ decimal (bar_length scale first) ∷
    codes "%\" height=\"100%\"/><rect class=\"later\" x=\"" ∷ decimal (bar_length scale first) ∷
    codes "%\" width=\"" ∷ decimal (bar_length scale most - bar_length scale first) ∷
    codes "%\" height=\"100%\"/><rect class=\"quota\" x=\"" ∷ decimal (bar_length scale scale.quota) ∷
    codes "%\" width=\"3\" height=\"100%\"/></svg>" ∷ []

-- the figures next to a bar: the votes at the first stage, the outcome, and the most votes
abbrev pub figures : ℕ → ℕ → Ending → List (List ℕ)
figures first most ending =
    codes "<span class=\"had\">" ∷ votes_text first ∷ codes " at stage 1</span><span class=\"end\">" ∷ ending_words ending ∷ decimal (ending_stage ending) ∷
    codes ", with " ∷ votes_text most ∷ codes "</span></li>" ∷ []

-- the candidate, at the beginning of the row
abbrev pub who : Ending → ℕ → List ℕ → List ℕ
who ending c name = joined (codes "<li class=\"" ∷ ending_class ending ∷ codes "\"><span class=\"who\">" ∷ named c name ∷ codes "</span>" ∷ [])

-- a row: the candidate, the bar, and its figures
abbrev pub chart_line : Scale → ℕ → ℕ → Ending → ℕ → List ℕ → List ℕ
chart_line scale first most ending c name =
    who ending c name ++ joined (bar scale first most) ++ line (figures first most ending)

-- the row of a candidate
abbrev pub chart_row : Scale → List Stage → ℕ → List ℕ → List ℕ
chart_row scale stages c name = chart_line scale (votes_or 0 (slice_get stages 0) c) (most_votes 0 stages c) (ending_of stages c) c name

-- the part before the rows, which explains the bars
abbrev pub chart_head : ℕ → List ℕ
chart_head quota = line (codes "<h2>Votes of each candidate</h2>\n" ∷ patterns ∷ legend ∷ votes_text quota ∷ codes "</span></p>\n<ul class=\"chart\">" ∷ [])

-- the chart of the stages of a ward
abbrev pub chart : SheetEntry → Scale → List Stage → List ℕ
chart ward scale stages =
    chart_head scale.quota
    ++ flat_map (λ candidate. chart_row scale stages candidate.0 candidate.1) ward.candidates
    ++ line (codes "</ul>" ∷ [])
