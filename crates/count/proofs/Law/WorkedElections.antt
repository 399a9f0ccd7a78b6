-- Small elections counted by hand, evaluated against the definitions: a wrong figure, action or tie is rejected.
use Rattle.std.proofs.Common.{◌≡◌, ◌-◌, ℕ, List, [], ◌∷◌, ◌++◌, replicate, refl, length}
use Rattle.count.specs.Law.Contest.{Contest, History, contest_for}
use Rattle.count.specs.Law.Count.{stages_to}
use Rattle.count.specs.Law.Right.{IsRight, IsCount}
use Rattle.count.specs.Marks.{figures_at}
use Rattle.count.specs.declared.figures.Figure.{Figure}
use Rattle.count.specs.declared.stages.Stage.{Stage}
use Rattle.count.specs.declared.stages.Action.{Action}
use Rattle.count.specs.declared.stages.Action.TheVariants.{First, Surplus, Exclude, ExcludeLast}

-- a given number of equal papers
abbrev times : ℕ → List ℕ → List (List ℕ)
times n paper = replicate n paper

-- a stage at which all other numbers have no votes
abbrev stage : Action → List ℕ → List ℕ → ℕ → ℕ → Stage
stage action votes elected non_transferable lost =
    record { action = action; votes = votes ++ replicate (30 - length votes) 0; elected = elected; non_transferable = non_transferable; lost = lost }

-- a figure that a stage shows
abbrev figure : ℕ → ℕ → ℕ → Figure
figure candidate units mark = record { candidate = candidate; units = units; mark = mark }

-- Two seats: a surplus whose values are rounded down to 0.33333, and an exclusion that fills the last vacancy.
abbrev fractions : Contest
fractions = contest_for (1 ∷ 2 ∷ 3 ∷ []) 2
    (times 4 (1 ∷ 2 ∷ []) ++ times 2 (1 ∷ 3 ∷ []) ++ times 1 (2 ∷ []) ++ times 2 (3 ∷ []))

abbrev fractions_lots : List (ℕ × ℕ)
fractions_lots = []

abbrev fractions_1 : History
fractions_1 = stage First (600000 ∷ 100000 ∷ 200000 ∷ []) (1 ∷ []) 0 0 ∷ []

fractions_right_1 : IsRight fractions fractions_lots fractions_1
fractions_right_1 = (tt, record { was_due = refl; tells = record { votes_told = refl; elected_told = refl; non_transferable_told = refl; lost_told = refl } })

abbrev fractions_2 : History
fractions_2 = stage (Surplus 1) (400000 ∷ 233332 ∷ 266666 ∷ []) ([]) 0 2 ∷ fractions_1

fractions_right_2 : IsRight fractions fractions_lots fractions_2
fractions_right_2 = (fractions_right_1, record { was_due = refl; tells = record { votes_told = refl; elected_told = refl; non_transferable_told = refl; lost_told = refl } })

abbrev fractions_3 : History
fractions_3 = stage (ExcludeLast 2) (400000 ∷ 233332 ∷ 266666 ∷ []) (3 ∷ []) 0 2 ∷ fractions_2

fractions_right_3 : IsRight fractions fractions_lots fractions_3
fractions_right_3 = (fractions_right_2, record { was_due = refl; tells = record { votes_told = refl; elected_told = refl; non_transferable_told = refl; lost_told = refl } })

fractions_count : IsCount fractions fractions_lots fractions_3
fractions_count = (fractions_right_3, refl)

-- the figures of its stages: a surplus is marked 3 at its own stage, and 1 before and after
fractions_shown_1 : figures_at (1 ∷ 2 ∷ 3 ∷ []) fractions_1 ≡ figure 0 0 0 ∷ figure 1 600000 1 ∷ figure 2 100000 0 ∷ figure 3 200000 0 ∷ figure 99 0 0 ∷ []
fractions_shown_1 = refl

fractions_shown_2 : figures_at (1 ∷ 2 ∷ 3 ∷ []) fractions_2 ≡ figure 0 0 0 ∷ figure 1 400000 3 ∷ figure 2 233332 0 ∷ figure 3 266666 0 ∷ figure 99 2 0 ∷ []
fractions_shown_2 = refl

fractions_shown_3 : figures_at (1 ∷ 2 ∷ 3 ∷ []) fractions_3 ≡ figure 0 0 0 ∷ figure 1 400000 1 ∷ figure 2 233332 5 ∷ figure 3 266666 1 ∷ figure 99 2 0 ∷ []
fractions_shown_3 = refl

-- Three seats: a second surplus multiplies each paper's value when received, 1.00000 or 0.50000.
abbrev two_surpluses : Contest
two_surpluses = contest_for (1 ∷ 2 ∷ 3 ∷ 4 ∷ 5 ∷ []) 3
    (times 7 (1 ∷ 2 ∷ 3 ∷ []) ++ times 1 (1 ∷ 4 ∷ []) ++ times 3 (2 ∷ 3 ∷ []) ++ times 1 (3 ∷ []) ++ times 2 (4 ∷ []) ++ times 1 (5 ∷ []))

abbrev two_surpluses_lots : List (ℕ × ℕ)
two_surpluses_lots = []

abbrev two_surpluses_1 : History
two_surpluses_1 = stage First (800000 ∷ 300000 ∷ 100000 ∷ 200000 ∷ 100000 ∷ []) (1 ∷ []) 0 0 ∷ []

two_surpluses_right_1 : IsRight two_surpluses two_surpluses_lots two_surpluses_1
two_surpluses_right_1 = (tt, record { was_due = refl; tells = record { votes_told = refl; elected_told = refl; non_transferable_told = refl; lost_told = refl } })

abbrev two_surpluses_2 : History
two_surpluses_2 = stage (Surplus 1) (400000 ∷ 650000 ∷ 100000 ∷ 250000 ∷ 100000 ∷ []) (2 ∷ []) 0 0 ∷ two_surpluses_1

two_surpluses_right_2 : IsRight two_surpluses two_surpluses_lots two_surpluses_2
two_surpluses_right_2 = (two_surpluses_right_1, record { was_due = refl; tells = record { votes_told = refl; elected_told = refl; non_transferable_told = refl; lost_told = refl } })

abbrev two_surpluses_3 : History
two_surpluses_3 = stage (Surplus 2) (400000 ∷ 400000 ∷ 349993 ∷ 250000 ∷ 100000 ∷ []) ([]) 0 7 ∷ two_surpluses_2

two_surpluses_right_3 : IsRight two_surpluses two_surpluses_lots two_surpluses_3
two_surpluses_right_3 = (two_surpluses_right_2, record { was_due = refl; tells = record { votes_told = refl; elected_told = refl; non_transferable_told = refl; lost_told = refl } })

abbrev two_surpluses_4 : History
two_surpluses_4 = stage (Exclude 5) (400000 ∷ 400000 ∷ 349993 ∷ 250000 ∷ 0 ∷ []) ([]) 100000 7 ∷ two_surpluses_3

two_surpluses_right_4 : IsRight two_surpluses two_surpluses_lots two_surpluses_4
two_surpluses_right_4 = (two_surpluses_right_3, record { was_due = refl; tells = record { votes_told = refl; elected_told = refl; non_transferable_told = refl; lost_told = refl } })

abbrev two_surpluses_5 : History
two_surpluses_5 = stage (ExcludeLast 4) (400000 ∷ 400000 ∷ 349993 ∷ 250000 ∷ 0 ∷ []) (3 ∷ []) 100000 7 ∷ two_surpluses_4

two_surpluses_right_5 : IsRight two_surpluses two_surpluses_lots two_surpluses_5
two_surpluses_right_5 = (two_surpluses_right_4, record { was_due = refl; tells = record { votes_told = refl; elected_told = refl; non_transferable_told = refl; lost_told = refl } })

two_surpluses_count : IsCount two_surpluses two_surpluses_lots two_surpluses_5
two_surpluses_count = (two_surpluses_right_5, refl)

-- the figures of its last stages: an exclusion with transfer is marked 4 at its own stage, and 2 after it
two_surpluses_shown_4 : figures_at (1 ∷ 2 ∷ 3 ∷ 4 ∷ 5 ∷ []) two_surpluses_4 ≡
    figure 0 100000 0 ∷ figure 1 400000 1 ∷ figure 2 400000 1 ∷ figure 3 349993 0 ∷ figure 4 250000 0 ∷ figure 5 0 4 ∷ figure 99 7 0 ∷ []
two_surpluses_shown_4 = refl

two_surpluses_shown_5 : figures_at (1 ∷ 2 ∷ 3 ∷ 4 ∷ 5 ∷ []) two_surpluses_5 ≡
    figure 0 100000 0 ∷ figure 1 400000 1 ∷ figure 2 400000 1 ∷ figure 3 349993 1 ∷ figure 4 250000 5 ∷ figure 5 0 2 ∷ figure 99 7 0 ∷ []
two_surpluses_shown_5 = refl

-- One seat: a tie for exclusion is decided by the first stage, at which the two differed.
abbrev earlier_stage : Contest
earlier_stage = contest_for (1 ∷ 2 ∷ 3 ∷ 4 ∷ []) 1
    (times 5 (1 ∷ []) ++ times 3 (2 ∷ []) ++ times 2 (3 ∷ []) ++ times 1 (4 ∷ 3 ∷ []))

abbrev earlier_stage_lots : List (ℕ × ℕ)
earlier_stage_lots = []

abbrev earlier_stage_1 : History
earlier_stage_1 = stage First (500000 ∷ 300000 ∷ 200000 ∷ 100000 ∷ []) ([]) 0 0 ∷ []

earlier_stage_right_1 : IsRight earlier_stage earlier_stage_lots earlier_stage_1
earlier_stage_right_1 = (tt, record { was_due = refl; tells = record { votes_told = refl; elected_told = refl; non_transferable_told = refl; lost_told = refl } })

abbrev earlier_stage_2 : History
earlier_stage_2 = stage (Exclude 4) (500000 ∷ 300000 ∷ 300000 ∷ 0 ∷ []) ([]) 0 0 ∷ earlier_stage_1

earlier_stage_right_2 : IsRight earlier_stage earlier_stage_lots earlier_stage_2
earlier_stage_right_2 = (earlier_stage_right_1, record { was_due = refl; tells = record { votes_told = refl; elected_told = refl; non_transferable_told = refl; lost_told = refl } })

abbrev earlier_stage_3 : History
earlier_stage_3 = stage (Exclude 3) (500000 ∷ 300000 ∷ 0 ∷ 0 ∷ []) ([]) 300000 0 ∷ earlier_stage_2

earlier_stage_right_3 : IsRight earlier_stage earlier_stage_lots earlier_stage_3
earlier_stage_right_3 = (earlier_stage_right_2, record { was_due = refl; tells = record { votes_told = refl; elected_told = refl; non_transferable_told = refl; lost_told = refl } })

abbrev earlier_stage_4 : History
earlier_stage_4 = stage (ExcludeLast 2) (500000 ∷ 300000 ∷ 0 ∷ 0 ∷ []) (1 ∷ []) 300000 0 ∷ earlier_stage_3

earlier_stage_right_4 : IsRight earlier_stage earlier_stage_lots earlier_stage_4
earlier_stage_right_4 = (earlier_stage_right_3, record { was_due = refl; tells = record { votes_told = refl; elected_told = refl; non_transferable_told = refl; lost_told = refl } })

earlier_stage_count : IsCount earlier_stage earlier_stage_lots earlier_stage_4
earlier_stage_count = (earlier_stage_right_4, refl)

-- Three seats: two equal surpluses need a lot at stage 2.
abbrev lot_for_surplus : Contest
lot_for_surplus = contest_for (1 ∷ 2 ∷ 3 ∷ 4 ∷ 5 ∷ []) 3
    (times 5 (1 ∷ 3 ∷ []) ++ times 5 (2 ∷ 4 ∷ []) ++ times 2 (3 ∷ []) ++ times 1 (4 ∷ []) ++ times 1 (5 ∷ []))

abbrev lot_for_surplus_lots : List (ℕ × ℕ)
lot_for_surplus_lots = (2, 1) ∷ []

abbrev lot_for_surplus_1 : History
lot_for_surplus_1 = stage First (500000 ∷ 500000 ∷ 200000 ∷ 100000 ∷ 100000 ∷ []) (1 ∷ 2 ∷ []) 0 0 ∷ []

lot_for_surplus_right_1 : IsRight lot_for_surplus lot_for_surplus_lots lot_for_surplus_1
lot_for_surplus_right_1 = (tt, record { was_due = refl; tells = record { votes_told = refl; elected_told = refl; non_transferable_told = refl; lost_told = refl } })

abbrev lot_for_surplus_2 : History
lot_for_surplus_2 = stage (Surplus 1) (400000 ∷ 500000 ∷ 300000 ∷ 100000 ∷ 100000 ∷ []) ([]) 0 0 ∷ lot_for_surplus_1

lot_for_surplus_right_2 : IsRight lot_for_surplus lot_for_surplus_lots lot_for_surplus_2
lot_for_surplus_right_2 = (lot_for_surplus_right_1, record { was_due = refl; tells = record { votes_told = refl; elected_told = refl; non_transferable_told = refl; lost_told = refl } })

abbrev lot_for_surplus_3 : History
lot_for_surplus_3 = stage (Surplus 2) (400000 ∷ 400000 ∷ 300000 ∷ 200000 ∷ 100000 ∷ []) ([]) 0 0 ∷ lot_for_surplus_2

lot_for_surplus_right_3 : IsRight lot_for_surplus lot_for_surplus_lots lot_for_surplus_3
lot_for_surplus_right_3 = (lot_for_surplus_right_2, record { was_due = refl; tells = record { votes_told = refl; elected_told = refl; non_transferable_told = refl; lost_told = refl } })

abbrev lot_for_surplus_4 : History
lot_for_surplus_4 = stage (Exclude 5) (400000 ∷ 400000 ∷ 300000 ∷ 200000 ∷ 0 ∷ []) ([]) 100000 0 ∷ lot_for_surplus_3

lot_for_surplus_right_4 : IsRight lot_for_surplus lot_for_surplus_lots lot_for_surplus_4
lot_for_surplus_right_4 = (lot_for_surplus_right_3, record { was_due = refl; tells = record { votes_told = refl; elected_told = refl; non_transferable_told = refl; lost_told = refl } })

abbrev lot_for_surplus_5 : History
lot_for_surplus_5 = stage (ExcludeLast 4) (400000 ∷ 400000 ∷ 300000 ∷ 200000 ∷ 0 ∷ []) (3 ∷ []) 100000 0 ∷ lot_for_surplus_4

lot_for_surplus_right_5 : IsRight lot_for_surplus lot_for_surplus_lots lot_for_surplus_5
lot_for_surplus_right_5 = (lot_for_surplus_right_4, record { was_due = refl; tells = record { votes_told = refl; elected_told = refl; non_transferable_told = refl; lost_told = refl } })

lot_for_surplus_count : IsCount lot_for_surplus lot_for_surplus_lots lot_for_surplus_5
lot_for_surplus_count = (lot_for_surplus_right_5, refl)

lot_for_surplus_worked_out : stages_to lot_for_surplus lot_for_surplus_lots 5 ≡ lot_for_surplus_5
unfolding stages_to
lot_for_surplus_worked_out = refl

-- One seat: the most recent stage at which two differed decides, not the first.
abbrev most_recent_stage : Contest
most_recent_stage = contest_for (1 ∷ 2 ∷ 3 ∷ 4 ∷ 5 ∷ []) 1
    (times 10 (1 ∷ []) ++ times 5 (2 ∷ []) ++ times 4 (3 ∷ []) ++ times 2 (4 ∷ 3 ∷ []) ++ times 2 (5 ∷ []) ++ times 1 (5 ∷ 2 ∷ []))

abbrev most_recent_stage_lots : List (ℕ × ℕ)
most_recent_stage_lots = []

abbrev most_recent_stage_1 : History
most_recent_stage_1 = stage First (1000000 ∷ 500000 ∷ 400000 ∷ 200000 ∷ 300000 ∷ []) ([]) 0 0 ∷ []

most_recent_stage_right_1 : IsRight most_recent_stage most_recent_stage_lots most_recent_stage_1
most_recent_stage_right_1 = (tt, record { was_due = refl; tells = record { votes_told = refl; elected_told = refl; non_transferable_told = refl; lost_told = refl } })

abbrev most_recent_stage_2 : History
most_recent_stage_2 = stage (Exclude 4) (1000000 ∷ 500000 ∷ 600000 ∷ 0 ∷ 300000 ∷ []) ([]) 0 0 ∷ most_recent_stage_1

most_recent_stage_right_2 : IsRight most_recent_stage most_recent_stage_lots most_recent_stage_2
most_recent_stage_right_2 = (most_recent_stage_right_1, record { was_due = refl; tells = record { votes_told = refl; elected_told = refl; non_transferable_told = refl; lost_told = refl } })

abbrev most_recent_stage_3 : History
most_recent_stage_3 = stage (Exclude 5) (1000000 ∷ 600000 ∷ 600000 ∷ 0 ∷ 0 ∷ []) ([]) 200000 0 ∷ most_recent_stage_2

most_recent_stage_right_3 : IsRight most_recent_stage most_recent_stage_lots most_recent_stage_3
most_recent_stage_right_3 = (most_recent_stage_right_2, record { was_due = refl; tells = record { votes_told = refl; elected_told = refl; non_transferable_told = refl; lost_told = refl } })

abbrev most_recent_stage_4 : History
most_recent_stage_4 = stage (Exclude 2) (1000000 ∷ 0 ∷ 600000 ∷ 0 ∷ 0 ∷ []) ([]) 800000 0 ∷ most_recent_stage_3

most_recent_stage_right_4 : IsRight most_recent_stage most_recent_stage_lots most_recent_stage_4
most_recent_stage_right_4 = (most_recent_stage_right_3, record { was_due = refl; tells = record { votes_told = refl; elected_told = refl; non_transferable_told = refl; lost_told = refl } })

abbrev most_recent_stage_5 : History
most_recent_stage_5 = stage (ExcludeLast 3) (1000000 ∷ 0 ∷ 600000 ∷ 0 ∷ 0 ∷ []) (1 ∷ []) 800000 0 ∷ most_recent_stage_4

most_recent_stage_right_5 : IsRight most_recent_stage most_recent_stage_lots most_recent_stage_5
most_recent_stage_right_5 = (most_recent_stage_right_4, record { was_due = refl; tells = record { votes_told = refl; elected_told = refl; non_transferable_told = refl; lost_told = refl } })

most_recent_stage_count : IsCount most_recent_stage most_recent_stage_lots most_recent_stage_5
most_recent_stage_count = (most_recent_stage_right_5, refl)

-- Three seats: papers pass over a candidate who was elected earlier.
abbrev passed_over : Contest
passed_over = contest_for (1 ∷ 2 ∷ 3 ∷ 4 ∷ 5 ∷ []) 3
    (times 6 (1 ∷ 2 ∷ 3 ∷ []) ++ times 5 (2 ∷ []) ++ times 1 (3 ∷ []) ++ times 2 (4 ∷ []) ++ times 1 (5 ∷ []))

abbrev passed_over_lots : List (ℕ × ℕ)
passed_over_lots = []

abbrev passed_over_1 : History
passed_over_1 = stage First (600000 ∷ 500000 ∷ 100000 ∷ 200000 ∷ 100000 ∷ []) (1 ∷ 2 ∷ []) 0 0 ∷ []

passed_over_right_1 : IsRight passed_over passed_over_lots passed_over_1
passed_over_right_1 = (tt, record { was_due = refl; tells = record { votes_told = refl; elected_told = refl; non_transferable_told = refl; lost_told = refl } })

abbrev passed_over_2 : History
passed_over_2 = stage (Surplus 1) (400000 ∷ 500000 ∷ 299998 ∷ 200000 ∷ 100000 ∷ []) ([]) 0 2 ∷ passed_over_1

passed_over_right_2 : IsRight passed_over passed_over_lots passed_over_2
passed_over_right_2 = (passed_over_right_1, record { was_due = refl; tells = record { votes_told = refl; elected_told = refl; non_transferable_told = refl; lost_told = refl } })

abbrev passed_over_3 : History
passed_over_3 = stage (Surplus 2) (400000 ∷ 400000 ∷ 299998 ∷ 200000 ∷ 100000 ∷ []) ([]) 100000 2 ∷ passed_over_2

passed_over_right_3 : IsRight passed_over passed_over_lots passed_over_3
passed_over_right_3 = (passed_over_right_2, record { was_due = refl; tells = record { votes_told = refl; elected_told = refl; non_transferable_told = refl; lost_told = refl } })

abbrev passed_over_4 : History
passed_over_4 = stage (Exclude 5) (400000 ∷ 400000 ∷ 299998 ∷ 200000 ∷ 0 ∷ []) ([]) 200000 2 ∷ passed_over_3

passed_over_right_4 : IsRight passed_over passed_over_lots passed_over_4
passed_over_right_4 = (passed_over_right_3, record { was_due = refl; tells = record { votes_told = refl; elected_told = refl; non_transferable_told = refl; lost_told = refl } })

abbrev passed_over_5 : History
passed_over_5 = stage (ExcludeLast 4) (400000 ∷ 400000 ∷ 299998 ∷ 200000 ∷ 0 ∷ []) (3 ∷ []) 200000 2 ∷ passed_over_4

passed_over_right_5 : IsRight passed_over passed_over_lots passed_over_5
passed_over_right_5 = (passed_over_right_4, record { was_due = refl; tells = record { votes_told = refl; elected_told = refl; non_transferable_told = refl; lost_told = refl } })

passed_over_count : IsCount passed_over passed_over_lots passed_over_5
passed_over_count = (passed_over_right_5, refl)

-- One seat: among three tied candidates, the latest stage at which one of them had the fewest votes decides who is excluded; then the next one is excluded.
abbrev three_tied : Contest
three_tied = contest_for (1 ∷ 2 ∷ 3 ∷ 4 ∷ 5 ∷ 6 ∷ []) 1
    (times 9 (1 ∷ []) ++ times 2 (2 ∷ []) ++ times 3 (3 ∷ []) ++ times 4 (4 ∷ []) ++ times 1 (5 ∷ 2 ∷ []) ++ times 1 (6 ∷ 2 ∷ []) ++ times 1 (6 ∷ 3 ∷ []))

abbrev three_tied_lots : List (ℕ × ℕ)
three_tied_lots = []

abbrev three_tied_1 : History
three_tied_1 = stage First (900000 ∷ 200000 ∷ 300000 ∷ 400000 ∷ 100000 ∷ 200000 ∷ []) [] 0 0 ∷ []

three_tied_right_1 : IsRight three_tied three_tied_lots three_tied_1
three_tied_right_1 = (tt, record { was_due = refl; tells = record { votes_told = refl; elected_told = refl; non_transferable_told = refl; lost_told = refl } })

abbrev three_tied_2 : History
three_tied_2 = stage (Exclude 5) (900000 ∷ 300000 ∷ 300000 ∷ 400000 ∷ 0 ∷ 200000 ∷ []) [] 0 0 ∷ three_tied_1

three_tied_right_2 : IsRight three_tied three_tied_lots three_tied_2
three_tied_right_2 = (three_tied_right_1, record { was_due = refl; tells = record { votes_told = refl; elected_told = refl; non_transferable_told = refl; lost_told = refl } })

abbrev three_tied_3 : History
three_tied_3 = stage (Exclude 6) (900000 ∷ 400000 ∷ 400000 ∷ 400000 ∷ 0 ∷ 0 ∷ []) [] 0 0 ∷ three_tied_2

three_tied_right_3 : IsRight three_tied three_tied_lots three_tied_3
three_tied_right_3 = (three_tied_right_2, record { was_due = refl; tells = record { votes_told = refl; elected_told = refl; non_transferable_told = refl; lost_told = refl } })

abbrev three_tied_4 : History
three_tied_4 = stage (Exclude 2) (900000 ∷ 0 ∷ 400000 ∷ 400000 ∷ 0 ∷ 0 ∷ []) [] 400000 0 ∷ three_tied_3

three_tied_right_4 : IsRight three_tied three_tied_lots three_tied_4
three_tied_right_4 = (three_tied_right_3, record { was_due = refl; tells = record { votes_told = refl; elected_told = refl; non_transferable_told = refl; lost_told = refl } })

abbrev three_tied_5 : History
three_tied_5 = stage (Exclude 3) (900000 ∷ 0 ∷ 0 ∷ 400000 ∷ 0 ∷ 0 ∷ []) [] 800000 0 ∷ three_tied_4

three_tied_right_5 : IsRight three_tied three_tied_lots three_tied_5
three_tied_right_5 = (three_tied_right_4, record { was_due = refl; tells = record { votes_told = refl; elected_told = refl; non_transferable_told = refl; lost_told = refl } })

abbrev three_tied_6 : History
three_tied_6 = stage (ExcludeLast 4) (900000 ∷ 0 ∷ 0 ∷ 400000 ∷ 0 ∷ 0 ∷ []) (1 ∷ []) 800000 0 ∷ three_tied_5

three_tied_right_6 : IsRight three_tied three_tied_lots three_tied_6
three_tied_right_6 = (three_tied_right_5, record { was_due = refl; tells = record { votes_told = refl; elected_told = refl; non_transferable_told = refl; lost_told = refl } })

three_tied_count : IsCount three_tied three_tied_lots three_tied_6
three_tied_count = (three_tied_right_6, refl)

-- One seat: two candidates were equal at all stages, and a lot excludes one of them.
abbrev lot_for_exclusion : Contest
lot_for_exclusion = contest_for (1 ∷ 2 ∷ 3 ∷ []) 1
    (times 4 (1 ∷ []) ++ times 2 (2 ∷ []) ++ times 2 (3 ∷ []))

abbrev lot_for_exclusion_lots : List (ℕ × ℕ)
lot_for_exclusion_lots = (2, 3) ∷ []

abbrev lot_for_exclusion_1 : History
lot_for_exclusion_1 = stage First (400000 ∷ 200000 ∷ 200000 ∷ []) [] 0 0 ∷ []

lot_for_exclusion_right_1 : IsRight lot_for_exclusion lot_for_exclusion_lots lot_for_exclusion_1
lot_for_exclusion_right_1 = (tt, record { was_due = refl; tells = record { votes_told = refl; elected_told = refl; non_transferable_told = refl; lost_told = refl } })

abbrev lot_for_exclusion_2 : History
lot_for_exclusion_2 = stage (Exclude 3) (400000 ∷ 200000 ∷ 0 ∷ []) [] 200000 0 ∷ lot_for_exclusion_1

lot_for_exclusion_right_2 : IsRight lot_for_exclusion lot_for_exclusion_lots lot_for_exclusion_2
lot_for_exclusion_right_2 = (lot_for_exclusion_right_1, record { was_due = refl; tells = record { votes_told = refl; elected_told = refl; non_transferable_told = refl; lost_told = refl } })

abbrev lot_for_exclusion_3 : History
lot_for_exclusion_3 = stage (ExcludeLast 2) (400000 ∷ 200000 ∷ 0 ∷ []) (1 ∷ []) 200000 0 ∷ lot_for_exclusion_2

lot_for_exclusion_right_3 : IsRight lot_for_exclusion lot_for_exclusion_lots lot_for_exclusion_3
lot_for_exclusion_right_3 = (lot_for_exclusion_right_2, record { was_due = refl; tells = record { votes_told = refl; elected_told = refl; non_transferable_told = refl; lost_told = refl } })

lot_for_exclusion_count : IsCount lot_for_exclusion lot_for_exclusion_lots lot_for_exclusion_3
lot_for_exclusion_count = (lot_for_exclusion_right_3, refl)

-- Two seats: two candidates have exactly the quota, and are elected without a surplus.
abbrev exactly_quota : Contest
exactly_quota = contest_for (1 ∷ 2 ∷ 3 ∷ []) 2
    (times 4 (1 ∷ 3 ∷ []) ++ times 4 (2 ∷ 3 ∷ []) ++ times 1 (3 ∷ []))

abbrev exactly_quota_lots : List (ℕ × ℕ)
exactly_quota_lots = []

abbrev exactly_quota_1 : History
exactly_quota_1 = stage First (400000 ∷ 400000 ∷ 100000 ∷ []) (1 ∷ 2 ∷ []) 0 0 ∷ []

exactly_quota_right_1 : IsRight exactly_quota exactly_quota_lots exactly_quota_1
exactly_quota_right_1 = (tt, record { was_due = refl; tells = record { votes_told = refl; elected_told = refl; non_transferable_told = refl; lost_told = refl } })

exactly_quota_count : IsCount exactly_quota exactly_quota_lots exactly_quota_1
exactly_quota_count = (exactly_quota_right_1, refl)

-- One seat and no papers: a lot decides between two candidates without votes.
abbrev no_papers : Contest
no_papers = contest_for (1 ∷ 2 ∷ []) 1
    []

abbrev no_papers_lots : List (ℕ × ℕ)
no_papers_lots = (2, 1) ∷ []

abbrev no_papers_1 : History
no_papers_1 = stage First (0 ∷ 0 ∷ []) [] 0 0 ∷ []

no_papers_right_1 : IsRight no_papers no_papers_lots no_papers_1
no_papers_right_1 = (tt, record { was_due = refl; tells = record { votes_told = refl; elected_told = refl; non_transferable_told = refl; lost_told = refl } })

abbrev no_papers_2 : History
no_papers_2 = stage (ExcludeLast 1) (0 ∷ 0 ∷ []) (2 ∷ []) 0 0 ∷ no_papers_1

no_papers_right_2 : IsRight no_papers no_papers_lots no_papers_2
no_papers_right_2 = (no_papers_right_1, record { was_due = refl; tells = record { votes_told = refl; elected_told = refl; non_transferable_told = refl; lost_told = refl } })

no_papers_count : IsCount no_papers no_papers_lots no_papers_2
no_papers_count = (no_papers_right_2, refl)
