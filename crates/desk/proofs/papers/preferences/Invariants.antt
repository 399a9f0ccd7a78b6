-- The invariant of the loop in `preferences`: the text so far, followed by that of the remaining preferences, is the whole text.
use Rattle.std.proofs.Common.{◌≡◌, ◌+◌, ◌++◌, drop, string_bytes}
use Rattle.desk.specs.CandidateNames.{names_told}
use Rattle.desk.specs.Overviews.{preferences_from}
use Rattle.desk.proofs.papers.preferences.Given as goal

abbrev pub invariant-loop-place : goal.invariant-loop-place
invariant-loop-place l =
    string_bytes l.text ++ preferences_from (names_told l.names) (l.place + 1) (drop l.place l.candidates) ≡ preferences_from (names_told l.names) 1 l.candidates
