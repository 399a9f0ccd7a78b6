-- The page with the result of a ward, for display, printing and signature: one HTML file without external resources.
use Rattle.std.specs.Prelude.{ℕ, Bool, true, false, ◌+◌, ◌-◌, nat_eq, ◌==◌, if◌then◌else◌, List, [], ◌∷◌, ◌++◌, length, slice_index, codes, decimal, Option, Some, None}
use Rattle.std.specs.List.{list_any, flat_map, range_with_len}
use Rattle.votes.specs.Units.{quota_of}
use Rattle.votes.specs.Text.{votes_text}
use Rattle.count.specs.Law.Contest.{votes_at}
use Rattle.count.specs.declared.stages.Stage.{Stage}
use Rattle.sheet.specs.Cells.{from_place}
use Rattle.sheet.specs.Chart.{chart, scale_of}
use Rattle.sheet.specs.Entries.{SheetEntry}
use Rattle.sheet.specs.Lines.{line, plain, named}
use Rattle.sheet.specs.Look.{style}
use Rattle.sheet.specs.Lots.{lots_text}
use Rattle.sheet.specs.Surpluses.{surpluses_text}
use Rattle.sheet.specs.Ties.{ties_text}
use Rattle.sheet.specs.Table.{tables}
use Rattle.sheet.specs.declared.surpluses.PassedOn.{PassedOn}
use Rattle.sheet.specs.declared.ward.Poll.{Poll}

-- ---- the head

-- a title, such as the names of the election and of the council; nothing if it is empty
abbrev pub title_line : List ℕ → List ℕ
title_line title = if length title == 0 then [] else line (codes "<p class=\"title\" dir=\"auto\">" ∷ plain title ∷ codes "</p>" ∷ [])

-- the note that says whether the result is declared
abbrev pub note : Bool → List ℕ
note true = codes "<p class=\"declared\"><strong>Declared</strong></p>"
note false = codes "<p class=\"open\"><strong>This is not a declared result.</strong> The ward is not declared yet, and this page may change.</p>"

-- what separates a title from the text before it; nothing if the title is empty
abbrev pub title_mark : List ℕ → List ℕ
title_mark title = if length title == 0 then [] else codes ", "

-- the document's head, and the line for the top of each printed sheet; both name the ward and the title
abbrev pub opening : SheetEntry → List ℕ → List ℕ
opening ward title = line (
    codes "<!DOCTYPE html>\n<html lang=\"en\">\n<head>\n<meta charset=\"utf-8\">\n<meta name=\"viewport\" content=\"width=device-width, initial-scale=1\">\n<title>Ward "
    ∷ decimal ward.number ∷ codes " " ∷ plain ward.name ∷ title_mark title ∷ plain title ∷ codes "</title>\n<style>\n" ∷ style ∷
    codes "</style>\n</head>\n<body>\n<p class=\"running\" aria-hidden=\"true\"><span>Ward " ∷ named ward.number ward.name ∷
    codes "</span> <bdi>" ∷ plain title ∷ codes "</bdi></p>" ∷ [])

-- the number and the name of the ward, and the status of its result
abbrev pub ward_heading : SheetEntry → Bool → List ℕ
ward_heading ward is_declared = line (codes "<h1>Ward " ∷ named ward.number ward.name ∷ codes "</h1>\n" ∷ note is_declared ∷ [])

-- everything before the result
abbrev pub page_head : SheetEntry → List ℕ → Bool → List ℕ
page_head ward title is_declared = opening ward title ++ title_line title ++ ward_heading ward is_declared

-- ---- the elected candidates

-- an elected candidate, with the votes and the stage
abbrev pub elected_item : ℕ → ℕ → ℕ → List ℕ → List ℕ
elected_item k votes c name =
    line (codes "<li><b>" ∷ named c name ∷ codes "</b> <span>" ∷ votes_text votes ∷ codes " votes, elected at stage " ∷ decimal k ∷ codes "</span></li>" ∷ [])

-- an elected candidate, with the votes and the stage, if the candidate is elected at the given stage
abbrev pub item_at : ℕ → Stage → ℕ → List ℕ → List ℕ
item_at k stage c name = if list_any (nat_eq c) stage.elected then elected_item k (votes_at stage c) c name else []

-- the candidates elected at a stage, in ascending order of their numbers
abbrev pub elected_at : SheetEntry → List Stage → Stage → List ℕ
elected_at ward earlier stage = flat_map (λ candidate. item_at (length earlier + 1) stage candidate.0 candidate.1) ward.candidates

-- a candidate of an uncontested ward
abbrev pub unopposed_item : ℕ → List ℕ → List ℕ
unopposed_item c name = line (codes "<li><b>" ∷ named c name ∷ codes "</b></li>" ∷ [])

-- the elected candidates in the order of their election, and for one stage in ascending order of their numbers; in an uncontested ward, all candidates
abbrev pub elected_items : SheetEntry → Option Poll → List Stage → List ℕ
elected_items ward None stages = flat_map (λ candidate. unopposed_item candidate.0 candidate.1) ward.candidates
elected_items ward (Some poll) stages = from_place (elected_at ward) 0 stages

-- the number of seats that remain after the given stages
abbrev pub seats_left : ℕ → List Stage → ℕ
seats_left seats [] = seats
seats_left seats (stage ∷ later) = seats_left (seats - length stage.elected) later

-- the number of seats of a ward that remain; in an uncontested ward, those that its candidates don't fill
abbrev pub left_in : SheetEntry → Option Poll → List Stage → ℕ
left_in ward None stages = ward.seats - length ward.candidates
left_in ward (Some poll) stages = seats_left ward.seats stages

-- whether the remaining seats will stay empty, which is known once the ward is declared, or at once if it is uncontested
abbrev pub stay_empty : Option Poll → Bool → Bool
stay_empty None is_declared = true
stay_empty (Some poll) is_declared = is_declared

-- a seat that stays empty, in a list of elected candidates
abbrev pub empty_seat : List ℕ
empty_seat = line (codes "<li class=\"empty\">empty seat</li>" ∷ [])

-- the given number of seats that stay empty, each on its own line
abbrev pub empty_seats : ℕ → List ℕ
empty_seats left = flat_map (λ k. empty_seat) (range_with_len 0 left)

-- the end of the list of elected candidates, before the remaining seats are known to stay empty: their number, if any
abbrev pub open_end : ℕ → List ℕ
open_end left = if left == 0 then line (codes "</ul>" ∷ []) else line (codes "</ul>\n<p>Seats not yet filled: " ∷ decimal left ∷ codes "</p>" ∷ [])

-- the end of the list of elected candidates, with the remaining seats: each that stays empty, or else their number
abbrev pub elected_end : Bool → ℕ → List ℕ
elected_end true left = empty_seats left ++ line (codes "</ul>" ∷ [])
elected_end false left = open_end left

-- the elected candidates, and the remaining seats
abbrev pub elected_text : SheetEntry → Bool → List Stage → List ℕ
elected_text ward is_declared stages =
    line (codes "<h2>Elected</h2>\n<ul class=\"names\">" ∷ [])
    ++ elected_items ward ward.poll stages
    ++ elected_end (stay_empty ward.poll is_declared) (left_in ward ward.poll stages)

-- ---- what the result is based on

-- the total number of rejected papers
abbrev pub rejected_in_all : List ℕ → ℕ
rejected_in_all rejected = slice_index rejected 0 + slice_index rejected 1 + slice_index rejected 2 + slice_index rejected 3 + slice_index rejected 4

-- the numbers of seats and papers, and the quota
abbrev pub papers_table : ℕ → Poll → List ℕ
papers_table seats poll = line (
    codes "<div class=\"top\">\n<div>\n<h2>Papers</h2>\n<table class=\"papers\">\n<tr><th scope=\"row\">Seats</th><td>" ∷ decimal seats ∷
    codes "</td></tr>\n<tr><th scope=\"row\">Valid papers</th><td>" ∷ decimal poll.valid ∷
    codes "</td></tr>\n<tr><th scope=\"row\">Quota, in votes</th><td>" ∷ votes_text (quota_of poll.valid seats) ∷
    codes "</td></tr>\n<tr><th scope=\"row\">Rejected, code 1: no first preference</th><td>" ∷ decimal (slice_index poll.rejected 0) ∷
    codes "</td></tr>\n<tr><th scope=\"row\">Rejected, code 2: several first preferences</th><td>" ∷ decimal (slice_index poll.rejected 1) ∷
    codes "</td></tr>\n<tr><th scope=\"row\">Rejected, code 3: no official mark</th><td>" ∷ decimal (slice_index poll.rejected 2) ∷
    codes "</td></tr>\n<tr><th scope=\"row\">Rejected, code 4: voter identifiable</th><td>" ∷ decimal (slice_index poll.rejected 3) ∷
    codes "</td></tr>\n<tr><th scope=\"row\">Rejected, code 5: void for uncertainty</th><td>" ∷ decimal (slice_index poll.rejected 4) ∷
    codes "</td></tr>\n<tr><th scope=\"row\">Rejected papers in all</th><td>" ∷ decimal (rejected_in_all poll.rejected) ∷
    codes "</td></tr>\n<tr><th scope=\"row\">Papers in all</th><td>" ∷ decimal (poll.valid + rejected_in_all poll.rejected) ∷
    codes "</td></tr>\n</table>\n</div>\n<div>" ∷ [])

-- the note saying that a ward is uncontested
abbrev pub uncontested_text : ℕ → List ℕ
uncontested_text seats =
    line (codes "<p>Seats: " ∷ decimal seats ∷ codes ". The ward is uncontested: there is no poll, and all its candidates are elected.</p>" ∷ [])

-- the chart of the stages, once there is one
abbrev pub chart_part : SheetEntry → Poll → List Stage → List ℕ
chart_part ward poll stages = if length stages == 0 then [] else chart ward (scale_of ward.seats poll stages) stages

-- the stages as tables
abbrev pub stages_part : SheetEntry → List Stage → List ℕ
stages_part ward stages =
    if length stages == 0 then line (codes "</div>\n</div>\n<h2>Stages</h2>\n<p>No stage is done yet.</p>" ∷ [])
    else line (codes "</div>\n</div>\n<h2>Stages</h2>" ∷ []) ++ tables ward stages

-- what the result of a ward is based on: the chart, its papers, the ties and lots, the surpluses, and the stages
abbrev pub grounds : SheetEntry → Option Poll → List Stage → List (ℕ × ℕ) → List PassedOn → List ℕ
grounds ward None stages lots surpluses = uncontested_text ward.seats
grounds ward (Some poll) stages lots surpluses =
    chart_part ward poll stages ++ papers_table ward.seats poll ++ ties_text ward stages ++ lots_text ward stages lots ++ surpluses_text ward surpluses ++ stages_part ward stages

-- ---- the foot

-- the ward, its elected candidates and its empty seats again, with lines below them for the date and three signatures
abbrev pub signatures : SheetEntry → List Stage → List ℕ
signatures ward stages =
    line (codes "<div class=\"sign\">\n<h2>Ward " ∷ named ward.number ward.name ∷ codes ": elected</h2>\n<ul>" ∷ [])
    ++ elected_items ward ward.poll stages
    ++ empty_seats (left_in ward ward.poll stages)
    ++ codes "</ul>\n<h2>Signed</h2>\n<p>Date</p>\n<p>Returning officer</p>\n<p>First witness</p>\n<p>Second witness</p>\n</div>\n</body>\n</html>\n"

-- the foot of the page, with a place to sign if the ward is declared
abbrev pub foot : SheetEntry → Bool → List Stage → List ℕ
foot ward true stages = signatures ward stages
foot ward false stages = codes "</body>\n</html>\n"

-- the page of a ward: its title, whether it is declared, the stages of its count, the lots drawn, each a stage and a candidate, and the papers that passed on with each
-- surplus
abbrev pub page : SheetEntry → List ℕ → Bool → List Stage → List (ℕ × ℕ) → List PassedOn → List ℕ
page ward title is_declared stages lots surpluses =
    page_head ward title is_declared ++ elected_text ward is_declared stages ++ grounds ward ward.poll stages lots surpluses ++ foot ward is_declared stages
