-- The ranges of numbers, names, ids and replies.
use Rattle.std.specs.Prelude.{ℕ, Bool, not, ◌&&◌, ◌||◌, ◌==◌, nat_le, List, length}
use Rattle.std.specs.List.{list_all}
use Rattle.std.specs.Str.{is_utf8}
use Rattle.votes.specs.Units.{max_seats}
use Rattle.paper.specs.Columns.{max_candidates}

-- within a range, including both ends
abbrev pub is_between : ℕ → ℕ → ℕ → Bool
is_between low high n = nat_le low n && nat_le n high

-- ---- limits

-- the highest clerk number
abbrev pub last_clerk : ℕ
last_clerk = 999

-- the highest ward number
abbrev pub last_ward : ℕ
last_ward = 99

-- the highest batch number, across all wards
abbrev pub last_batch : ℕ
last_batch = 9999

-- the most papers a batch can have
abbrev pub most_papers : ℕ
most_papers = 500

-- the highest round of keying
abbrev pub last_round : ℕ
last_round = 99

-- the first and last stages of a count for which a lot may be drawn
abbrev pub first_lot_stage : ℕ
first_lot_stage = 2

abbrev pub last_lot_stage : ℕ
last_lot_stage = 31

-- ---- numbers

-- the office itself, as an actor
abbrev pub is_office : ℕ → Bool
is_office actor = actor == 0

-- a clerk, as an actor
abbrev pub is_clerk : ℕ → Bool
is_clerk = is_between 1 last_clerk

-- a ward's number
abbrev pub is_ward_number : ℕ → Bool
is_ward_number = is_between 1 last_ward

-- a ward's number of seats
abbrev pub is_seat_number : ℕ → Bool
is_seat_number = is_between 1 max_seats

-- a candidate's number in its ward
abbrev pub is_candidate_number : ℕ → Bool
is_candidate_number = is_between 1 max_candidates

-- a batch's number
abbrev pub is_batch_number : ℕ → Bool
is_batch_number = is_between 1 last_batch

-- a batch's number of papers, and the number of a paper in its batch
abbrev pub is_paper_number : ℕ → Bool
is_paper_number = is_between 1 most_papers

-- the stage of a lot
abbrev pub is_lot_stage : ℕ → Bool
is_lot_stage = is_between first_lot_stage last_lot_stage

-- a round of keying
abbrev pub is_round : ℕ → Bool
is_round = is_between 1 last_round

-- ---- texts

-- a byte that isn't a control character: not below a space, and not DEL
abbrev pub is_name_byte : ℕ → Bool
is_name_byte b = nat_le 32 b && not (b == 127)

-- a name: 1 to 120 bytes of UTF-8 without control characters
unfoldable pub is_name : List ℕ → Bool
is_name t = is_utf8 t && (is_between 1 120 (length t) && list_all is_name_byte t)

-- a to z, 0 to 9, or a hyphen
abbrev pub is_id_byte : ℕ → Bool
is_id_byte b = is_between 97 122 b || (is_between 48 57 b || (b == 45))

-- an id: 1 to 40 characters, each a letter from a to z, a digit or a hyphen
unfoldable pub is_id : List ℕ → Bool
is_id t = is_between 1 40 (length t) && list_all is_id_byte t

-- a byte other than a newline
abbrev pub is_line_byte : ℕ → Bool
is_line_byte b = not (b == 10)

-- a reply: at most 200 bytes of UTF-8 on one line
unfoldable pub is_reply : List ℕ → Bool
is_reply t = is_utf8 t && (nat_le (length t) 200 && list_all is_line_byte t)
