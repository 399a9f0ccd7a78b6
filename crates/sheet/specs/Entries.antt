-- The data of a ward that its texts show.
use Rattle.std.specs.Prelude.{ℕ, List, map, string_bytes, String, Option}
use Rattle.std.specs.declared.alloc.Global.{Global}
use Rattle.sheet.specs.declared.ward.Ward.{Ward}
use Rattle.sheet.specs.declared.ward.Poll.{Poll}

-- a ward as plain texts: its number, name and seats, the number and the name of each candidate in ascending order, and its poll if it is contested
pub record SheetEntry : Type 0 where
  pub number : ℕ
  pub name : List ℕ
  pub seats : ℕ
  pub candidates : List (ℕ × List ℕ)
  pub poll : Option Poll

-- the number of each candidate, with the name as plain text
abbrev pub candidates_shown : List (ℕ × String Global) → List (ℕ × List ℕ)
candidates_shown candidates = map (λ candidate. (candidate.0, string_bytes candidate.1)) candidates

-- the data shown for a ward
abbrev pub shown : Ward → SheetEntry
shown ward = record {
  number = ward.number;
  name = ward.name.now;
  seats = ward.seats;
  candidates = candidates_shown ward.candidates.now;
  poll = ward.poll;
}
