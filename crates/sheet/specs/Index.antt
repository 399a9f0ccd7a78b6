-- The public page of all wards: the status of each, and the elected candidates once it is declared.
use Rattle.std.specs.Prelude.{ℕ, ◌-◌, Bool, true, false, List, [], ◌∷◌, ◌++◌, length, map, string_bytes, String, codes, decimal}
use Rattle.std.specs.List.{flat_map}
use Rattle.std.specs.declared.alloc.Global.{Global}
use Rattle.sheet.specs.Lines.{line, named, plain}
use Rattle.sheet.specs.Look.{style}
use Rattle.sheet.specs.Page.{empty_seats, title_line, title_mark}
use Rattle.sheet.specs.declared.index.WardStanding.{WardStanding}
use Rattle.sheet.specs.declared.index.WardStanding.TheVariants.{Nominations, Keying, Sealed, Declared}
use Rattle.sheet.specs.declared.index.ListedWard.{ListedWard}

-- a ward as plain texts: its number, name, seats and status, whether it has more candidates than seats, and, once it is declared, the number and the name of each elected
-- candidate
pub record ListedEntry : Type 0 where
  pub number : ℕ
  pub name : List ℕ
  pub seats : ℕ
  pub standing : WardStanding
  pub is_contested : Bool
  pub elected : List (ℕ × List ℕ)

-- an elected candidate, with the name as plain text
abbrev pub elected_shown : (ℕ × String Global) → ℕ × List ℕ
elected_shown candidate = (candidate.0, string_bytes candidate.1)

-- the data listed for a ward
abbrev pub listed : ListedWard → ListedEntry
listed ward = record {
  number = ward.number;
  name = string_bytes ward.name;
  seats = ward.seats;
  standing = ward.standing;
  is_contested = ward.is_contested;
  elected = map elected_shown ward.elected.items;
}

-- the status of a ward, in words, by whether it is contested
abbrev pub standing_words : WardStanding → Bool → List ℕ
standing_words Nominations contested = codes "nominations are open"
standing_words Keying contested = codes "its papers are being keyed"
standing_words Sealed true = codes "its papers are being counted"
standing_words Sealed false = codes "uncontested, not declared yet"
standing_words Declared true = codes "<b>declared</b>"
standing_words Declared false = codes "<b>declared</b> uncontested"

-- an elected candidate
abbrev pub elected_name : (ℕ × List ℕ) → List ℕ
elected_name candidate = line (codes "<li>" ∷ named candidate.0 candidate.1 ∷ codes "</li>" ∷ [])

-- the part of a ward's row before the elected candidates
abbrev pub row_opening : ListedEntry → List ℕ
row_opening ward = line (
    codes "<tr><th scope=\"row\">" ∷ named ward.number ward.name ∷ codes "</th><td>" ∷ decimal ward.seats ∷ codes "</td><td>" ∷ standing_words ward.standing ward.is_contested ∷
    codes "</td><td>\n<ul>" ∷ [])

-- the number of seats of a ward that stay empty, which is known once it is declared
abbrev pub empty_in : WardStanding → ℕ → ℕ → ℕ
empty_in Nominations seats elected = 0
empty_in Keying seats elected = 0
empty_in Sealed seats elected = 0
empty_in Declared seats elected = seats - elected

-- the row of a ward
abbrev pub index_row : ListedEntry → List ℕ
index_row ward =
    row_opening ward ++ flat_map elected_name ward.elected ++ empty_seats (empty_in ward.standing ward.seats (length ward.elected)) ++ line (codes "</ul>\n</td></tr>" ∷ [])

-- the document's head, and the line for the top of each printed sheet; both name the title
abbrev pub index_opening : List ℕ → List ℕ
index_opening title = line (
    codes "<!DOCTYPE html>\n<html lang=\"en\">\n<head>\n<meta charset=\"utf-8\">\n<meta name=\"viewport\" content=\"width=device-width, initial-scale=1\">\n<title>Wards"
    ∷ title_mark title ∷ plain title ∷ codes "</title>\n<style>\n" ∷ style ∷
    codes "</style>\n</head>\n<body class=\"wards\">\n<p class=\"running\" aria-hidden=\"true\"><span>Wards</span> <bdi>" ∷ plain title ∷ codes "</bdi></p>" ∷ [])

-- the column heads
abbrev pub index_heads : List ℕ
index_heads = line (
    codes "<h1>Wards</h1>\n<table class=\"index\">\n<thead>\n<tr><th scope=\"col\">Ward</th><th scope=\"col\">Seats</th>"
    ∷ codes "<th scope=\"col\">Status</th><th scope=\"col\">Elected</th></tr>\n</thead>\n<tbody>" ∷ [])

-- the page of all wards, with the given title
abbrev pub index : List ℕ → List ListedEntry → List ℕ
index title wards = index_opening title ++ title_line title ++ index_heads ++ flat_map index_row wards ++ codes "</tbody>\n</table>\n</body>\n</html>\n"
