-- Reading the page of all wards: its title, and the row of each ward.
use Rattle.std.specs.Prelude.{ℕ, zero, suc, ◌==◌, Bool, true, false, if◌then◌else◌, List, [], ◌∷◌, map, codes, Option, Some, None}
use Rattle.std.specs.Option.{is_some, option_and_then, option_map, option_or}
use Rattle.std.specs.Result.{result_ok}
use Rattle.sheet.specs.declared.index.WardStanding.{WardStanding}
use Rattle.sheet.specs.declared.index.WardStanding.TheVariants.{Nominations, Keying, Sealed, Declared}
use Rattle.checker.specs.Numbers.{number_in}
use Rattle.checker.specs.Tokens.{Text}
use Rattle.checker.specs.declared.folder_index.IndexPage.{IndexPage}
use Rattle.checker.specs.declared.folder_index.IndexRow.{IndexRow}

-- ---- parts of a text

-- what follows the given mark, with which the text has to begin
abbrev pub behind : Text → Text → Option Text
behind [] text = Some text
behind (byte ∷ mark) [] = None
behind (byte ∷ mark) (other ∷ text) = if byte == other then behind mark text else None

-- whether a text begins with the given mark
abbrev pub begins : Text → Text → Bool
begins mark text = is_some (behind mark text)

-- what follows the first place at which the given mark appears
abbrev pub behind_first : Text → Text → Option Text
behind_first mark [] = None
behind_first mark (byte ∷ text) = option_or (behind mark (byte ∷ text)) (behind_first mark text)

-- the bytes before the first of the given byte
abbrev pub until : ℕ → Text → Text
until stop [] = []
until stop (byte ∷ text) = if byte == stop then [] else byte ∷ until stop text

-- the text from the first of the given byte on
abbrev pub from_first : ℕ → Text → Text
from_first stop [] = []
from_first stop (byte ∷ text) = if byte == stop then byte ∷ text else from_first stop text

-- the bytes before the first of the given byte, and what follows the given mark, which has to begin there
abbrev pub field : ℕ → Text → Text → Option (Text × Text)
field stop mark text = option_map (λ after. (until stop text, after)) (behind mark (from_first stop text))

-- ---- the rows

-- the row of a ward: its number and status, and its name and seats as they appear on the page
pub record RowEntry : Type 0 where
  pub number : ℕ
  pub name : Text
  pub seats : Text
  pub standing : WardStanding

abbrev pub row_entry : IndexRow → RowEntry
row_entry row = record { number = row.number; name = row.name.now; seats = row.seats.now; standing = row.standing }

-- the status with whose words a text begins
abbrev pub standing_at : Text → Option WardStanding
standing_at text =
    if begins (codes "nominations are open") text then Some Nominations else (
    if begins (codes "its papers are being keyed") text then Some Keying else (
    if begins (codes "its papers are being counted") text then Some Sealed else (
    if begins (codes "uncontested, not declared yet") text then Some Sealed else (
    if begins (codes "<b>declared</b>") text then Some Declared else None))))

-- the row with the given number, name and seats, followed by the given text
abbrev pub row_with : Text → Text → Text → Text → Option RowEntry
row_with number name seats after =
    option_and_then (λ n. option_map (λ standing. record { number = n; name = name; seats = seats; standing = standing }) (standing_at after)) (result_ok (number_in 255 number))

-- the row whose number begins the given text, field by field
abbrev pub row_after_name : Text → Text → Text → Option RowEntry
row_after_name number name text = option_and_then (λ seats. row_with number name seats.0 seats.1) (field 60 (codes "</td><td>") text)

abbrev pub row_after_number : Text → Text → Option RowEntry
row_after_number number text = option_and_then (λ name. row_after_name number name.0 name.1) (field 60 (codes "</bdi></th><td>") text)

abbrev pub row_at : Text → Option RowEntry
row_at text = option_and_then (λ number. row_after_number number.0 number.1) (field 32 (codes " <bdi>") text)

-- a row before others; none if one of them can't be read
abbrev pub with_row : Option RowEntry → Option (List RowEntry) → Option (List RowEntry)
with_row None rows = None
with_row (Some row) rows = option_map (λ others. row ∷ others) rows

-- the rows from a place on, given whether they end there, what follows the mark of a row there, and the rows from the next place on
abbrev pub rows_at : Bool → Option Text → Option (List RowEntry) → Option (List RowEntry)
rows_at true after rows = Some []
rows_at false None rows = rows
rows_at false (Some after) rows = with_row (row_at after) rows

-- the rows in a text, up to the end of their table; none if one of them can't be read
abbrev pub rows_in : Text → Option (List RowEntry)
rows_in [] = Some []
rows_in (byte ∷ text) = rows_at (begins (codes "</tbody>") (byte ∷ text)) (behind (codes "<tr><th scope=\"row\">") (byte ∷ text)) (rows_in text)

-- ---- the page

-- the title on a page, as it appears there
abbrev pub title_in : Text → Option Text
title_in page = option_map (until 60) (behind_first (codes "<span>Wards</span> <bdi>") page)

-- a page: its title, as it appears there, and its rows
pub record PageEntry : Type 0 where
  pub title : Text
  pub rows : List RowEntry

abbrev pub page_entry : IndexPage → PageEntry
page_entry page = record { title = page.title.now; rows = map row_entry page.rows.items }

abbrev pub page_in : Text → Option PageEntry
page_in page = option_and_then (λ title. option_map (λ rows. record { title = title; rows = rows }) (rows_in page)) (title_in page)

-- ---- texts without entities

-- the byte for which the entity with the given text after its `&` is written, and how many bytes the entity has after the `&`
abbrev pub entity : Text → ℕ × ℕ
entity after =
    if begins (codes "amp;") after then (38, 4) else (
    if begins (codes "lt;") after then (60, 3) else (
    if begins (codes "gt;") after then (62, 3) else (
    if begins (codes "quot;") after then (34, 5) else (
    if begins (codes "#39;") after then (39, 4) else (38, 0)))))

-- the byte that the given one shows, with the given text after it, and how many bytes of that text belong to it
abbrev pub shown_by : ℕ → Text → ℕ × ℕ
shown_by byte after = if byte == 38 then entity after else (byte, 0)

-- the text that the given one shows, when the given number of its bytes belong to an entity before them
abbrev pub unescaped_from : ℕ → Text → Text
unescaped_from passed [] = []
unescaped_from zero (byte ∷ text) = (shown_by byte text).0 ∷ unescaped_from (shown_by byte text).1 text
unescaped_from (suc passed) (byte ∷ text) = unescaped_from passed text

-- the text that a page shows by the given one
abbrev pub unescaped : Text → Text
unescaped text = unescaped_from 0 text
