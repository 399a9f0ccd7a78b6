-- Proof that `push_row` meets its contract.
use Rattle.std.proofs.Common.{◌≡◌, map, string_bytes, IsUtf8, sym, subst}
use Rattle.csv.specs.Writing.{row_text}
use Rattle.sheet.specs.Spreadsheet.{writer}
use Rattle.sheet.proofs.Rows.{IsUtf8-row}
use Rattle.sheet.proofs.spreadsheet.push_row.Goals as goal

pub unwrap-requires : goal.unwrap-requires
unwrap-requires c =
    let line : c.in-Ok.line.items ≡ row_text writer (map string_bytes c.args.row.now) = rw (c.deref.ensures.value, c.in_ok-fields.ensures) at c.in-Ok.ensures in
    c.from_utf8.ensures.succeeds (subst IsUtf8 (sym line) (IsUtf8-row c.args.row.now))
