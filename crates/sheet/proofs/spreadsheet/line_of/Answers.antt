-- Proof that `line_of` meets its contract.
use Rattle.std.proofs.Common.{◌≢◌, ◌∙◌}
use Rattle.csv.specs.declared.writer.QuoteStyle.TheVariants as style
use Rattle.sheet.proofs.spreadsheet.line_of.Goals as goal

pub returns-in-Ok : goal.returns-in-Ok
returns-in-Ok c =
    let from = c.from_writer-line.ensures in
    let plain : c.from_writer-line.result.cfg.style ≢ style.NonNumeric = rw (from.cfg, c.quote_style.ensures) (λ e. cc e) in
    let h = c.in_ok-write_fields.ensures.bytes from.fields from.wrote plain in
    let text = rw (from.cfg, c.quote_style.ensures, c.new.ensures, from.wtr, c.new-2.ensures.items, from.empty) at h in
    c.in-Ok.ensures.ok ∙ text
