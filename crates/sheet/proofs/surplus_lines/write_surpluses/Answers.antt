-- Proof that `write_surpluses` meets its contract.
use Rattle.std.proofs.Common.{◌≡◌, ◌==◌, true, false, length, sym, ◌∙◌}
use Rattle.sheet.proofs.Writing.{Writes-then, Writes-failed, Writes-front}
use Rattle.sheet.proofs.surplus_lines.write_surpluses.Goals as goal

pub returns-then-is_empty : goal.returns-then-is_empty
returns-then-is_empty g c =
    let e : (length c.args.groups.now == 0) ≡ true = sym c.is_empty.ensures ∙ c.if-is_empty.true in
    rw e c.write_line.ensures

pub returns-in_err-write_line : goal.returns-in_err-write_line
returns-in_err-write_line g c =
    let e : (length c.args.groups.now == 0) ≡ false = sym c.is_empty.ensures ∙ c.if-is_empty.false in
    let r = c.from_residual.result in
    let failure = c.from_residual.ensures.0 in
    rw e (Writes-front _ r failure (Writes-front _ r failure (Writes-failed r failure c.in_err-write_line.ensures)))

pub returns-in_err-write_surplus_items : goal.returns-in_err-write_surplus_items
returns-in_err-write_surplus_items g c =
    let e : (length c.args.groups.now == 0) ≡ false = sym c.is_empty.ensures ∙ c.if-is_empty.false in
    let r = c.from_residual-in_err-write_surplus_items.result in
    let failure = c.from_residual-in_err-write_surplus_items.ensures.0 in
    rw e (Writes-front _ r failure (Writes-failed r failure (Writes-then _ c.in_ok-write_line.ensures c.in_err-write_surplus_items.ensures)))

pub returns : goal.returns
returns g c =
    let e : (length c.args.groups.now == 0) ≡ false = sym c.is_empty.ensures ∙ c.if-is_empty.false in
    rw e (Writes-then _ (Writes-then _ c.in_ok-write_line.ensures c.in_ok-write_surplus_items.ensures) c.write_line-3.ensures)
