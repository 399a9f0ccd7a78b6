-- Proof that `ward_of` meets its contract.
use Rattle.std.proofs.Common.{rules, ◌≡◌}
use Rattle.sheet.specs.declared.ward.Ward.{Ward}
use Rattle.sheet.specs.Entries.{shown}
use Rattle.office.specs.Sheets.{shown_with}
use Rattle.office.proofs.SheetLemmas.{textual_can_be_printed}
use Rattle.office.proofs.sheets.ward_of.Goals as goal

pub returns-then-not-can_be_printed-clause-some : goal.returns-then-not-can_be_printed-clause-some
returns-then-not-can_be_printed-clause-some c e is lines textual few =
    let ward : Ward = record { number = c.in-Ok.number; name = c.as_str.result; seats = c.in-Ok-try_from.seats; candidates = c.args.candidates; poll = c.args.poll } in
    let same : shown ward ≡ shown_with c.args.poll e = search rules in
    c.if-not-can_be_printed.ensures.1 (textual_can_be_printed ward c.args.poll e same textual few)
