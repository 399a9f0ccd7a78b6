-- Proof that `write_surplus_item` meets its contract.
use Rattle.sheet.proofs.surplus_lines.write_surplus_item.Goals as goal

pub returns : goal.returns
returns g c = rw (c.name_or_withdrawn.ensures, c.from.ensures, c.received_words.ensures, c.passed_words.ensures) at c.write_line.ensures
