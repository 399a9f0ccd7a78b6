use Rattle.desk.proofs.codes_lines.tell_codes_made.Goals as goal

pub returns : goal.returns
returns g c = rw c.format.ensures.text at c.tell_text.ensures
