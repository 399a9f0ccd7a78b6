-- Proof that `tell_file_fault` meets its contract.
use Rattle.std.specs.Prelude.{codes}
use Rattle.keyfile.proofs.FlawLemmas.{flaw_in_pieces}
use Rattle.desk.proofs.lines.tell_file_fault.Goals as goal

pub returns : goal.returns
returns g c =
    let text = flaw_in_pieces c.args.fault.flaw (codes "\n") in
    rw (c.format.ensures.text, c.number.ensures, c.format-2.ensures.text, c.words.ensures, c.batch_of.ensures, c.text_before_clerk.ensures, c.clerk_of.ensures, text, c.status_of_file.ensures) at
    c.tell_error.ensures
