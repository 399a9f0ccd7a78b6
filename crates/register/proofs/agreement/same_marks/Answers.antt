use Rattle.std.proofs.Common.{map, sym, ◌∙◌}
use Rattle.std.proofs.lemmas.List.{length-map}
use Rattle.register.specs.Offices.{keyed_entry}
use Rattle.register.proofs.PaperLemmas.{other_lengths}
use Rattle.register.proofs.agreement.same_marks.Goals as goal

pub returns-then-first-second : goal.returns-then-first-second
returns-then-first-second c =
    let first = length-map c.args.first.now keyed_entry in
    let second = length-map c.args.second.now keyed_entry in
    sym (other_lengths (map keyed_entry c.args.first.now) (map keyed_entry c.args.second.now) (λ same. c.if-first-second.true (sym first ∙ same ∙ second)))
