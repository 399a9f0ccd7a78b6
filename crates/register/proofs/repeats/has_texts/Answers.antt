use Rattle.std.proofs.Common.{map, sym, ◌∙◌, string_bytes}
use Rattle.std.proofs.lemmas.List.{length-map}
use Rattle.register.specs.Offices.{keyed_entry}
use Rattle.register.proofs.PaperLemmas.{other_counts}
use Rattle.register.proofs.repeats.has_texts.Goals as goal

pub returns-then-keying-texts : goal.returns-then-keying-texts
returns-then-keying-texts c =
    let first = length-map c.args.keying.now keyed_entry in
    let second = length-map c.args.texts.now string_bytes in
    sym (other_counts (map keyed_entry c.args.keying.now) (map string_bytes c.args.texts.now) (λ same. c.if-keying-texts.true (sym first ∙ same ∙ second)))
