-- Proof that `escaped` meets its contract.
use Rattle.std.proofs.Common.{flat_map, sym, subst, ap, ◌∙◌, map-id}
use Rattle.std.proofs.lemmas.Iterator.{YieldsList-from_chars}
use Rattle.std.proofs.lemmas.Iterator.Consumers.{YieldsList-end}
use Rattle.std.specs.Str.{chars}
use Rattle.forms.specs.Pages.{HasNoMarkup, escaped_character}
use Rattle.forms.proofs.Markup.{escaped_all}
use Rattle.forms.proofs.escaping.escaped.Goals as goal

pub returns-clause-is : goal.returns-clause-is
returns-clause-is c =
    let end = YieldsList-end (YieldsList-from_chars c.args.text.now c.utf8.text cc) c.loop-character.yielded _ c.loop-character.yielded_by _ _ c.in-None.is c.next.ensures.steps in
    c.loop-character.invariant ∙ ap (flat_map escaped_character) (sym (map-id c.loop-character.yielded) ∙ end.0)

pub returns-clause-plain : goal.returns-clause-plain
returns-clause-plain c = subst HasNoMarkup (sym (returns-clause-is c)) (escaped_all (chars c.args.text.now))
