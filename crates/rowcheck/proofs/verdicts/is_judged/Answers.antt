use Rattle.std.proofs.Common.{map, sym}
use Rattle.std.proofs.lemmas.List.Folds.{list_all-map}
use Rattle.register.specs.Offices.{judged_entry, keyed_entry}
use Rattle.register.specs.BatchConditions.{is_verdict_on}
use Rattle.rowcheck.proofs.verdicts.is_judged.Goals as goal

pub returns : goal.returns
returns c =
    rw (
      c.are_verdicts_on.ensures,
      sym (list_all-map (is_verdict_on c.columns_of-columns.result (map keyed_entry c.taken_papers.result.now)) judged_entry c.verdicts_of-verdicts.result.now),
      c.verdicts_of-verdicts.ensures,
      c.taken_papers.ensures,
      c.columns_of-columns.ensures.is,
      c.candidates_of.ensures,
    )
