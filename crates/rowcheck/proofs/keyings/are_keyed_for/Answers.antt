use Rattle.std.proofs.Common.{◌&&◌, nat_le, option_map, sym}
use Rattle.std.proofs.lemmas.List.Folds.{list_all-map}
use Rattle.register.specs.Offices.{KeyedEntry, batch_entry, third_entry, keyed_entry}
use Rattle.register.specs.Agreement.{is_its_clerk}
use Rattle.register.specs.Marks.{is_readable}
use Rattle.rowcheck.proofs.keyings.are_keyed_for.Goals as goal

pub returns : goal.returns
returns c =
    rw (
      c.are_papers_for.ensures,
      sym (list_all-map (λ (k : KeyedEntry). nat_le k.round c.args.batch.now.round
          && (is_its_clerk k.clerk (batch_entry c.args.batch.now) (option_map third_entry c.third_at-third.result)
          && is_readable c.columns_of-columns.result k.marks)) keyed_entry c.papers_of.result.now),
      c.papers_of.ensures,
      c.third_at-third.ensures,
      c.columns_of-columns.ensures.is,
      c.candidates_of.ensures,
    )
