-- Proof that `write_effect` meets its contract.
use Rattle.std.proofs.Common.{List, map, subst}
use Rattle.sqlite.specs.Order.{Row}
use Rattle.register.specs.Offices.{ward_entry, candidate_entry, batch_entry, third_entry, keyed_entry, judged_entry, lot_entry}
use Rattle.register.specs.Effects.{papers_keyed, with_effect}
use Rattle.tables.specs.declared.table.Table.TheVariants.{Keying}
use Rattle.tables.specs.Contents.{SameContents, added_all}
use Rattle.tables.proofs.ListLemmas.{mapped_twice}
use Rattle.tables.proofs.AlterLemmas.{alters_same}
use Rattle.store.specs.EntryRows.{row_of_keyed}
use Rattle.store.specs.StateTables.{tables_with}
use Rattle.store.proofs.WriteLemmas.{ward_put, phase_put, done_put, candidate_put, candidate_gone, batch_put, round_put, third_put, papers_put, verdict_put, lot_put}
use Rattle.store.proofs.writing.write_effect.Goals as goal

pub returns-in-WardAdded : goal.returns-in-WardAdded
returns-in-WardAdded g c = rw c.in-WardAdded.is (alters_same c.add_entry.ensures (λ x. ward_put x.0 x.1 (ward_entry c.in-WardAdded.ward)))

pub returns-in-WardMoved : goal.returns-in-WardMoved
returns-in-WardMoved g c =
    let i = c.in-WardMoved in
    rw i.is (alters_same (rw (c.number.ensures, c.number-in-WardMoved-2.ensures, c.number-in-WardMoved.ensures) at c.set_value.ensures.sets) (λ x. phase_put x.0 x.1 i.ward i.phase))

pub returns-in-CandidateAdded : goal.returns-in-CandidateAdded
returns-in-CandidateAdded g c = rw c.in-CandidateAdded.is (alters_same c.add_entry-in-CandidateAdded.ensures (λ x. candidate_put x.0 x.1 (candidate_entry c.in-CandidateAdded.candidate)))

pub returns-in-CandidateWithdrawn : goal.returns-in-CandidateWithdrawn
returns-in-CandidateWithdrawn g c =
    let i = c.in-CandidateWithdrawn in
    rw i.is (alters_same (rw (c.number-in-CandidateWithdrawn.ensures, c.number-in-CandidateWithdrawn-2.ensures) at c.remove.ensures.removes) (λ x. candidate_gone x.0 x.1 i.ward i.candidate))

pub returns-in-BatchAdded : goal.returns-in-BatchAdded
returns-in-BatchAdded g c = rw c.in-BatchAdded.is (alters_same c.add_entry-in-BatchAdded.ensures (λ x. batch_put x.0 x.1 (batch_entry c.in-BatchAdded.batch)))

pub returns-in-BatchReopened : goal.returns-in-BatchReopened
returns-in-BatchReopened g c =
    let i = c.in-BatchReopened in
    rw i.is (alters_same (rw (c.number-in-BatchReopened.ensures, c.number-in-BatchReopened-2.ensures) at c.set_value-in-BatchReopened.ensures.sets) (λ x. round_put x.0 x.1 i.batch i.round))

pub returns-in-ThirdSet : goal.returns-in-ThirdSet
returns-in-ThirdSet g c = rw c.in-ThirdSet.is (alters_same c.add_entry-in-ThirdSet.ensures (λ x. third_put x.0 x.1 (third_entry c.in-ThirdSet.third)))

pub returns-in-PapersKeyed : goal.returns-in-PapersKeyed
returns-in-PapersKeyed g c =
    let papers = map keyed_entry c.in-PapersKeyed.papers.items in
    rw c.in-PapersKeyed.is (alters_same (rw c.deref.ensures.value at c.add_entries.ensures)
    (λ x. subst (λ (rows : List Row). SameContents (added_all Keying rows (tables_with x.0 x.1)) (tables_with (with_effect (papers_keyed papers) x.0) x.1))
    (mapped_twice keyed_entry row_of_keyed c.in-PapersKeyed.papers.items) (papers_put x.0 x.1 papers)))

pub returns-in-PaperJudged : goal.returns-in-PaperJudged
returns-in-PaperJudged g c = rw c.in-PaperJudged.is (alters_same c.add_entry-in-PaperJudged.ensures (λ x. verdict_put x.0 x.1 (judged_entry c.in-PaperJudged.judged)))

pub returns-in-StageCounted : goal.returns-in-StageCounted
returns-in-StageCounted g c =
    let i = c.in-StageCounted in
    rw i.is (alters_same (rw (c.number-in-StageCounted.ensures, c.number-in-StageCounted-2.ensures) at c.set_value-in-StageCounted.ensures.sets) (λ x. done_put x.0 x.1 i.ward i.done))

pub returns-in-LotDrawn : goal.returns-in-LotDrawn
returns-in-LotDrawn g c = rw c.in-LotDrawn.is (alters_same c.add_entry-in-LotDrawn.ensures (λ x. lot_put x.0 x.1 (lot_entry c.in-LotDrawn.lot)))
