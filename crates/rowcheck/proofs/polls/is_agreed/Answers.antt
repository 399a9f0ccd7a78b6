use Rattle.std.proofs.Common.{map, sym, ◌∙◌}
use Rattle.std.proofs.lemmas.List.Folds.{list_all-map}
use Rattle.register.specs.Offices.{ward_entry, batch_entry}
use Rattle.register.specs.Elections.{election_of}
use Rattle.rowcheck.specs.States.{state_of}
use Rattle.rowcheck.specs.Walks.Polls.{is_settled_for}
use Rattle.rowcheck.proofs.WardBatchesLemmas.{settled_by_ward, agreed_in_count}
use Rattle.rowcheck.proofs.polls.is_agreed.Goals as goal

pub returns : goal.returns
returns c =
    let s = state_of c.args.rows.now in
    let n = c.args.ward.now.number in
    c.are_settled.ensures
    ∙ rw c.deref.ensures.value (
    sym (list_all-map (is_settled_for s n) batch_entry c.args.rows.now.batches.items)
    ∙ (settled_by_ward s n (map batch_entry c.args.rows.now.batches.items)
    ∙ sym (agreed_in_count (election_of s (ward_entry c.args.ward.now)) (sym c.is_in_count.ensures ∙ c.if-not-is_in_count.false)))
    )
