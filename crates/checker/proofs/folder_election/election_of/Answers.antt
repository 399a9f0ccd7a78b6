-- Proof that `election_of` meets its contract.
use Rattle.checker.proofs.OfficeFolders.{made_next, made_stopped}
use Rattle.checker.proofs.folder_election.election_of.Goals as goal

pub returns-in-Err-clause-again : goal.returns-in-Err-clause-again
returns-in-Err-clause-again c = made_stopped c.args.found.now c.args.rows.now c.loop-row.row-index _ c.in-Err.fault c.loop-row-test.true c.in-Err.ensures.again

pub loop-row-preserved : goal.loop-row-preserved
loop-row-preserved c = record {
  made = c.in-Ok.ensures.made c.loop-row.invariant.made;
  again = made_next c.args.title.now c.args.found.now c.args.rows.now c.loop-row.row-index _ c.loop-row.election c.push_row.new.election c.loop-row-test.true c.in-Ok.ensures.again
      c.loop-row.invariant.again;
}
