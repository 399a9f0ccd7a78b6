use Rattle.rowcheck.proofs.polls.ballots_among.Goals as goal

pub loop-batch-init : goal.loop-batch-init
loop-batch-init c = c.new-ballots.ensures c.args.columns
