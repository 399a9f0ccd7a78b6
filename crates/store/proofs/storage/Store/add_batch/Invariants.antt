-- What is known when the walk of `add_batch` starts.
use Rattle.std.proofs.Common.{map}
use Rattle.register.specs.Offices.{judged_entry}
use Rattle.register.specs.Polls.{StandFor, ballots_by}
use Rattle.store.proofs.storage.Store.add_batch.Given as goal

abbrev pub ghosts-walk_papers : goal.ghosts-walk_papers
ghosts-walk_papers g a = record { were_counted = λ js. StandFor g.P.KeepsPapers.holds a.ballots (ballots_by js); columns = a.columns; verdicts = map judged_entry a.verdicts.items }
