-- Proof that `first_tables_lead_to_all` meets its contract.
use Rattle.sqlite.specs.Held.{state}
use Rattle.tables.proofs.MakeLemmas.{first_from, first_at, first_begins, begun_first, all_made, first_found}
use Rattle.tables.proofs.making.first_tables_lead_to_all.Goals as goal

pub returns-clause-holds : goal.returns-clause-holds
returns-clause-holds g c n rows db = (first_from n rows db, first_at n rows db)

pub returns-clause-reads : goal.returns-clause-reads
returns-clause-reads g c = first_begins

pub returns-clause-begins : goal.returns-clause-begins
returns-clause-begins g c n rows held rests = begun_first g.S.Store n rows held rests

pub returns-clause-ends : goal.returns-clause-ends
returns-clause-ends g c rows held sees = all_made rows (state g.S.Store held) sees

pub returns-clause-found : goal.returns-clause-found
returns-clause-found g c = first_found
