-- Proof that `own_folders_are_confirmed` meets its contract.
use Rattle.sheet_round_trip.proofs.ConfirmedLemmas.{own_confirmed}
use Rattle.sheet_round_trip.proofs.FolderLemmas.{office_folder}
use Rattle.sheet_round_trip.proofs.laws.own_folders_are_confirmed.Goals as goal

pub returns-clause-office : goal.returns-clause-office
returns-clause-office c = office_folder c.ballots_read_back.ensures.back c.texts_are_there.ensures c.columns_of.ensures.of_a_ward

pub returns-clause-confirmed : goal.returns-clause-confirmed
returns-clause-confirmed c = own_confirmed (office_folder c.ballots_read_back.ensures.back c.texts_are_there.ensures c.columns_of.ensures.of_a_ward)
