-- Proof that `own_texts_are_confirmed` meets its contract.
use Rattle.sheet_round_trip.proofs.LawLemmas.{ballots_read, declaration_confirmed, declared_finished, sheet_confirmed}
use Rattle.sheet_round_trip.proofs.laws.own_texts_are_confirmed.Goals as goal

pub returns-clause-read : goal.returns-clause-read
returns-clause-read c =
    let back = c.ballots_read_back.ensures in
    ballots_read back.back back.checked back.hindered c.texts_are_there.ensures c.columns_of.ensures.of_a_ward

pub returns-clause-sheets : goal.returns-clause-sheets
returns-clause-sheets c =
    let back = c.ballots_read_back.ensures in
    sheet_confirmed back.back back.checked back.hindered c.texts_are_there.ensures c.columns_of.ensures.of_a_ward

pub returns-clause-declarations : goal.returns-clause-declarations
returns-clause-declarations c =
    let back = c.ballots_read_back.ensures in
    declaration_confirmed back.back back.checked back.hindered c.texts_are_there.ensures c.columns_of.ensures.of_a_ward

pub returns-clause-finished : goal.returns-clause-finished
returns-clause-finished c = declared_finished
