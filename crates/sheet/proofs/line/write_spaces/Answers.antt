-- Proof that `write_spaces` meets its contract.
use Rattle.std.proofs.lemmas.List.{take-replicate}
use Rattle.sheet.proofs.Utf8.{IsUtf8-spaces}
use Rattle.sheet.proofs.Writing.{Writes-put}
use Rattle.sheet.proofs.line.write_spaces.Goals as goal

pub returns : goal.returns
returns g c =
    let put = c.put_all.ensures in
    Writes-put _ _ _ _ c.put_all.result (take-replicate c.args.count 13 32 c.requires.few) (IsUtf8-spaces c.args.count) put.all put.ok put.cut_off put.err
