-- Proof that `errand_in` meets its contract: words that ask for help are answered with status 0.
use Rattle.std.proofs.Common.{◌≡◌, inl, arith}
use Rattle.desk.proofs.ScriptLemmas.{told_help}
use Rattle.desk.proofs.scripts.errand_in.Goals as goal

pub returns-in-Err-Words-default-eq0-clause-err : goal.returns-in-Err-Words-default-eq0-clause-err
returns-in-Err-Words-default-eq0-clause-err c =
    let why = c.in-Err-Words-default-eq0 in
    let told = rw (why.is, why.field-0-is) at c.order.ensures.denies in
    let zero : why.field-0-1 ≡ 0 = omega arith in
    inl (told_help _ why.field-0-1 zero told.0)
