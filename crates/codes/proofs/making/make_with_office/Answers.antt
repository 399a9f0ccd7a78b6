-- Why `make_with_office` keeps its promise.
use Rattle.std.proofs.Common.{string_bytes}
use Rattle.std.proofs.lemmas.Result.{IfOk-weaker}
use Rattle.codes.proofs.MakingLemmas.{file_with_office}
use Rattle.codes.proofs.making.make_with_office.Goals as goal

pub returns-clause-reads : goal.returns-clause-reads
returns-clause-reads g c = IfOk-weaker c.make_file.result _ _ (λ text. file_with_office c.args.clerks (string_bytes text)) c.make_file.ensures.reads
