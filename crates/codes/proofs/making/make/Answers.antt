-- Why `make` keeps its promise.
use Rattle.std.proofs.Common.{false, string_bytes}
use Rattle.std.proofs.lemmas.Result.{IfOk-weaker}
use Rattle.codes.proofs.MakingLemmas.{file_for}
use Rattle.codes.proofs.making.make.Goals as goal

pub returns-clause-reads : goal.returns-clause-reads
returns-clause-reads g c = IfOk-weaker c.make_file.result _ _ (λ text. file_for c.args.clerks false (string_bytes text)) c.make_file.ensures.reads
