-- Proof that `results_text` meets its contract.
use Rattle.std.proofs.Common.{◌≡◌, rules}
use Rattle.json.specs.Lex.{tokens}
use Rattle.json.specs.Print.{print}
use Rattle.json.specs.Tree.{json_tokens}
use Rattle.sheet.specs.Entries.{shown}
use Rattle.sheet.specs.Results.{ward_result}
use Rattle.sheet.proofs.ResultsBack.{document-read, results_shallow}
use Rattle.sheet.proofs.results.results_text.Goals as goal

pub returns-clause-reads_back : goal.returns-clause-reads_back
returns-clause-reads_back c =
    let json = ward_result (shown c.args.ward.now) c.args.is_declared c.args.stages.now c.args.lots.now in
    let read : tokens (print (json_tokens json)) ≡ json_tokens json = search rules in
    document-read json read (results_shallow (shown c.args.ward.now) c.args.is_declared c.args.stages.now c.args.lots.now)
