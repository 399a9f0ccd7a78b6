-- Proof that `add_placed` meets its contract.
use Rattle.std.proofs.Common.{◌≡◌, List, ap, arith}
use Rattle.std.proofs.lemmas.Result.{on_ok_weaker}
use Rattle.sheet.specs.Surpluses.{papers_in, with_papers}
use Rattle.sheet.specs.declared.surpluses.PassedOn.{PassedOn}
use Rattle.sheet.proofs.SurplusLemmas.{papers_in_more}
use Rattle.sheet.proofs.surpluses.add_placed.Goals as goal

pub returns-clause-few : goal.returns-clause-few
returns-clause-few c =
    let old : List PassedOn = c.args.groups.now.items in
    let of : PassedOn = c.args.of.now in
    let more : PassedOn = record of { papers = c.args.papers; received = c.args.at.now.value; passed = c.args.to.now.value } in
    on_ok_weaker c.add_papers.result (λ (is : c.add_papers.new.groups.items ≡ with_papers old more). omega (arith, ap (λ (l : List PassedOn). papers_in l) is, papers_in_more old more))
    c.add_papers.ensures
