-- Proof that `surpluses_in` meets its contract.
use Rattle.std.proofs.Common.{◌∙◌, ap, subst, length}
use Rattle.std.proofs.lemmas.Result.{IfOk-weaker}
use Rattle.register.specs.Marks.{columns_of}
use Rattle.register.specs.Tabulated.{IsCountIn}
use Rattle.office.proofs.SheetLemmas.{surpluses_alike}
use Rattle.office.proofs.sheets.surpluses_in.Goals as goal

pub returns : goal.returns
returns c =
    IfOk-weaker c.surpluses_of.result _ _
    (λ found is e counted phase same.
    let count = subst (IsCountIn e) c.in-Some.is counted.count_is in
    let kept = count.1.kept_is in
    surpluses_alike e found.items c.candidates-candidates.result c.args.ward.now.seats c.bundles_of-bundles.result.now c.lots_of.result.now (length c.stages_of-stages.result.now)
    count.0 (c.bundles_count_alike.ensures.contest (columns_of e.candidates) e.ward.seats e.ballots.papers kept.fair)
    (c.candidates-candidates.ensures ∙ kept.candidates_are) (ap (λ w. w.seats) same) (c.bundles_of-bundles.ensures e counted phase) (c.lots_of.ensures e counted phase)
    (ap length (c.stages_of-stages.ensures e counted phase)) is)
    c.surpluses_of.ensures.is
