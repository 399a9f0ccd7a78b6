-- Proof that `read_election` meets its contract: the index, the overviews and the texts are read, one after the other.
use Rattle.std.proofs.Common.{◌∙◌, ap, map}
use Rattle.desk.specs.Publications.{ward_of_overview}
use Rattle.desk.proofs.PublishLemmas.{read_whole, reads_as, reads_both, reads_cut, reads_failed}
use Rattle.desk.proofs.publishing.read_election.Goals as goal

pub returns-in_err-index : goal.returns-in_err-index
returns-in_err-index g c = reads_failed c.from_residual.ensures.1 c.in_err-index.ensures

pub returns-in_err-overviews : goal.returns-in_err-overviews
returns-in_err-overviews g c = reads_cut c.from_residual-in_err-overviews.ensures.1 c.in_ok-index.ensures c.in_err-overviews.ensures

pub returns-in_err-wards : goal.returns-in_err-wards
returns-in_err-wards g c = reads_cut c.from_residual-in_err-wards.ensures.1 (reads_both c.in_ok-index.ensures c.in_ok-overviews.ensures) c.in_err-wards.ensures

pub returns : goal.returns
returns g c =
    reads_as (reads_both (reads_both c.in_ok-index.ensures c.in_ok-overviews.ensures) c.in_ok-wards.ensures)
    (λ s is told. read_whole c.args.asked.title.now c.args.asked.with_ballots s _ _ told.0.0 (told.1 (ap (map ward_of_overview) c.deref.ensures.value ∙ told.0.1)))
