-- Proof that `sealed_wards` meets its contract: the wards are read one after the other.
use Rattle.std.proofs.Common.{◌∙◌, ap, arith, map, rules}
use Rattle.std.specs.List.{flat_map}
use Rattle.desk.specs.Publications.{sealed_entry, ward_of_overview, ward_published}
use Rattle.desk.proofs.PublishLemmas.{overview_there, published_all, published_more, published_wards, reads_as, reads_both, reads_cut, reads_none}
use Rattle.desk.proofs.publishing.sealed_wards.Goals as goal

pub loop-overview-init : goal.loop-overview-init
loop-overview-init g c = reads_none (λ s is. λ same. search rules)

pub loop-overview-preserved : goal.loop-overview-preserved
loop-overview-preserved g c =
    reads_as (reads_both c.loop-overview.invariant c.in_ok-push_ward.ensures)
    (λ s is told. λ same.
    let there = overview_there s is c.args.overviews.now same c.loop-overview.overview-index c.overview-item.result c.loop-overview-test.true c.overview-item.is in
    published_more (ward_published c.args.asked.title.now c.args.asked.with_ballots s) ward_of_overview c.args.overviews.now c.loop-overview.overview-index c.overview-item.result
    (map sealed_entry c.loop-overview.wards.items) (map sealed_entry c.push_ward.new.wards.items)
    (flat_map (ward_published c.args.asked.title.now c.args.asked.with_ballots s) (map ward_of_overview c.args.overviews.now)) c.loop-overview-test.true c.overview-item.is
    (told.1 is there) (told.0 same))

pub returns-in_err-push_ward : goal.returns-in_err-push_ward
returns-in_err-push_ward g c = reads_cut c.from_residual.ensures.1 c.loop-overview.invariant c.in_err-push_ward.ensures

pub returns : goal.returns
returns g c =
    reads_as c.loop-overview.invariant
    (λ s is told. λ same.
    published_all (ward_published c.args.asked.title.now c.args.asked.with_ballots s) ward_of_overview c.args.overviews.now c.loop-overview.overview-index _ _
    (omega (arith, c.loop-overview-test.false)) (told same)
    ∙ ap (flat_map (ward_published c.args.asked.title.now c.args.asked.with_ballots s)) same ∙ published_wards c.args.asked.title.now c.args.asked.with_ballots s)
