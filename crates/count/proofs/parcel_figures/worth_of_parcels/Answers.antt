-- Parts of the proof of `worth_of_parcels` that are done by hand.
use Rattle.std.proofs.Common.{rules, ◌≡◌, ◌<◌, length, arith, sym}
use Rattle.count.proofs.WorthLemmas.{parcels-more, parcels-within}
use Rattle.count.proofs.parcel_figures.worth_of_parcels.Goals as goal

pub overflow_mul-sum : goal.overflow_mul-sum
overflow_mul-sum c =
    let within : c.loop-parcel.parcel-index < length c.args.parcels.now = omega arith in
    let len : c.len.result ≡ length c.parcel-item.result.papers.items = search rules in
    rw (c.units.ensures, len) (omega (arith, parcels-within c.args.parcels.now c.loop-parcel.parcel-index c.parcel-item.result within c.parcel-item.is, c.requires))

pub overflow_add-sum : goal.overflow_add-sum
overflow_add-sum c =
    let within : c.loop-parcel.parcel-index < length c.args.parcels.now = omega arith in
    let len : c.len.result ≡ length c.parcel-item.result.papers.items = search rules in
    rw (c.units.ensures, len) (omega (arith, parcels-within c.args.parcels.now c.loop-parcel.parcel-index c.parcel-item.result within c.parcel-item.is, c.loop-parcel.invariant, c.requires))

pub loop-parcel-preserved : goal.loop-parcel-preserved
loop-parcel-preserved c =
    let within : c.loop-parcel.parcel-index < length c.args.parcels.now = omega arith in
    let len : c.len.result ≡ length c.parcel-item.result.papers.items = search rules in
    rw (c.units.ensures, len, c.loop-parcel.invariant) (sym (parcels-more c.args.parcels.now c.loop-parcel.parcel-index c.parcel-item.result within c.parcel-item.is))
