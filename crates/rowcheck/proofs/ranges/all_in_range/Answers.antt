use Rattle.std.proofs.lemmas.List.Folds.{list_all-map}
use Rattle.register.specs.Offices.{ward_entry, candidate_entry, batch_entry, third_entry, keyed_entry, judged_entry, lot_entry, receipt_entry}
use Rattle.register.specs.StateConditions.{is_ward, is_candidate, is_batch, is_third, is_keyed_paper, is_judged_paper, is_lot, is_receipt}
use Rattle.rowcheck.proofs.ranges.all_in_range.Goals as goal

pub returns : goal.returns
returns c =
    rw (
      c.are_in_range-wards.ensures,
      c.are_in_range-candidates.ensures,
      c.are_in_range-batches.ensures,
      c.are_in_range-thirds.ensures,
      c.are_in_range-keyings.ensures,
      c.are_in_range-verdicts.ensures,
      c.are_in_range-lots.ensures,
      c.are_in_range-receipts.ensures,
      c.deref.ensures.value,
      c.deref-2.ensures.value,
      c.deref-3.ensures.value,
      c.deref-4.ensures.value,
      c.deref-5.ensures.value,
      c.deref-6.ensures.value,
      c.deref-7.ensures.value,
      c.deref-8.ensures.value,
      list_all-map is_ward ward_entry c.args.rows.now.wards.items,
      list_all-map is_candidate candidate_entry c.args.rows.now.candidates.items,
      list_all-map is_batch batch_entry c.args.rows.now.batches.items,
      list_all-map is_third third_entry c.args.rows.now.thirds.items,
      list_all-map is_keyed_paper keyed_entry c.args.rows.now.keyings.items,
      list_all-map is_judged_paper judged_entry c.args.rows.now.verdicts.items,
      list_all-map is_lot lot_entry c.args.rows.now.lots.items,
      list_all-map is_receipt receipt_entry c.args.rows.now.receipts.items,
    )
