-- Proof that `are_same` meets its contract.
use Rattle.std.proofs.Common.{◌∙◌, sym, ap}
use Rattle.std.proofs.lemmas.Bool.{and_from, and_parts}
use Rattle.register.specs.Offices.{ward_entry, candidate_entry, batch_entry, third_entry, keyed_entry, judged_entry, lot_entry, receipt_entry}
use Rattle.register.specs.contracts.wards.WardPartialEq.TheImpl as ward_eq
use Rattle.register.specs.contracts.candidates.CandidatePartialEq.TheImpl as candidate_eq
use Rattle.register.specs.contracts.batches.BatchPartialEq.TheImpl as batch_eq
use Rattle.register.specs.contracts.batches.ThirdClerkPartialEq.TheImpl as third_eq
use Rattle.register.specs.contracts.keyings.KeyedPaperPartialEq.TheImpl as keyed_eq
use Rattle.register.specs.contracts.verdicts.JudgedPaperPartialEq.TheImpl as judged_eq
use Rattle.register.specs.contracts.counts.DrawnLotPartialEq.TheImpl as lot_eq
use Rattle.register.specs.contracts.receipt.ReceiptPartialEq.TheImpl as receipt_eq
use Rattle.rowcheck.proofs.SamenessLemmas.{entries_one, ward_one, candidate_one, batch_one, third_one, keyed_one, judged_one, lot_one, receipt_one}
use Rattle.rowcheck.proofs.SamenessLemmas.{rows_one, ward_whole, candidate_whole, batch_whole, third_whole, keyed_whole, judged_whole, lot_whole, receipt_whole}
use Rattle.rowcheck.proofs.sameness.are_same.Goals as goal

-- each `==` confirmed it, so each map is the same
pub returns-clause-same : goal.returns-clause-same
returns-clause-same c same =
    let rows = c.args.rows.now in
    let others = c.args.others.now in
    let wards = and_parts c.eq-wards.result _ same in
    let candidates = and_parts c.eq-candidates.result _ wards.1 in
    let batches = and_parts c.eq-batches.result _ candidates.1 in
    let thirds = and_parts c.eq-thirds.result _ batches.1 in
    let keyings = and_parts c.eq-keyings.result _ thirds.1 in
    let verdicts = and_parts c.eq-verdicts.result _ keyings.1 in
    let lots = and_parts c.eq-lots.result _ verdicts.1 in
    λ i. record {
      wards = entries_one (ward_eq.ghosts).eq ward_entry ward_one rows.wards.items others.wards.items (sym c.eq-wards.ensures ∙ wards.0) i;
      candidates = entries_one (candidate_eq.ghosts).eq candidate_entry candidate_one rows.candidates.items others.candidates.items (sym c.eq-candidates.ensures ∙ candidates.0) i;
      batches = entries_one (batch_eq.ghosts).eq batch_entry batch_one rows.batches.items others.batches.items (sym c.eq-batches.ensures ∙ batches.0) i;
      thirds = entries_one (third_eq.ghosts).eq third_entry third_one rows.thirds.items others.thirds.items (sym c.eq-thirds.ensures ∙ thirds.0) i;
      keyings = entries_one (keyed_eq.ghosts).eq keyed_entry keyed_one rows.keyings.items others.keyings.items (sym c.eq-keyings.ensures ∙ keyings.0) i;
      verdicts = entries_one (judged_eq.ghosts).eq judged_entry judged_one rows.verdicts.items others.verdicts.items (sym c.eq-verdicts.ensures ∙ verdicts.0) i;
      lots = entries_one (lot_eq.ghosts).eq lot_entry lot_one rows.lots.items others.lots.items (sym c.eq-lots.ensures ∙ lots.0) i;
      receipts = entries_one (receipt_eq.ghosts).eq receipt_entry receipt_one rows.receipts.items others.receipts.items (sym c.eq-receipts.ensures ∙ lots.1) i;
    }

-- each map is the same, so each `==` confirmed it
pub returns-clause-whole : goal.returns-clause-whole
returns-clause-whole c is =
    let rows = c.args.rows.now in
    let others = c.args.others.now in
    let wards = c.eq-wards.ensures ∙ rows_one (ward_eq.ghosts).eq ward_entry ward_whole rows.wards.items others.wards.items (ap (λ s. s.wards) is) in
    let candidates = c.eq-candidates.ensures ∙ rows_one (candidate_eq.ghosts).eq candidate_entry candidate_whole rows.candidates.items others.candidates.items (ap (λ s. s.candidates) is) in
    let batches = c.eq-batches.ensures ∙ rows_one (batch_eq.ghosts).eq batch_entry batch_whole rows.batches.items others.batches.items (ap (λ s. s.batches) is) in
    let thirds = c.eq-thirds.ensures ∙ rows_one (third_eq.ghosts).eq third_entry third_whole rows.thirds.items others.thirds.items (ap (λ s. s.thirds) is) in
    let keyings = c.eq-keyings.ensures ∙ rows_one (keyed_eq.ghosts).eq keyed_entry keyed_whole rows.keyings.items others.keyings.items (ap (λ s. s.keyings) is) in
    let verdicts = c.eq-verdicts.ensures ∙ rows_one (judged_eq.ghosts).eq judged_entry judged_whole rows.verdicts.items others.verdicts.items (ap (λ s. s.verdicts) is) in
    let lots = c.eq-lots.ensures ∙ rows_one (lot_eq.ghosts).eq lot_entry lot_whole rows.lots.items others.lots.items (ap (λ s. s.lots) is) in
    let receipts = c.eq-receipts.ensures ∙ rows_one (receipt_eq.ghosts).eq receipt_entry receipt_whole rows.receipts.items others.receipts.items (ap (λ s. s.receipts) is) in
    and_from _ _ wards (and_from _ _ candidates (and_from _ _ batches (and_from _ _ thirds (and_from _ _ keyings (and_from _ _ verdicts (and_from _ _ lots receipts))))))
