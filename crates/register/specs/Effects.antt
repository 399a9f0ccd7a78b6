-- What an accepted command changes in the state of an office.
use Rattle.std.specs.Prelude.{ℕ, List, map}
use Rattle.register.specs.declared.phase.Phase.{Phase}
use Rattle.register.specs.declared.decision.Effect.{Effect}
use Rattle.register.specs.declared.decision.Effect.TheVariants.{WardAdded, WardMoved, CandidateAdded, CandidateWithdrawn, BatchAdded, BatchReopened, ThirdSet, PapersKeyed, PaperJudged}
use Rattle.register.specs.declared.decision.Effect.TheVariants.{StageCounted, LotDrawn}
use Rattle.register.specs.declared.decision.Change.{Change}
use Rattle.register.specs.Offices.{WardEntry, CandidateEntry, BatchEntry, ThirdEntry, KeyedEntry, JudgedEntry, LotEntry, ReceiptEntry, OfficeState, put, put_each, without, changed, ward_cmp}
use Rattle.register.specs.Offices.{candidate_cmp, batch_cmp, third_cmp, keyed_cmp, judged_cmp, lot_cmp, receipt_cmp, ward_compared, candidate_compared, batch_compared, ward_entry}
use Rattle.register.specs.Offices.{candidate_entry, batch_entry, third_entry, keyed_entry, judged_entry, lot_entry, receipt_entry}

-- What a command does to the state, apart from its receipt. A ward is added or enters another phase; a candidate is added or withdrawn; a batch is
-- added, reopened for another round, or assigned to a third clerk. Papers are keyed; a paper is judged; the number of completed stages in a ward's
-- count is set; or a lot is drawn.
pub data EffectEntry : Type 0 where
  ward_added : WardEntry → EffectEntry
  ward_moved : ℕ → Phase → EffectEntry
  candidate_added : CandidateEntry → EffectEntry
  candidate_withdrawn : ℕ → ℕ → EffectEntry
  batch_added : BatchEntry → EffectEntry
  batch_reopened : ℕ → ℕ → EffectEntry
  third_set : ThirdEntry → EffectEntry
  papers_keyed : List KeyedEntry → EffectEntry
  paper_judged : JudgedEntry → EffectEntry
  stage_counted : ℕ → ℕ → EffectEntry
  lot_drawn : LotEntry → EffectEntry

-- everything that an accepted request changes
pub record ChangeEntry : Type 0 where
  pub effect : EffectEntry
  pub receipt : ReceiptEntry

-- a ward, moved to the given phase
abbrev pub in_phase : Phase → WardEntry → WardEntry
in_phase phase w = record w { phase = phase }

-- a ward, with the given number of completed stages
abbrev pub at_stage : ℕ → WardEntry → WardEntry
at_stage done w = record w { done = done }

-- a batch, moved to the given round
abbrev pub in_round : ℕ → BatchEntry → BatchEntry
in_round round b = record b { round = round }

-- the state after an effect
abbrev pub with_effect : EffectEntry → OfficeState → OfficeState
with_effect (ward_added w) s = record s { wards = put ward_cmp w s.wards }
with_effect (ward_moved ward phase) s = record s { wards = changed (ward_compared ward) (in_phase phase) s.wards }
with_effect (candidate_added c) s = record s { candidates = put candidate_cmp c s.candidates }
with_effect (candidate_withdrawn ward candidate) s = record s { candidates = without (candidate_compared ward candidate) s.candidates }
with_effect (batch_added b) s = record s { batches = put batch_cmp b s.batches }
with_effect (batch_reopened batch round) s = record s { batches = changed (batch_compared batch) (in_round round) s.batches }
with_effect (third_set t) s = record s { thirds = put third_cmp t s.thirds }
with_effect (papers_keyed papers) s = record s { keyings = put_each keyed_cmp papers s.keyings }
with_effect (paper_judged v) s = record s { verdicts = put judged_cmp v s.verdicts }
with_effect (stage_counted ward done) s = record s { wards = changed (ward_compared ward) (at_stage done) s.wards }
with_effect (lot_drawn l) s = record s { lots = put lot_cmp l s.lots }

-- the state with a receipt added
abbrev pub with_receipt : ReceiptEntry → OfficeState → OfficeState
with_receipt r s = record s { receipts = put receipt_cmp r s.receipts }

-- the state after a change
abbrev pub with_change : ChangeEntry → OfficeState → OfficeState
with_change change s = with_receipt change.receipt (with_effect change.effect s)

-- the entry for an effect
abbrev pub effect_entry : Effect → EffectEntry
effect_entry (WardAdded w) = ward_added (ward_entry w)
effect_entry (WardMoved ward phase) = ward_moved ward phase
effect_entry (CandidateAdded c) = candidate_added (candidate_entry c)
effect_entry (CandidateWithdrawn ward candidate) = candidate_withdrawn ward candidate
effect_entry (BatchAdded b) = batch_added (batch_entry b)
effect_entry (BatchReopened batch round) = batch_reopened batch round
effect_entry (ThirdSet t) = third_set (third_entry t)
effect_entry (PapersKeyed papers) = papers_keyed (map keyed_entry papers.items)
effect_entry (PaperJudged v) = paper_judged (judged_entry v)
effect_entry (StageCounted ward done) = stage_counted ward done
effect_entry (LotDrawn l) = lot_drawn (lot_entry l)

-- the entry for a change
abbrev pub change_entry : Change → ChangeEntry
change_entry change = record { effect = effect_entry change.effect; receipt = receipt_entry change.receipt }
