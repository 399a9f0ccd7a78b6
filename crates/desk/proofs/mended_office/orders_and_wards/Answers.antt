-- Proof that `orders_and_wards` meets its contract.
use Rattle.std.proofs.Common.{inr, refl, subst}
use Rattle.sqlite.specs.Held.{state}
use Rattle.register.specs.Offices.{OfficeState}
use Rattle.tables.proofs.ReadLemmas.{only_reads_then}
use Rattle.office.specs.Runs.{LeadTo}
use Rattle.desk.specs.declared.lines.Failure.TheVariants.{Office}
use Rattle.desk.proofs.mended_office.orders_and_wards.Goals as goal

-- the wards couldn't be read
pub returns-in-Err-clause-told : goal.returns-in-Err-clause-told
returns-in-Err-clause-told g c = inr (Office c.in-Err.fault, refl)

-- the rows couldn't be read
pub returns-in-Err-rows_open-clause-stays : goal.returns-in-Err-rows_open-clause-stays
returns-in-Err-rows_open-clause-stays g c clean is_open s at =
    let opened = (c.in-Ok.ensures.read (c.rows_open.ensures.reads.clean clean) is_open s at).1 in
    (c.in-Err-rows_open.ensures.kept clean opened.is_open s opened.at).2

pub returns-in-Err-rows_open-clause-reads : goal.returns-in-Err-rows_open-clause-reads
returns-in-Err-rows_open-clause-reads g c =
    only_reads_then (state g.S.Store c.args.office.now.held) (state g.S.Store c.wards_of.new.office.held) (state g.S.Store c.rows_open.new.self.held) c.wards_of.ensures.reads
    c.rows_open.ensures.reads

pub returns-in-Err-rows_open-clause-told : goal.returns-in-Err-rows_open-clause-told
returns-in-Err-rows_open-clause-told g c = inr (Office c.in-Err-rows_open.fault, refl)

-- the rows that were read are those of a state
pub orders_of-orders-requires : goal.orders_of-orders-requires
orders_of-orders-requires g c = c.in-Ok-rows_open.ensures.rise

-- the orders lead to the state of the rows, which is that of the office
pub returns-in-Ok-orders-clause-leads : goal.returns-in-Ok-orders-clause-leads
returns-in-Ok-orders-clause-leads g c clean is_open s at also blank =
    let read = c.in-Ok.ensures.read (c.rows_open.ensures.reads.clean clean) is_open s at in
    let rows = c.in-Ok-rows_open.ensures.kept clean read.1.is_open s read.1.at in
    let lead = rw c.in-Ok-orders.is at (c.orders_of-orders.ensures.leads also blank) in
    (subst (λ (x : OfficeState). LeadTo c.in-Ok-orders.orders.items x) rows.0 lead, read.0)

pub returns-in-Ok-orders-clause-stays : goal.returns-in-Ok-orders-clause-stays
returns-in-Ok-orders-clause-stays g c clean is_open s at =
    let opened = (c.in-Ok.ensures.read (c.rows_open.ensures.reads.clean clean) is_open s at).1 in
    (c.in-Ok-rows_open.ensures.kept clean opened.is_open s opened.at).2

pub returns-in-Ok-orders-clause-reads : goal.returns-in-Ok-orders-clause-reads
returns-in-Ok-orders-clause-reads g c =
    only_reads_then (state g.S.Store c.args.office.now.held) (state g.S.Store c.wards_of.new.office.held) (state g.S.Store c.rows_open.new.self.held) c.wards_of.ensures.reads
    c.rows_open.ensures.reads

-- the orders couldn't be read
pub returns-in-Err-orders-clause-stays : goal.returns-in-Err-orders-clause-stays
returns-in-Err-orders-clause-stays g c clean is_open s at =
    let opened = (c.in-Ok.ensures.read (c.rows_open.ensures.reads.clean clean) is_open s at).1 in
    (c.in-Ok-rows_open.ensures.kept clean opened.is_open s opened.at).2

pub returns-in-Err-orders-clause-reads : goal.returns-in-Err-orders-clause-reads
returns-in-Err-orders-clause-reads g c =
    only_reads_then (state g.S.Store c.args.office.now.held) (state g.S.Store c.wards_of.new.office.held) (state g.S.Store c.rows_open.new.self.held) c.wards_of.ensures.reads
    c.rows_open.ensures.reads

pub returns-in-Err-orders-clause-told : goal.returns-in-Err-orders-clause-told
returns-in-Err-orders-clause-told g c = rw c.in-Err-orders.is at c.orders_of-orders.ensures.told
