-- Proof that `wards_of` meets its contract.
use Rattle.std.proofs.Common.{map, string_bytes}
use Rattle.sqlite.specs.Held.{state}
use Rattle.store.specs.Overviews.{ward_view}
use Rattle.office.specs.Overviews.{wards_answer}
use Rattle.desk.proofs.MendLemmas.{lines_read, read_at}
use Rattle.desk.proofs.mended_office.wards_of.Goals as goal

pub returns-in-Ok-lines_on_wards-clause-read : goal.returns-in-Ok-lines_on_wards-clause-read
returns-in-Ok-lines_on_wards-clause-read g c clean is_open s at =
    let read = c.in-Ok.ensures.reads clean is_open s at in
    let lines = rw c.deref.ensures.value at c.in-Ok-lines_on_wards.ensures in
    (lines_read ward_view s c.in-Ok.wards.items (map string_bytes c.in-Ok-lines_on_wards.lines.items) lines read.0, read.1)

pub returns-in-Ok-lines_on_wards-clause-stays : goal.returns-in-Ok-lines_on_wards-clause-stays
returns-in-Ok-lines_on_wards-clause-stays g c clean is_open s at =
    read_at (λ v. map ward_view v.items) s (wards_answer s) c.wards.result c.wards.new.self.closed (state g.S.Store c.wards.new.self.held) (c.wards.ensures.reads clean is_open s at)

pub returns-in-Ok-clause-stays : goal.returns-in-Ok-clause-stays
returns-in-Ok-clause-stays g c clean is_open s at =
    read_at (λ v. map ward_view v.items) s (wards_answer s) c.wards.result c.wards.new.self.closed (state g.S.Store c.wards.new.self.held) (c.wards.ensures.reads clean is_open s at)

pub returns-in-Err-Fault-clause-stays : goal.returns-in-Err-Fault-clause-stays
returns-in-Err-Fault-clause-stays g c clean is_open s at =
    read_at (λ v. map ward_view v.items) s (wards_answer s) c.wards.result c.wards.new.self.closed (state g.S.Store c.wards.new.self.held) (c.wards.ensures.reads clean is_open s at)

pub returns-clause-stays : goal.returns-clause-stays
returns-clause-stays g c clean is_open s at =
    read_at (λ v. map ward_view v.items) s (wards_answer s) c.wards.result c.wards.new.self.closed (state g.S.Store c.wards.new.self.held) (c.wards.ensures.reads clean is_open s at)
