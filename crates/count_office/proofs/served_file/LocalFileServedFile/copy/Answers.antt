-- Proof that what is printed for a copy of an open office meets the contract if an allocation for its path failed.
use Rattle.std.proofs.Common.{inl}
use Rattle.sqlite.specs.Held.{state}
use Rattle.tables.specs.declared.fault.Fault.TheVariants.{Memory}
use Rattle.desk.specs.declared.lines.Failure.TheVariants.{Office}
use Rattle.count_office.proofs.CopyLemmas.{failure_told}
use Rattle.count_office.proofs.served_file.LocalFileServedFile.copy.Goals as goal

pub returns-in-Err-clause-told : goal.returns-in-Err-clause-told
returns-in-Err-clause-told g c =
    failure_told g.O.Sink.taken g.O.Sink.failed g.E.Sink.taken g.E.Sink.failed (state g.S.Store) c.args.office.now c.args.office.now c.args.out.now c.args.err.now c.tell_failure.new.err
    (Office Memory) c.tell_failure.result
    c.tell_failure.ensures

pub returns-in-Err-clause-stays : goal.returns-in-Err-clause-stays
returns-in-Err-clause-stays g c clean was s at = inl (record { is_open = was; at = at })
