-- Proof that what is printed for published results of an open office meets the contract if an allocation for its path failed.
use Rattle.std.proofs.Common.{inl, inr, refl}
use Rattle.sqlite.specs.Held.{state}
use Rattle.office.specs.Answers.{WhenOpenAt}
use Rattle.tables.specs.declared.fault.Fault.TheVariants.{Memory}
use Rattle.desk.specs.Publications.{IsPublishTold}
use Rattle.desk.specs.declared.lines.Failure.TheVariants.{Office}
use Rattle.count_office.proofs.MendLemmas.{mend_failed}
use Rattle.count_office.proofs.served_file.LocalFileServedFile.publish.Goals as goal

pub returns-in-Err-clause-told : goal.returns-in-Err-clause-told
returns-in-Err-clause-told g c =
    mend_failed g.O.Sink.taken g.O.Sink.failed g.E.Sink.taken g.E.Sink.failed
    (λ page. WhenOpenAt (state g.S.Store) c.args.office.now c.args.office.now (λ s. IsPublishTold s c.args.asked page)) (Office Memory) c.args.out.now c.args.err.now
    c.tell_failure.new.err c.tell_failure.result (λ clean was s at. inr (Office Memory, refl, inl refl)) c.tell_failure.ensures

pub returns-in-Err-clause-stays : goal.returns-in-Err-clause-stays
returns-in-Err-clause-stays g c clean was s at = inl (record { is_open = was; at = at })

pub returns-in-Ok-clause-clean : goal.returns-in-Ok-clause-clean
returns-in-Ok-clause-clean g c clean = c.publish_served.ensures.reads.clean clean
