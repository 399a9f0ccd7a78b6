-- Proof that `tell_untaken` meets its contract.
use Rattle.std.proofs.Common.{subst, sym}
use Rattle.codes.specs.declared.fault.CodesError.{CodesError}
use Rattle.desk.specs.Pages.{IsErrorTold}
use Rattle.count_office.specs.Serving.{untaken}
use Rattle.count_office.proofs.codes_file.tell_untaken.Goals as goal

pub returns-in-Fault : goal.returns-in-Fault
returns-in-Fault g c =
    subst (λ (why : CodesError). IsErrorTold g.E.Sink.taken g.E.Sink.failed c.args.err.now c.tell_codes_fault.new.err (untaken why).err (untaken why).status c.tell_codes_fault.result)
    (sym c.in-Fault.is) c.tell_codes_fault.ensures
