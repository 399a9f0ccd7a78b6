-- Proof that `print_slips` meets its contract.
use Rattle.std.proofs.Common.{inr, refl}
use Rattle.codes.specs.declared.fault.CodesError.TheVariants.{Fault}
use Rattle.desk.specs.Pages.{codes_page}
use Rattle.desk.proofs.PageLemmas.{error_shown}
use Rattle.count_office.specs.Serving.{untaken}
use Rattle.count_office.proofs.NewCodesLemmas.{slips_printed, slips_told, untaken_silent}
use Rattle.count_office.proofs.codes_file.print_slips.Goals as goal

pub returns-in-Err : goal.returns-in-Err
returns-in-Err g c =
    slips_told _ _ _ _ _ (error_shown g.O.Sink.taken g.O.Sink.failed g.E.Sink.taken g.E.Sink.failed c.args.out.now c.args.err.now c.tell_codes_fault.new.err
    (codes_page c.in-Err.fault) c.tell_codes_fault.result refl c.tell_codes_fault.ensures)
    (inr (Fault c.in-Err.fault, refl))

pub returns-in-Ok-slips_of : goal.returns-in-Ok-slips_of
returns-in-Ok-slips_of g c = slips_told _ _ _ _ _ c.tell_slips.ensures (rw c.as_str.ensures.value (slips_printed _ c.as_slice.result.now _ c.in-Ok-slips_of.ensures.ok))

pub returns : goal.returns
returns g c =
    slips_told _ _ _ _ _ (error_shown g.O.Sink.taken g.O.Sink.failed g.E.Sink.taken g.E.Sink.failed c.args.out.now c.args.err.now c.tell_untaken.new.err
    (untaken c.in-Err-slips_of.why) c.tell_untaken.result (untaken_silent c.in-Err-slips_of.why) c.tell_untaken.ensures)
    (inr (c.in-Err-slips_of.why, refl))
