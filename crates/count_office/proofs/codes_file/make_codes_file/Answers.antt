-- Why `make_codes_file` keeps its promise.
use Rattle.std.proofs.Common.{refl}
use Rattle.codes.specs.Making.{clerks_entry}
use Rattle.codes.specs.declared.fault.CodesError.TheVariants.{Fault}
use Rattle.codes.specs.declared.fault.CodesFault.TheVariants.{NoClerks, Unmade}
use Rattle.desk.specs.Pages.{codes_page}
use Rattle.desk.proofs.PageLemmas.{error_shown}
use Rattle.count_office.specs.Serving.{untaken}
use Rattle.count_office.proofs.NewCodesLemmas.{made_for, none_named, told_as, unmade_for, untaken_silent}
use Rattle.count_office.proofs.codes_file.make_codes_file.Goals as goal

pub returns-in_default : goal.returns-in_default
returns-in_default g c =
    told_as _ _ _ _ _ _ (error_shown g.O.Sink.taken g.O.Sink.failed g.E.Sink.taken g.E.Sink.failed c.args.out.now c.args.err.now c.tell_codes_fault.new.err
    (codes_page NoClerks) c.tell_codes_fault.result refl c.tell_codes_fault.ensures)
    (none_named _ _ c.in_default.ensures.is)

pub returns-in-Err : goal.returns-in-Err
returns-in-Err g c =
    told_as _ _ _ _ _ _ (error_shown g.O.Sink.taken g.O.Sink.failed g.E.Sink.taken g.E.Sink.failed c.args.out.now c.args.err.now c.tell_untaken.new.err
    (untaken c.in-Err.why) c.tell_untaken.result (untaken_silent c.in-Err.why) c.tell_untaken.ensures)
    (unmade_for _ (clerks_entry c.in-Some.clerks) _ c.in-Err.why c.in-Some.ensures.is)

pub returns-in-Ok-write_new : goal.returns-in-Ok-write_new
returns-in-Ok-write_new g c = told_as _ _ _ _ _ _ c.tell_made.ensures (made_for _ (clerks_entry c.in-Some.clerks) _ _ c.in-Some.ensures.is c.count.ensures.span)

pub returns : goal.returns
returns g c =
    told_as _ _ _ _ _ _ (error_shown g.O.Sink.taken g.O.Sink.failed g.E.Sink.taken g.E.Sink.failed c.args.out.now c.args.err.now c.tell_codes_fault-in-Err-write_new.new.err
    (codes_page Unmade) c.tell_codes_fault-in-Err-write_new.result refl c.tell_codes_fault-in-Err-write_new.ensures)
    (unmade_for _ (clerks_entry c.in-Some.clerks) _ (Fault Unmade) c.in-Some.ensures.is)
