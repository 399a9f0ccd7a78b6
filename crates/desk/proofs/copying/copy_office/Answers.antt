-- Proof that `copy_office` meets its contract.
use Rattle.sqlite.specs.Held.{state}
use Rattle.desk.specs.Pages.{outputs_of, page_of}
use Rattle.desk.proofs.CopyingLemmas.{whole_told}
use Rattle.desk.proofs.TellingLemmas.{shown_zero}
use Rattle.desk.proofs.copying.copy_office.Goals as goal

pub returns-clause-copied : goal.returns-clause-copied
returns-clause-copied g c =
    let told = c.tell.ensures in
    record {
      page = page_of c.copied-outcome.result.0;
      cut = told.0;
      shown = told.1;
      is = (c.copied-outcome.ensures.holds, λ clean. c.copied-outcome.ensures.copied clean);
    }

pub returns-clause-made : goal.returns-clause-made
returns-clause-made g c zero =
    let outputs = outputs_of g.O.Sink.taken g.O.Sink.failed g.E.Sink.taken g.E.Sink.failed in
    let page = page_of c.copied-outcome.result.0 in
    let none = (shown_zero c.tell.ensures.0 (outputs c.args.out.now c.args.err.now) (outputs c.tell.new.out c.tell.new.err) page c.tell.result c.tell.ensures.1 zero).1 in
    whole_told c.copied-outcome.result.1 page (state g.T.Store c.args.copy.now) (state g.T.Store c.copied-outcome.new.copy) none c.copied-outcome.ensures.holds
