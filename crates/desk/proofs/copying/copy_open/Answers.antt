-- Proof that `copy_open` meets its contract.
use Rattle.sqlite.specs.Held.{state}
use Rattle.desk.specs.Pages.{outputs_of, page_of}
use Rattle.desk.proofs.CopyingLemmas.{whole_told}
use Rattle.desk.proofs.TellingLemmas.{shown_zero}
use Rattle.desk.proofs.copying.copy_open.Goals as goal

pub returns-clause-copied : goal.returns-clause-copied
returns-clause-copied g c =
    let told = c.tell.ensures in
    let made = c.copied_open-outcome.ensures in
    record {
      page = page_of c.copied_open-outcome.result.0;
      cut = told.0;
      shown = told.1;
      is = (made.holds, (λ clean was s at. (made.copied clean was s at).0), (λ was. (made.closed was).0));
    }

pub returns-clause-stays : goal.returns-clause-stays
returns-clause-stays g c clean was s at = (c.copied_open-outcome.ensures.copied clean was s at).1

pub returns-clause-made : goal.returns-clause-made
returns-clause-made g c zero =
    let outputs = outputs_of g.O.Sink.taken g.O.Sink.failed g.E.Sink.taken g.E.Sink.failed in
    let page = page_of c.copied_open-outcome.result.0 in
    let none = (shown_zero c.tell.ensures.0 (outputs c.args.out.now c.args.err.now) (outputs c.tell.new.out c.tell.new.err) page c.tell.result c.tell.ensures.1 zero).1 in
    whole_told c.copied_open-outcome.result.1 page (state g.T.Store c.args.copy.now) (state g.T.Store c.copied_open-outcome.new.copy) none c.copied_open-outcome.ensures.holds

pub returns-clause-closed : goal.returns-clause-closed
returns-clause-closed g c was = (c.copied_open-outcome.ensures.closed was).1
