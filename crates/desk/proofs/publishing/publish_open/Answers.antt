-- Proof that `publish_open` meets its contract.
use Rattle.sqlite.specs.Held.{state}
use Rattle.published_office.specs.OfficeFolder.{published_of}
use Rattle.desk.specs.Pages.{outputs_of, page_of}
use Rattle.desk.specs.Publications.{StopsReading, published_page}
use Rattle.desk.proofs.PublishLemmas.{published_at_zero}
use Rattle.desk.proofs.TellingLemmas.{shown_zero}
use Rattle.desk.proofs.publishing.publish_open.Goals as goal

pub returns-clause-published : goal.returns-clause-published
returns-clause-published g c =
    let told = c.tell.ensures in
    record {
      page = page_of c.published_open-outcome.result;
      cut = told.0;
      shown = told.1;
      is = (c.published_open-outcome.ensures.holds, λ clean was s at. c.published_open-outcome.ensures.published clean was s at);
    }

pub returns-clause-whole : goal.returns-clause-whole
returns-clause-whole g c zero clean was s at =
    let outputs = outputs_of g.O.Sink.taken g.O.Sink.failed g.E.Sink.taken g.E.Sink.failed in
    let page = page_of c.published_open-outcome.result in
    let none = (shown_zero c.tell.ensures.0 (outputs c.args.out.now c.args.err.now) (outputs c.tell.new.out c.tell.new.err) page c.tell.result c.tell.ensures.1 zero).1 in
    published_at_zero StopsReading (published_page c.args.asked.title.now c.args.asked.with_ballots s) (published_of c.args.asked.title.now c.args.asked.with_ballots s) page
    (g.F.PublicFolder.held c.args.folder.now) (g.F.PublicFolder.held c.published_open-outcome.new.folder) none (c.published_open-outcome.ensures.published clean was s at)
