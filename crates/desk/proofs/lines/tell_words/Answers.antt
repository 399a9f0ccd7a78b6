-- Proof that `tell_words` meets its contract.
use Rattle.std.proofs.Common.{refl}
use Rattle.desk.specs.Pages.{words_page}
use Rattle.desk.specs.declared.words.WordsFault.TheVariants.{Digest, Form, Origin, TitleAlone, Verdict}
use Rattle.desk.proofs.PageLemmas.{error_shown}
use Rattle.desk.proofs.lines.tell_words.Goals as goal

pub returns-in-Verdict : goal.returns-in-Verdict
returns-in-Verdict g c = rw c.in-Verdict.is (error_shown g.O.Sink.taken g.O.Sink.failed g.E.Sink.taken g.E.Sink.failed _ _ _ (words_page Verdict) c.tell_error.result refl c.tell_error.ensures)

pub returns-in-Origin : goal.returns-in-Origin
returns-in-Origin g c =
    rw c.in-Origin.is (error_shown g.O.Sink.taken g.O.Sink.failed g.E.Sink.taken g.E.Sink.failed _ _ _ (words_page Origin) c.tell_error-in-Origin.result refl c.tell_error-in-Origin.ensures)

pub returns-in-Digest : goal.returns-in-Digest
returns-in-Digest g c =
    rw c.in-Digest.is (error_shown g.O.Sink.taken g.O.Sink.failed g.E.Sink.taken g.E.Sink.failed _ _ _ (words_page Digest) c.tell_error-in-Digest.result refl c.tell_error-in-Digest.ensures)

pub returns-in-TitleAlone : goal.returns-in-TitleAlone
returns-in-TitleAlone g c =
    rw c.in-TitleAlone.is (error_shown g.O.Sink.taken g.O.Sink.failed g.E.Sink.taken g.E.Sink.failed _ _ _ (words_page TitleAlone) c.tell_error-in-TitleAlone.result refl
    c.tell_error-in-TitleAlone.ensures)

pub returns-in-Form : goal.returns-in-Form
returns-in-Form g c =
    rw c.in-Form.is (error_shown g.O.Sink.taken g.O.Sink.failed g.E.Sink.taken g.E.Sink.failed _ _ _ (words_page Form) c.tell_error-in-Form.result refl c.tell_error-in-Form.ensures)
