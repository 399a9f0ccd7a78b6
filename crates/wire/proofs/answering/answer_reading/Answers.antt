-- Proof that `answer_reading` meets its contract.
use Rattle.std.proofs.Common.{ap, sym}
use Rattle.sqlite.specs.Held.{state}
use Rattle.std.specs.Prelude.{option_map, string_bytes}
use Rattle.register.specs.Status.{paper_entry}
use Rattle.store.specs.EarlierKeyings.{keyed_round_entry}
use Rattle.office.specs.EarlierKeyings.{earlier_answer}
use Rattle.office.specs.Reads.{paper_answer}
use Rattle.office.specs.Sheets.{text_answer}
use Rattle.office.specs.declared.sheets.WardText.TheVariants as text
use Rattle.wire.specs.Responses.{text_response}
use Rattle.wire.specs.Serving.{earlier_response, paper_response, reading_response}
use Rattle.wire.specs.Requests.{reading}
use Rattle.wire.specs.declared.target.Resource.TheVariants.{Office}
use Rattle.wire.proofs.AnswerLemmas.{Readies-read, Readies-same}
use Rattle.wire.proofs.answering.answer_reading.Goals as goal

pub returns-in-Sheet-clause-answers : goal.returns-in-Sheet-clause-answers
returns-in-Sheet-clause-answers g c = λ clean open_before s at.
    Readies-read s c.args.what text_response string_bytes (text_answer text.Sheet s c.in-Sheet.ward) c.sheet.result c.answer_text.result _ _ (ap (reading_response s) c.in-Sheet.is)
    (c.sheet.ensures.reads clean open_before s at) c.answer_text.ensures

pub returns-in-Declaration-clause-answers : goal.returns-in-Declaration-clause-answers
returns-in-Declaration-clause-answers g c = λ clean open_before s at.
    Readies-read s c.args.what text_response string_bytes (text_answer text.Declaration s c.in-Declaration.ward) c.result.result c.answer_text-in-Declaration.result _ _
    (ap (reading_response s) c.in-Declaration.is) (c.result.ensures.reads clean open_before s at) c.answer_text-in-Declaration.ensures

pub returns-in-Candidates-clause-answers : goal.returns-in-Candidates-clause-answers
returns-in-Candidates-clause-answers g c = λ clean open_before s at.
    Readies-read s c.args.what (paper_response c.in-Candidates.batch) paper_entry (paper_answer s c.in-Candidates.clerk c.in-Candidates.batch) c.paper.result c.answer_paper.result _ _
    (ap (reading_response s) c.in-Candidates.is) (c.paper.ensures.reads clean open_before s at) c.answer_paper.ensures

pub returns-in-Keyed-clause-answers : goal.returns-in-Keyed-clause-answers
returns-in-Keyed-clause-answers g c = λ clean open_before s at.
    Readies-read s c.args.what (earlier_response c.in-Keyed.batch) (option_map keyed_round_entry) (earlier_answer s c.in-Keyed.clerk c.in-Keyed.batch) c.earlier_keying.result c.answer_earlier.result _ _
    (ap (reading_response s) c.in-Keyed.is) (c.earlier_keying.ensures.reads clean open_before s at) c.answer_earlier.ensures

pub returns-in-Office-clause-answers : goal.returns-in-Office-clause-answers
returns-in-Office-clause-answers g c = λ clean open_before s at.
    Readies-same s (reading (Office c.in-Office.read)) (reading c.args.what) c.answer_office.result c.answer_office.new.office.closed (state g.S.Store c.answer_office.new.office.held)
    (ap reading (sym c.in-Office.is)) (c.answer_office.ensures.answers clean open_before s at)
