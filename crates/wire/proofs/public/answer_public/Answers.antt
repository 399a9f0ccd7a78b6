-- Proof that `answer_public` meets its contract.
use Rattle.std.proofs.Common.{◌∙◌, List, ap, map, sym}
use Rattle.std.specs.Prelude.{string_bytes}
use Rattle.store.specs.Overviews.{WardView, ward_view}
use Rattle.office.specs.Index.{index_answer}
use Rattle.office.specs.Overviews.{wards_answer}
use Rattle.office.specs.Sheets.{text_answer}
use Rattle.office.specs.declared.sheets.WardText.TheVariants as text
use Rattle.wire.specs.Gates.{public_entry}
use Rattle.wire.specs.PublicReplies.{screen_of}
use Rattle.wire.specs.Responses.{printed_response}
use Rattle.wire.specs.Serving.{data_response, public_response, read_response}
use Rattle.wire.proofs.PublicLemmas.{Readies-public, page-told}
use Rattle.wire.proofs.public.answer_public.Goals as goal

pub returns-in-Index-clause-answers : goal.returns-in-Index-clause-answers
returns-in-Index-clause-answers g c = λ clean open_before s at.
    Readies-public s (public_entry c.args.shown) c.args.what printed_response string_bytes (index_answer c.args.shown.title.now s) c.index.result c.answer_printed.result _ _
    (ap (public_response s (public_entry c.args.shown)) c.in-Index.is) (c.index.ensures.reads clean open_before s at) c.answer_printed.ensures

pub returns-in-Wards-clause-answers : goal.returns-in-Wards-clause-answers
returns-in-Wards-clause-answers g c = λ clean open_before s at.
    Readies-public s (public_entry c.args.shown) c.args.what (λ (views : List WardView). data_response (screen_of c.args.shown.title.now views)) (λ wards. map ward_view wards.items)
    (wards_answer s) c.wards.result c.answer_wards.result _ _ (ap (public_response s (public_entry c.args.shown)) c.in-Wards.is) (c.wards.ensures.reads clean open_before s at)
    c.answer_wards.ensures

pub returns-in-Page-clause-answers : goal.returns-in-Page-clause-answers
returns-in-Page-clause-answers g c = λ clean open_before s at.
    Readies-public s (public_entry c.args.shown) c.args.what printed_response string_bytes (text_answer (text.Page c.args.shown.title) s c.in-Page.ward)
    c.text.result c.answer_printed-in-Page.result _ _
    (ap (public_response s (public_entry c.args.shown)) c.in-Page.is ∙ ap (read_response printed_response) (sym (page-told c.args.shown.title s c.in-Page.ward)))
    (c.text.ensures.reads clean open_before s at) c.answer_printed-in-Page.ensures
