-- Proof that `answered` meets its contract.
use Rattle.std.proofs.Common.{◌∙◌, ap, subst, sym}
use Rattle.office.specs.Answers.{told}
use Rattle.wire.specs.Responses.{reply_response}
use Rattle.wire.specs.Serving.{told_response}
use Rattle.wire.specs.Told.{IsTold}
use Rattle.wire.proofs.answering.answered.Goals as goal

pub returns-in-Done : goal.returns-in-Done
returns-in-Done c =
    subst (λ entry. IsTold entry c.replied.result) (ap reply_response c.as_str.ensures.value ∙ ap (λ a. told_response (told a)) (sym c.in-Done.is)) c.replied.ensures

pub returns-in-Kept : goal.returns-in-Kept
returns-in-Kept c =
    subst (λ entry. IsTold entry c.replied-in-Kept.result) (ap reply_response c.as_str-in-Kept.ensures.value ∙ ap (λ a. told_response (told a)) (sym c.in-Kept.is))
    c.replied-in-Kept.ensures

pub returns-in-Refused : goal.returns-in-Refused
returns-in-Refused c = subst (λ entry. IsTold entry c.refused.result) (ap (λ a. told_response (told a)) (sym c.in-Refused.is)) c.refused.ensures
