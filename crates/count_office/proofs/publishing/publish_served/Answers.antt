-- Proof that `publish_served` meets its contract: the folder couldn't be begun, or the office was published in it.
use Rattle.std.proofs.Common.{inl, inr, refl, subst, sym}
use Rattle.sqlite.specs.Held.{state}
use Rattle.office.specs.Answers.{WhenOpenAt}
use Rattle.desk.specs.Publications.{EndsPublishing, IsPublishTold}
use Rattle.desk.proofs.PublishLemmas.{folder_ends, publish_told}
use Rattle.count_office.proofs.MendLemmas.{mend_failed}
use Rattle.count_office.proofs.publishing.publish_served.Goals as goal

pub returns-in-Err-clause-told : goal.returns-in-Err-clause-told
returns-in-Err-clause-told g c =
    let why = c.in-Err.ensures in
    mend_failed g.O.Sink.taken g.O.Sink.failed g.E.Sink.taken g.E.Sink.failed
    (λ page. WhenOpenAt (state g.S.Store) c.args.office.now c.args.office.now (λ s. IsPublishTold s c.args.asked page)) c.in-Err.failure c.args.out.now c.args.err.now
    c.tell_failure.new.err c.tell_failure.result (λ clean was s at. inr (c.in-Err.failure, refl, subst EndsPublishing (sym why.1) (folder_ends why.0))) c.tell_failure.ensures

pub returns-in-Err-clause-stays : goal.returns-in-Err-clause-stays
returns-in-Err-clause-stays g c clean was s at = inl (record { is_open = was; at = at })

pub returns-clause-told : goal.returns-clause-told
returns-clause-told g c =
    let told = c.publish_open-status.ensures.published in
    record { page = told.page; cut = told.cut; shown = told.shown; is = λ clean was s at. publish_told s c.args.asked told.page _ _ (told.is.1 clean was s at) }
