-- Proof that `published_open` meets its contract: what is published is what was read at one state.
use Rattle.std.proofs.Common.{inl, inr, refl}
use Rattle.desk.specs.Publications.{IsUnmade, election_read}
use Rattle.desk.specs.declared.lines.Failure.TheVariants.{Office}
use Rattle.desk.proofs.PublishLemmas.{holds_published, published_at}
use Rattle.desk.proofs.PublishableLemmas.{publishable_at}
use Rattle.desk.proofs.publishing.published_open.Goals as goal

pub returns-in-Ok-clause-published : goal.returns-in-Ok-clause-published
returns-in-Ok-clause-published g c clean was s at =
    let title = c.args.asked.title.now in
    let with_ballots = c.args.asked.with_ballots in
    published_at title with_ballots s (election_read title c.in-Ok.found) _ _ _ (c.in-Ok.ensures.shows clean was s at) (publishable_at title with_ballots s at.is) c.published.ensures

pub returns-in-Ok-clause-holds : goal.returns-in-Ok-clause-holds
returns-in-Ok-clause-holds g c = holds_published (IsUnmade (election_read c.args.asked.title.now c.in-Ok.found)) _ _ _ _ _ c.published.ensures

pub returns-in-Ok-clause-stays : goal.returns-in-Ok-clause-stays
returns-in-Ok-clause-stays g c clean was s at = c.in-Ok.ensures.stays clean was s at

pub returns-in-Err-clause-published : goal.returns-in-Err-clause-published
returns-in-Err-clause-published g c clean was s at = inr (inl (Office c.in-Err.fault, refl, (c.in-Err.fault, refl, c.in-Err.ensures.fails clean was s at), refl))

pub returns-in-Err-clause-holds : goal.returns-in-Err-clause-holds
returns-in-Err-clause-holds g c = inr (inl (Office c.in-Err.fault, refl, tt, refl))

pub returns-in-Err-clause-stays : goal.returns-in-Err-clause-stays
returns-in-Err-clause-stays g c clean was s at = c.in-Err.ensures.stays clean was s at
