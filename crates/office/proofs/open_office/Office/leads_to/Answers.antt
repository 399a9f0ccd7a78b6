-- Proof that `leads_to` meets its contract.
use Rattle.std.proofs.Common.{◌∙◌, sym, true≢false}
use Rattle.register.specs.Offices.{empty_office}
use Rattle.office.proofs.PlayLemmas.{ok_then}
use Rattle.office.proofs.open_office.Office.leads_to.Goals as goal

-- In each arm: the office was made empty (`made` of `create`), the requests led on from there (`all` of `accepts_all`), and what the connection then contains
-- was compared (`same` and `other` of `has_rows`). If the disk is clean in the end, it was clean before.
pub returns-in-Ok-true-clause-leads : goal.returns-in-Ok-true-clause-leads
returns-in-Ok-true-clause-leads g c clean blank =
    let played = rw c.into_connection-conn.ensures at (c.has_rows-has.ensures.clean clean) in
    let made = c.in-Ok.ensures.made (c.accepts_all-accepted.ensures.clean played) blank in
    let led = rw (c.in-Ok-true.is, c.in-Ok-true.field-0-test) at (c.accepts_all-accepted.ensures.all played made.is_open empty_office made.at) in
    let same = rw c.into_connection-conn.ensures at c.has_rows-has.ensures.same in
    ok_then c.has_rows-has.result (λ yes same has. record { accepted = sym led.0; leads = same has }) (same clean _ led.1.at)

pub returns-in-Ok-true-clause-fails : goal.returns-in-Ok-true-clause-fails
returns-in-Ok-true-clause-fails g c clean blank =
    let played = rw c.into_connection-conn.ensures at (c.has_rows-has.ensures.clean clean) in
    let made = c.in-Ok.ensures.made (c.accepts_all-accepted.ensures.clean played) blank in
    let led = rw (c.in-Ok-true.is, c.in-Ok-true.field-0-test) at (c.accepts_all-accepted.ensures.all played made.is_open empty_office made.at) in
    let other = rw c.into_connection-conn.ensures at c.has_rows-has.ensures.other in
    ok_then c.has_rows-has.result (λ yes other lacks lead. other lacks lead.leads) (other clean _ led.1.at)

pub returns-in-Ok-false-clause-fails : goal.returns-in-Ok-false-clause-fails
returns-in-Ok-false-clause-fails g c clean blank lacks lead =
    let played = rw c.into_connection-conn.ensures at clean in
    let made = c.in-Ok.ensures.made (c.accepts_all-accepted.ensures.clean played) blank in
    let led = rw (c.in-Ok-false.is, c.in-Ok-false.field-0-test) at (c.accepts_all-accepted.ensures.all played made.is_open empty_office made.at) in
    true≢false (sym lead.accepted ∙ sym led.0)
