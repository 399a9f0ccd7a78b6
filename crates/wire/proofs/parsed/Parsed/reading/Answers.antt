-- Proof that `reading` meets its contract.
use Rattle.std.proofs.Common.{◌∙◌, Option, refl, subst, sym}
use Rattle.std.specs.Prelude.{IfSome}
use Rattle.wire.specs.Heads.{IsHeadIncomplete}
use Rattle.wire.specs.Requests.{Asks, reading}
use Rattle.wire.specs.Parsing.{IsParsed}
use Rattle.wire.specs.declared.parsed.Parsed.{Parsed}
use Rattle.wire.specs.declared.target.Resource.{Resource}
use Rattle.wire.proofs.ParsedLemmas.{asks_read, none_came, reads_each, reads_none}
use Rattle.wire.proofs.parsed.Parsed.reading.Goals as goal

pub returns-in-Head-clause-reads : goal.returns-in-Head-clause-reads
returns-in-Head-clause-reads c = λ its got parsed.
    subst (λ (found : Option Resource). IfSome found (λ what. Asks its got (reading what))) (sym c.reading.ensures)
    (asks_read its got c.in-Head.head c.in-Head.head.wanted refl (subst (λ (p : Parsed). IsParsed its got p) c.in-Head.is parsed))

pub returns-in-Head-clause-each : goal.returns-in-Head-clause-each
returns-in-Head-clause-each c = λ its got parsed what asks.
    c.reading.ensures ∙ reads_each its got c.in-Head.head what (subst (λ (p : Parsed). IsParsed its got p) c.in-Head.is parsed) asks

pub returns-in-Partial-clause-each : goal.returns-in-Partial-clause-each
returns-in-Partial-clause-each c = λ its got parsed what asks.
    let may : IsHeadIncomplete got = subst (λ (p : Parsed). IsParsed its got p) c.in-Partial.is parsed in
    absurd (reads_none its got what may.none asks)

pub returns-in-Malformed-clause-each : goal.returns-in-Malformed-clause-each
returns-in-Malformed-clause-each c = λ its got parsed what asks. absurd (reads_none its got what (none_came got (subst (λ (p : Parsed). IsParsed its got p) c.in-Malformed.is parsed)) asks)
