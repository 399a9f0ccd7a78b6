-- Proof that `authentication` meets its contract.
use Rattle.std.proofs.Common.{subst}
use Rattle.wire.specs.Heads.{IsHeadIncomplete}
use Rattle.wire.specs.Parsing.{IsParsed}
use Rattle.wire.specs.declared.parsed.Parsed.{Parsed}
use Rattle.wire.proofs.ParsedLemmas.{knocks_none, knocks_parsed, none_came}
use Rattle.wire.proofs.parsed.Parsed.authentication.Goals as goal

pub returns-in-Head : goal.returns-in-Head
returns-in-Head c = λ its got parsed. knocks_parsed its got c.in-Head.head (subst (λ (p : Parsed). IsParsed its got p) c.in-Head.is parsed)

pub returns-in-Partial : goal.returns-in-Partial
returns-in-Partial c = λ its got parsed.
    let may : IsHeadIncomplete got = subst (λ (p : Parsed). IsParsed its got p) c.in-Partial.is parsed in
    knocks_none its got may.none

pub returns-in-Malformed : goal.returns-in-Malformed
returns-in-Malformed c = λ its got parsed. knocks_none its got (none_came got (subst (λ (p : Parsed). IsParsed its got p) c.in-Malformed.is parsed))
