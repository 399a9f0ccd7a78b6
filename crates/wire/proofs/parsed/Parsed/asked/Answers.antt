-- Proof that `asked` meets its contract.
use Rattle.std.proofs.Common.{subst}
use Rattle.wire.specs.Gates.{settings_entry}
use Rattle.wire.specs.Heads.{IsHeadIncomplete}
use Rattle.wire.specs.Parsing.{IsParsed}
use Rattle.wire.specs.declared.parsed.Parsed.{Parsed}
use Rattle.wire.proofs.RequestLemmas.{rest_of}
use Rattle.wire.proofs.ParsedLemmas.{asks_none, asks_result, none_came}
use Rattle.wire.proofs.parsed.Parsed.asked.Goals as goal

pub returns-in-Head : goal.returns-in-Head
returns-in-Head c = λ parsed.
    asks_result (settings_entry c.args.settings) c.args.got.now c.in-Head.head c.min.result _ c.asked_with.result c.min.ensures (rest_of c.min.result c.args.got.now)
    (subst (λ (p : Parsed). IsParsed (settings_entry c.args.settings) c.args.got.now p) c.in-Head.is parsed)
    c.asked_with.ensures

pub returns-in-Partial : goal.returns-in-Partial
returns-in-Partial c = λ parsed.
    let may : IsHeadIncomplete c.args.got.now = subst (λ (p : Parsed). IsParsed (settings_entry c.args.settings) c.args.got.now p) c.in-Partial.is parsed in
    asks_none (settings_entry c.args.settings) c.args.got.now may.none

pub returns-in-Malformed : goal.returns-in-Malformed
returns-in-Malformed c = λ parsed.
    asks_none (settings_entry c.args.settings) c.args.got.now (none_came c.args.got.now (subst (λ (p : Parsed). IsParsed (settings_entry c.args.settings) c.args.got.now p) c.in-Malformed.is parsed))
