-- Proof that `completeness_of` meets its contract.
use Rattle.std.proofs.Common.{◌≤◌, ◌<◌, arith, rules, subst, sym}
use Rattle.wire.specs.Completeness.{IsCompletenessOf}
use Rattle.wire.specs.Parsing.{IsHeadOf, IsParsed}
use Rattle.wire.specs.Heads.{IsHeadIncomplete}
use Rattle.wire.specs.declared.completeness.Completeness.TheVariants.{AtLeast}
use Rattle.wire.specs.declared.parsed.Parsed.{Parsed}
use Rattle.wire.proofs.ParsedLemmas.{lacks_bytes, lacks_head, one_more, whole_is, whole_none, whole_parsed}
use Rattle.wire.proofs.parsed.Parsed.completeness_of.Goals as goal

pub returns-then-come-whole : goal.returns-then-come-whole
returns-then-come-whole c = λ its got long parsed.
    let head = c.in-Head.head in
    let is : IsHeadOf its got head = subst (λ (p : Parsed). IsParsed its got p) c.in-Head.is parsed in
    let whole = whole_is its got head c.saturating_add-whole.result is (rw c.needed.ensures at c.saturating_add-whole.ensures) in
    let few : c.args.come < c.saturating_add-whole.result = search rules in
    subst (λ n. IsCompletenessOf its got (AtLeast n)) (sym whole) (lacks_bytes its got head is (omega (arith, long, whole, few)))

pub returns-else-come-whole : goal.returns-else-come-whole
returns-else-come-whole c = λ its got long parsed.
    let head = c.in-Head.head in
    let is : IsHeadOf its got head = subst (λ (p : Parsed). IsParsed its got p) c.in-Head.is parsed in
    let whole = whole_is its got head c.saturating_add-whole.result is (rw c.needed.ensures at c.saturating_add-whole.ensures) in
    let enough : c.saturating_add-whole.result ≤ c.args.come = search rules in
    whole_parsed its got head is (omega (arith, long, whole, enough))

pub returns-in-Partial : goal.returns-in-Partial
returns-in-Partial c = λ its got long parsed.
    let may : IsHeadIncomplete got = subst (λ (p : Parsed). IsParsed its got p) c.in-Partial.is parsed in
    subst (λ n. IsCompletenessOf its got (AtLeast n)) (sym (one_more got c.args.come c.saturating_add.result long may c.saturating_add.ensures)) (lacks_head its got may)

pub returns-in-Malformed : goal.returns-in-Malformed
returns-in-Malformed c = λ its got long parsed. whole_none its got (subst (λ (p : Parsed). IsParsed its got p) c.in-Malformed.is parsed)
