-- Proof that `found` meets its contract.
use Rattle.std.proofs.Common.{◌∙◌, ap, sym}
use Rattle.std.specs.Prelude.{Some, option_map}
use Rattle.std.proofs.lemmas.Option.{slice_get-get_or}
use Rattle.checker.proofs.NumberLaws.{pointwise_same}
use Rattle.checker.proofs.tally.found.Goals as goal

pub returns-then-eq : goal.returns-then-eq
returns-then-eq c =
    let recent = c.args.recent.now in
    let i = c.in-Some.slot.now in
    let same = sym c.as_slice.ensures.is ∙ pointwise_same c.as_slice.result.now c.args.list.now (sym c.eq.ensures ∙ c.if-eq.true) in
    ap (option_map (λ b. b.0)) (slice_get-get_or recent i c.index-recent-i.result c.if-i-recent.false) ∙ ap (λ l. Some l) same
