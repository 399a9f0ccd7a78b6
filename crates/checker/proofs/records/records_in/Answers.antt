-- Proof that `records_in` meets its contract.
use Rattle.std.proofs.Common.{◌∙◌, ◌+◌, ◌-◌, ◌≤◌, [], length, get_or, take, drop, sym, ap, subst, arith}
use Rattle.checker.specs.Records.{nothing_recorded, records_from, with_line}
use Rattle.checker.specs.RecordViews.{records_told, ward_told}
use Rattle.checker.specs.Tokens.{pieces_of}
use Rattle.checker.specs.Values.{IsFlawOf}
use Rattle.checker.specs.declared.tokens.Separator.TheVariants.{LineFeed}
use Rattle.std.proofs.lemmas.Bool.{ne_eqb}
use Rattle.checker.proofs.TokenLemmas.{goes_on, last_line, line_ends}
use Rattle.checker.proofs.FlawLemmas.{flaw_on}
use Rattle.checker.proofs.records.records_in.Goals as goal

pub loop-i-preserved-then-text-i-ne10 : goal.loop-i-preserved-then-text-i-ne10
loop-i-preserved-then-text-i-ne10 c =
    let text = c.behind_byte_order_mark-text.result.now in
    record {
      within = omega arith;
      few = c.loop-i.invariant.few;
      same = ap (records_from c.loop-i.lines (records_told c.loop-i.records)) (sym (goes_on LineFeed text c.loop-i.start c.loop-i.i c.loop-i.invariant.within c.loop-i-test.true
          (ne_eqb (get_or text c.loop-i.i 0) 10 c.if-text-i-ne10.true)))
          ∙ c.loop-i.invariant.same;
    }

pub returns-in-Err-clause-err : goal.returns-in-Err-clause-err
returns-in-Err-clause-err c =
    let text = c.behind_byte_order_mark-text.result.now in
    let ends = line_ends text c.loop-i.start c.loop-i.i c.loop-i-test.true cc in
    subst (λ told. IsFlawOf told c.in-Err.problem)
    (ap (records_from c.loop-i.lines (records_told c.loop-i.records)) (sym ends) ∙ c.loop-i.invariant.same
    ∙ ap (λ t. records_from 0 (nothing_recorded (ward_told c.args.ward.now)) (pieces_of LineFeed [] t)) c.behind_byte_order_mark-text.ensures)
    (flaw_on (c.loop-i.lines + 1) (with_line (records_told c.loop-i.records) (take (c.loop-i.i - c.loop-i.start) (drop c.loop-i.start text)))
    (λ more. records_from (c.loop-i.lines + 1) more (pieces_of LineFeed [] (drop (c.loop-i.i + 1) text))) c.in-Err.problem c.in-Err.ensures.err)

pub returns-in-Err-take_numbered-clause-err : goal.returns-in-Err-take_numbered-clause-err
returns-in-Err-take_numbered-clause-err c =
    let text = c.behind_byte_order_mark-text.result.now in
    let past : length text ≤ c.loop-i.i = omega (arith, c.loop-i-test.false) in
    subst (λ told. IsFlawOf told c.in-Err-take_numbered.problem)
    (ap (records_from c.loop-i.lines (records_told c.loop-i.records)) (sym (last_line text c.loop-i.start c.loop-i.i past)) ∙ c.loop-i.invariant.same
    ∙ ap (λ t. records_from 0 (nothing_recorded (ward_told c.args.ward.now)) (pieces_of LineFeed [] t)) c.behind_byte_order_mark-text.ensures)
    (flaw_on (c.loop-i.lines + 1) (with_line (records_told c.loop-i.records) (take (length text - c.loop-i.start) (drop c.loop-i.start text)))
    (λ more. records_from (c.loop-i.lines + 1) more []) c.in-Err-take_numbered.problem c.in-Err-take_numbered.ensures.err)
