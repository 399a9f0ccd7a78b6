-- Proof that `read_lines` meets its contract.
use Rattle.std.proofs.Common.{◌≡◌, ◌∙◌, ◌+◌, ◌-◌, ◌≤◌, [], ◌∷◌, length, get_or, take, drop, refl, sym, ap, subst, arith}
use Rattle.checker.specs.Reading.{nothing_told, read_from, with_line}
use Rattle.checker.specs.Tokens.{pieces_of}
use Rattle.checker.specs.Values.{IsFlawOf, reading_of}
use Rattle.checker.specs.declared.tokens.Separator.TheVariants.{LineFeed}
use Rattle.std.proofs.lemmas.Bool.{ne_eqb}
use Rattle.checker.proofs.TokenLemmas.{goes_on, last_line, line_ends}
use Rattle.checker.proofs.FlawLemmas.{flaw_on}
use Rattle.checker.proofs.reading.read_lines.Goals as goal

pub loop-i-preserved-then-text-i-ne10 : goal.loop-i-preserved-then-text-i-ne10
loop-i-preserved-then-text-i-ne10 c =
    let text = c.behind_byte_order_mark-text.result.now in
    record {
      within = omega arith;
      few = c.loop-i.invariant.few;
      same = ap (read_from c.loop-i.lines (reading_of c.loop-i.reader)) (sym (goes_on LineFeed text c.loop-i.start c.loop-i.i c.loop-i.invariant.within c.loop-i-test.true
          (ne_eqb (get_or text c.loop-i.i 0) 10 c.if-text-i-ne10.true)))
          ∙ c.loop-i.invariant.same;
    }

pub loop-i-preserved : goal.loop-i-preserved
loop-i-preserved c =
    let text = c.behind_byte_order_mark-text.result.now in
    let ends = line_ends text c.loop-i.start c.loop-i.i c.loop-i-test.true cc in
    let none : c.loop-i.i + 1 - (c.loop-i.i + 1) ≡ 0 = omega arith in
    let more : read_from c.loop-i.lines (reading_of c.loop-i.reader) (take (c.loop-i.i - c.loop-i.start) (drop c.loop-i.start text) ∷ pieces_of LineFeed [] (drop (c.loop-i.i + 1) text))
    ≡ read_from (c.loop-i.lines + 1) (reading_of c.take_numbered.new.self) (pieces_of LineFeed [] (drop (c.loop-i.i + 1) text)) = rw c.in_default.ensures.ok refl in
    record {
      within = omega arith;
      few = omega (arith, c.loop-i.invariant.few, c.loop-i.invariant.within);
      same = rw none (sym more ∙ (ap (read_from c.loop-i.lines (reading_of c.loop-i.reader)) (sym ends) ∙ c.loop-i.invariant.same));
    }

pub returns-in-Err-clause-err : goal.returns-in-Err-clause-err
returns-in-Err-clause-err c =
    let text = c.behind_byte_order_mark-text.result.now in
    let ends = line_ends text c.loop-i.start c.loop-i.i c.loop-i-test.true cc in
    subst (λ told. IsFlawOf told c.in-Err.problem)
    (ap (read_from c.loop-i.lines (reading_of c.loop-i.reader)) (sym ends) ∙ c.loop-i.invariant.same
    ∙ ap (λ t. read_from 0 nothing_told (pieces_of LineFeed [] t)) c.behind_byte_order_mark-text.ensures)
    (flaw_on (c.loop-i.lines + 1) (with_line (reading_of c.loop-i.reader) (take (c.loop-i.i - c.loop-i.start) (drop c.loop-i.start text)))
    (λ more. read_from (c.loop-i.lines + 1) more (pieces_of LineFeed [] (drop (c.loop-i.i + 1) text))) c.in-Err.problem c.in-Err.ensures.err)

pub returns-in-Err-take_numbered-clause-err : goal.returns-in-Err-take_numbered-clause-err
returns-in-Err-take_numbered-clause-err c =
    let text = c.behind_byte_order_mark-text.result.now in
    let past : length text ≤ c.loop-i.i = omega (arith, c.loop-i-test.false) in
    subst (λ told. IsFlawOf told c.in-Err-take_numbered.problem)
    (ap (read_from c.loop-i.lines (reading_of c.loop-i.reader)) (sym (last_line text c.loop-i.start c.loop-i.i past)) ∙ c.loop-i.invariant.same
    ∙ ap (λ t. read_from 0 nothing_told (pieces_of LineFeed [] t)) c.behind_byte_order_mark-text.ensures)
    (flaw_on (c.loop-i.lines + 1) (with_line (reading_of c.loop-i.reader) (take (length text - c.loop-i.start) (drop c.loop-i.start text)))
    (λ more. read_from (c.loop-i.lines + 1) more []) c.in-Err-take_numbered.problem c.in-Err-take_numbered.ensures.err)
