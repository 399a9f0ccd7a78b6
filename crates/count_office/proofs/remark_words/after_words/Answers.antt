-- Proof that `after_words` meets its contract: the next line decides, unless it doesn't begin with the words.
use Rattle.std.proofs.Common.{◌∙◌, ap, sym, length, drop, arith}
use Rattle.std.specs.Prelude.{option_map}
use Rattle.std.specs.Str.Lines.{lines}
use Rattle.std.proofs.lemmas.Iterator.Splits.{YieldsList-from_lines}
use Rattle.std.proofs.lemmas.Iterator.Consumers.{YieldsList-turn, YieldsList-end}
use Rattle.std.proofs.lemmas.List.{at_drop_all, length_push}
use Rattle.count_office.specs.Remarks.{after_words_in}
use Rattle.count_office.proofs.RemarkLemmas.{this_line, later_line}
use Rattle.count_office.proofs.remark_words.after_words.Goals as goal

pub returns-in-Some-behind : goal.returns-in-Some-behind
returns-in-Some-behind c =
    let t = YieldsList-turn (YieldsList-from_lines c.args.text.now cc) c.loop-line.yielded _ c.loop-line.yielded_by _ _ c.in-Some.line c.in-Some.is c.next.ensures.steps in
    sym (c.loop-line.invariant ∙ this_line c.args.words.now (lines c.args.text.now) (length c.loop-line.yielded) c.in-Some.line.now c.in-Some-behind.rest.now t
    (sym c.behind.ensures ∙ ap (option_map (λ t. t.now)) c.in-Some-behind.is))

pub loop-line-preserved : goal.loop-line-preserved
loop-line-preserved c =
    let t = YieldsList-turn (YieldsList-from_lines c.args.text.now cc) c.loop-line.yielded _ c.loop-line.yielded_by _ _ c.in-Some.line c.in-Some.is c.next.ensures.steps in
    c.loop-line.invariant ∙ (later_line c.args.words.now (lines c.args.text.now) (length c.loop-line.yielded) c.in-Some.line.now t
    (sym c.behind.ensures ∙ ap (option_map (λ t. t.now)) c.in_default.is)
    ∙ ap (λ n. after_words_in c.args.words.now (drop n (lines c.args.text.now))) (sym (length_push c.loop-line.yielded c.in-Some.line)))

pub returns : goal.returns
returns c =
    let e = YieldsList-end (YieldsList-from_lines c.args.text.now cc) c.loop-line.yielded _ c.loop-line.yielded_by _ _ c.in-None.is c.next.ensures.steps in
    sym (c.loop-line.invariant ∙ at_drop_all (after_words_in c.args.words.now) (lines c.args.text.now) (length c.loop-line.yielded) (omega (arith, e.1)))
