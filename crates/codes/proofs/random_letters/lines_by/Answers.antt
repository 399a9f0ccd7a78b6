-- Why `lines_by` keeps its promise.
use Rattle.std.proofs.Common.{◌∙◌, ◌<◌, EachIndex, List, ap, arith, slice_index, subst, sym, ℕ}
use Rattle.codes.specs.Making.{numbers, text_of}
use Rattle.codes.proofs.LetterLemmas.{each_drop}
use Rattle.codes.proofs.NumberLemmas.{all_lines, one_line}
use Rattle.codes.proofs.random_letters.lines_by.Goals as goal

pub loop-index-preserved : goal.loop-index-preserved
loop-index-preserved c =
    let rest = c.loop-index.rest.now in
    record {
      enough = omega (arith, c.split_at.ensures.back_len, c.loop-index.invariant.enough, c.loop-index-test.true);
      ascii = subst (λ (ls : List ℕ). EachIndex ls (λ k. slice_index ls k < 128)) (sym c.split_at.ensures.back) (each_drop 12 rest c.loop-index.invariant.ascii);
      lines =
          one_line c.args.clerks.first c.loop-index.index c.count-count.result _ _ _ rest _ _ c.loop-index-test.true c.split_at.ensures.front c.split_at.ensures.back c.in_ok-push_line.ensures
          c.loop-index.invariant.lines;
    }

pub returns : goal.returns
returns c =
    all_lines c.args.clerks.first c.loop-index.index c.count-count.result _ _ _ c.loop-index-test.false c.loop-index.invariant.lines
    ∙ ap (λ n. text_of (numbers c.args.clerks.first n) c.args.letters.now) c.count-count.ensures.span
