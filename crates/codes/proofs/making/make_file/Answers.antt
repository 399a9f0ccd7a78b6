-- Why `make_file` keeps its promise.
use Rattle.std.proofs.Common.{◌∙◌, List, ap, string_bytes, sym, ℕ}
use Rattle.codes.specs.Files.{file_in}
use Rattle.codes.specs.Making.{is_file_for}
use Rattle.codes.proofs.DrawingLemmas.{one_more}
use Rattle.codes.proofs.making.make_file.Goals as goal

pub returns-then-branch-clause-reads : goal.returns-then-branch-clause-reads
returns-then-branch-clause-reads g c =
    ap (λ (t : List ℕ). is_file_for c.args.clerks c.args.office (file_in t)) (sym c.as_bytes.ensures.value) ∙ sym c.in_ok-is_made_for.ensures.ok ∙ c.if-branch.true

pub loop-left-preserved : goal.loop-left-preserved
loop-left-preserved g c = record {
  drawn =
      one_more c.args.clerks c.args.office _ _ _ (string_bytes c.in_ok-text.text) _ c.loop-left.invariant.drawn c.in_ok-text.ensures.ok
      (ap (λ (t : List ℕ). is_file_for c.args.clerks c.args.office (file_in t)) (sym c.as_bytes.ensures.value) ∙ sym c.in_ok-is_made_for.ensures.ok ∙ c.if-branch.false) c.loop-left-test.true;
  failed = c.in_ok-text.ensures.failed ∙ c.loop-left.invariant.failed;
}
