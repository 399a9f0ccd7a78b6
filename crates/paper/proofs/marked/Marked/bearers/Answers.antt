-- Parts of the proof of `bearers` that are done by hand.
use Rattle.std.proofs.Common.{◌+◌, ◌<◌, length, ap, ◌∙◌, arith, refl, subst, length-set}
use Rattle.std.specs.List.{zip}
use Rattle.paper.specs.Bearers.{AreBearers}
use Rattle.paper.specs.Columns.{max_candidates}
use Rattle.paper.specs.Marking.{Marking}
use Rattle.paper.proofs.Markings.{nobody-yet, AreBearers-more, AreBearers-past, zip-within, zip-all}
use Rattle.paper.proofs.marked.Marked.bearers.Goals as goal
use Rattle.paper.proofs.marked.Marked.bearers.Goals.{then-n-lt-NUMBERS, else-n-lt-NUMBERS}

pub loop-i-init : goal.loop-i-init
loop-i-init c = record { size = refl; so_far = λ n small. nobody-yet (max_candidates + 1) n }

pub loop-i-preserved : goal.loop-i-preserved
loop-i-preserved c =
    let there : c.loop-i.i < length c.self.inside.marks =
    omega (arith, zip-within c.self.inside.columns c.self.inside.marks c.self.invariant.0, ap length c.as_slice-c-items.ensures.is, c.loop-i-test.true) in
    elim c.if-n-lt-NUMBERS.branch [
      | then-n-lt-NUMBERS w ↦
          record {
            size = ap length w.bearers-is ∙ length-set c.loop-i.bearers c.from-n.result w.and.result ∙ c.loop-i.invariant.size;
            so_far =
                AreBearers-more c.as_slice-c-items.result.now c.self.inside.marks c.loop-i.i c.from-n.result c.loop-i.bearers c.if-n-lt-NUMBERS.bearers
                w.and.result c.loop-i.invariant.so_far c.loop-i-test.true there c.from-n.ensures
                w.if-n-lt-NUMBERS.true c.loop-i.invariant.size w.and.ensures w.bearers-is;
          }
      | else-n-lt-NUMBERS w ↦
          record {
            size = ap length w.bearers-is ∙ c.loop-i.invariant.size;
            so_far =
                AreBearers-past c.as_slice-c-items.result.now c.self.inside.marks c.loop-i.i c.from-n.result c.loop-i.bearers c.if-n-lt-NUMBERS.bearers
                c.loop-i.invariant.so_far c.loop-i-test.true there c.from-n.ensures
                w.if-n-lt-NUMBERS.false w.bearers-is;
          }
    ]

pub returns-clause-is : goal.returns-clause-is
returns-clause-is c =
    let all = zip-all c.as_slice-c-items.result.now c.self.inside.marks c.loop-i.i c.loop-i-test.false ∙ ap (λ cs. zip cs c.self.inside.marks) c.as_slice-c-items.ensures.is ∙ c.self.view_is in
    subst (λ (m : Marking). AreBearers m c.loop-i.bearers) all c.loop-i.invariant.so_far
