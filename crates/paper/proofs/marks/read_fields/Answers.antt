-- Parts of the proof of `read_fields` that are done by hand.
use Rattle.std.proofs.Common.{◌≡◌, ◌<◌, length, take, Ok, sym, ap, ◌∙◌, arith, length-set}
use Rattle.std.proofs.lemmas.List.{take_more_set}
use Rattle.std.proofs.lemmas.Result.{err_from_is_err_and}
use Rattle.paper.specs.MarksText.{fields}
use Rattle.paper.proofs.Fields.{fields-next, field-fault, field-mark, fields-read, zeros-less}
use Rattle.paper.proofs.marks.read_fields.Goals as goal

pub returns-in_err-marks-clause-err : goal.returns-in_err-marks-clause-err
returns-in_err-marks-clause-err c =
    let here : c.loop-i.i < length (fields c.args.text.now) = omega (arith, c.requires.all, c.loop-i-test.true) in
    let next = fields-next (fields c.args.text.now) c.loop-i.rest.now c.loop-i.i here (c.loop-i.invariant.rest c.loop-i-test.true) in
    let p = err_from_is_err_and c.from_residual.result c.from_residual.ensures.1 in
    rw (p.1, p.2) (field-fault (fields c.args.text.now) (take c.loop-i.i c.loop-i.marks) c.split_field.result.0.now c.loop-i.i c.in_err-marks.field-0.0 c.loop-i.invariant.so_far here
    (c.split_field.ensures.field ∙ next.0) (sym c.in_err-marks.ensures.is))

pub loop-i-preserved : goal.loop-i-preserved
loop-i-preserved c =
    let here : c.loop-i.i < length (fields c.args.text.now) = omega (arith, c.requires.all, c.loop-i-test.true) in
    let next = fields-next (fields c.args.text.now) c.loop-i.rest.now c.loop-i.i here (c.loop-i.invariant.rest c.loop-i-test.true) in
    let place : c.loop-i.i < length c.loop-i.marks = omega (arith, c.requires.few, c.loop-i-test.true, c.loop-i.invariant.size) in
    record {
      so_far = field-mark (fields c.args.text.now) _ _ c.split_field.result.0.now c.loop-i.i c.in_ok-marks.field-0 c.loop-i.invariant.so_far here
          (c.split_field.ensures.field ∙ next.0) (sym c.in_ok-marks.ensures.is) (take_more_set c.loop-i.marks c.loop-i.i c.in_ok-marks.field-0 place);
      rest = λ more. ap fields c.split_field.ensures.behind ∙ next.1 (omega (arith, c.requires.all, more));
      zeros = zeros-less c.loop-i.marks c.loop-i.i c.in_ok-marks.field-0 c.loop-i.invariant.zeros;
      size = length-set _ _ _ ∙ c.loop-i.invariant.size;
    }

pub returns-clause-ok : goal.returns-clause-ok
returns-clause-ok c =
    let all : c.loop-i.i ≡ c.args.count = omega (arith, c.loop-i.auto.i-end, c.loop-i-test.false) in
    fields-read (fields c.args.text.now) (take c.loop-i.i c.loop-i.marks) c.loop-i.i c.loop-i.invariant.so_far (omega (arith, c.requires.all, all))
    ∙ ap (λ n. Ok (take n c.loop-i.marks)) all
