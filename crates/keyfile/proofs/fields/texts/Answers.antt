-- Proof that `texts` meets its contract.
use Rattle.std.proofs.Common.{◌<◌, ◌∙◌, length, inr, subst, refl, arith}
use Rattle.std.specs.Prelude.{IsUtf8}
use Rattle.csv.specs.Records.{fields_of}
use Rattle.keyfile.proofs.FieldLemmas.{all_text_more, field_got, not_all_text, texts_more}
use Rattle.keyfile.proofs.fields.texts.Goals as goal

pub returns-in_default-clause-err : goal.returns-in_default-clause-err
returns-in_default-clause-err c =
    let there : c.loop-i.i < length (fields_of c.args.raw.now) = omega (arith, c.loop-i-test.true, c.len-i-end.ensures) in
    let field = field_got (fields_of c.args.raw.now) c.loop-i.i c.get.result _ c.unwrap_or-field.result c.get.ensures.value there c.unwrap_or-field.ensures in
    inr (refl, not_all_text (fields_of c.args.raw.now) c.loop-i.i c.unwrap_or-field.result.now there field c.in_default.ensures.cases.0)

pub loop-i-preserved : goal.loop-i-preserved
loop-i-preserved c =
    let there : c.loop-i.i < length (fields_of c.args.raw.now) = omega (arith, c.loop-i-test.true, c.len-i-end.ensures) in
    let field = field_got (fields_of c.args.raw.now) c.loop-i.i c.get.result _ c.unwrap_or-field.result c.get.ensures.value there c.unwrap_or-field.ensures in
    let text = c.in-Ok.ensures.cases.0 ∙ field in
    let pushed = rw c.if-is_err.ensures.negation at c.push.ensures.items in
    record {
      fields = rw pushed (texts_more (fields_of c.args.raw.now) c.loop-i.i c.loop-i.texts.items c.in-Ok.text there c.loop-i.invariant.fields text);
      all = all_text_more (fields_of c.args.raw.now) c.loop-i.i there c.loop-i.invariant.all (subst IsUtf8 field c.in-Ok.ensures.cases.1);
    }
