-- Proof that `texts_of` meets its contract.
use Rattle.std.proofs.Common.{◌∙◌, refl, subst}
use Rattle.std.specs.Prelude.{codes, IsUtf8}
use Rattle.desk.proofs.ScriptLemmas.{not_text, text_more, words_more}
use Rattle.desk.proofs.scripts.texts_of.Goals as goal

pub returns-in-Err : goal.returns-in-Err
returns-in-Err c =
    let no = subst (λ bytes. IsUtf8 bytes → ⊥) c.deref.ensures.value c.in-Err.ensures.cases.0 in
    rw (not_text (λ w. w.items) c.args.words.now c.loop-word.word-index c.word-item.result c.loop-word-test.true c.word-item.is no) refl

pub loop-word-preserved : goal.loop-word-preserved
loop-word-preserved c =
    let value = c.deref.ensures.value in
    let text = subst IsUtf8 value c.in-Ok.ensures.cases.1 in
    record {
      same = words_more (λ w. w.items) (codes "DB") c.args.words.now c.loop-word.word-index c.word-item.result c.loop-word.texts.items c.push.new.self.items
          c.in-Ok.text c.loop-word-test.true c.word-item.is
          c.in_ok-push-in-Ok.ensures.items (c.in-Ok.ensures.cases.0 ∙ value) c.loop-word.invariant.same;
      text = text_more (λ w. w.items) c.args.words.now c.loop-word.word-index c.word-item.result c.loop-word-test.true c.word-item.is text c.loop-word.invariant.text;
    }
