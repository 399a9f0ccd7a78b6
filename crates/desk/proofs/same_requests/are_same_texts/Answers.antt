-- Proof that `are_same_texts` meets its contract.
use Rattle.std.proofs.Common.{◌∙◌, string_bytes, arith, sym, length, ◌<◌}
use Rattle.desk.proofs.SameLemmas.{is_other, not_other, same_at, texts_more}
use Rattle.desk.proofs.same_requests.are_same_texts.Goals as goal

-- one more text is the same
pub loop-place-preserved : goal.loop-place-preserved
loop-place-preserved c =
    let within : c.loop-place.place < length c.args.others.now = omega arith in
    let same = sym c.as_str.ensures.value ∙ not_other _ _ c.if-ne.ensures ∙ c.as_str-in-loop-place.ensures.value in
    texts_more string_bytes c.args.texts.now c.args.others.now c.loop-place.place c.index-texts-place.result c.index-others-place.result c.loop-place-test.true within
    c.index-texts-place.is c.index-others-place.is same c.loop-place.invariant

-- a text differs
pub returns-then-ne-clause-also : goal.returns-then-ne-clause-also
returns-then-ne-clause-also c same =
    let within : c.loop-place.place < length c.args.others.now = omega arith in
    let here = same_at string_bytes c.args.texts.now c.args.others.now c.loop-place.place c.index-texts-place.result c.index-others-place.result c.loop-place-test.true within
    c.index-texts-place.is c.index-others-place.is same in
    absurd (is_other _ _ c.if-ne.ensures (c.as_str.ensures.value ∙ (here ∙ sym c.as_str-in-loop-place.ensures.value)))
