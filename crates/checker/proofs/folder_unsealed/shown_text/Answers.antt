-- Proof that `shown_text` meets its contract.
use Rattle.std.proofs.Common.{◌∙◌, ap, subst, sym}
use Rattle.std.proofs.lemmas.Bool.{false≢true}
use Rattle.std.proofs.lemmas.Str.{IsUtf8-from_is_utf8}
use Rattle.std.specs.Str.{IsUtf8}
use Rattle.checker.specs.IndexPage.{unescaped}
use Rattle.checker.proofs.IndexPlaces.{plain_back}
use Rattle.checker.proofs.folder_unsealed.shown_text.Goals as goal

pub returns-in-Ok-from_utf8 : goal.returns-in-Ok-from_utf8
returns-in-Ok-from_utf8 c = λ text escaped utf8. ap (λ bytes. bytes.items) c.in-Ok-from_utf8.ensures.ok ∙ (c.in-Ok.ensures ∙ (ap unescaped escaped ∙ plain_back text))

pub returns : goal.returns
returns c = λ text escaped utf8.
    let same = c.in-Ok.ensures ∙ (ap unescaped escaped ∙ plain_back text) in
    absurd (false≢true (c.in-Err.ensures.succeeds (subst IsUtf8 (sym same) (IsUtf8-from_is_utf8 text utf8))))
