-- Proof that `as_text` meets its contract.
use Rattle.std.proofs.Common.{◌≡◌, ◌∙◌, ap, arith, subst}
use Rattle.std.specs.Prelude.{IsUtf8, Ok, string_bytes}
use Rattle.checker.proofs.NameLemmas.{name_is_text, name_isnt_text}
use Rattle.checker.proofs.names.as_text.Goals as goal

pub returns-in-Err : goal.returns-in-Err
returns-in-Err c = name_isnt_text c.args.name.items (omega arith) (subst (λ bytes. ¬ (IsUtf8 bytes)) c.deref.ensures.value c.in-Err.ensures.cases.0)

pub returns : goal.returns
returns c =
    let text = subst IsUtf8 c.deref.ensures.value c.in-Ok.ensures.cases.1 in
    let same : string_bytes c.unwrap.result ≡ c.args.name.items = ap (λ bytes. bytes.items) (rw c.unwrap.ensures at c.from_utf8-2.ensures.ok) in
    ap Ok same ∙ name_is_text c.args.name.items (omega arith) text
