-- Proof that `behind_first` meets its contract.
use Rattle.std.proofs.Common.{◌≡◌, ◌∙◌, ap, sym, subst, None}
use Rattle.std.specs.Prelude.{option_copied}
use Rattle.std.proofs.lemmas.List.{take_rest}
use Rattle.checker.specs.IndexPage.{behind}
use Rattle.checker.proofs.IndexPlaces.{behind_pass}
use Rattle.checker.proofs.folder_index.behind_first.Goals as goal

pub loop-i-preserved : goal.loop-i-preserved
loop-i-preserved c =
    let text = c.args.text.now in
    let none = subst (λ t. behind c.args.mark.now t ≡ None) (take_rest text c.loop-i.i) (sym c.behind.ensures ∙ ap option_copied c.in_default.is) in
    sym (behind_pass c.args.mark.now text c.loop-i.i c.loop-i-test.true none) ∙ c.loop-i.invariant
