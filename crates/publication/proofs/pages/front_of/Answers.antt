-- Proof that `front_of` meets its contract.
use Rattle.std.proofs.Common.{◌≡◌, false, sym}
use Rattle.std.proofs.lemmas.Bool.{cond-false}
use Rattle.std.proofs.lemmas.Str.Pattern.{ends_text}
use Rattle.publication.specs.Pages.{is_page, page_end}
use Rattle.publication.proofs.pages.front_of.Goals as goal

pub returns-in-None : goal.returns-in-None
returns-in-None c =
    let e : is_page c.args.page.now ≡ false = sym (ends_text false page_end c.args.page.now c.in-None.ensures.cases) in
    sym (cond-false (is_page c.args.page.now) _ _ e)
