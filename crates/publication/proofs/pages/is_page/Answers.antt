-- Proof that `is_page` meets its contract.
use Rattle.std.proofs.lemmas.Str.Pattern.{ends_text}
use Rattle.publication.specs.Pages.{page_end}
use Rattle.publication.proofs.pages.is_page.Goals as goal

pub returns : goal.returns
returns c = ends_text c.ends_with.result page_end c.args.page.now c.ends_with.ensures.cases
