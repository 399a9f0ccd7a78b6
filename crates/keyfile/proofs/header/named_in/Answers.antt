-- Proof that `named_in` meets its contract.
use Rattle.std.proofs.Common.{◌≡◌, ◌∙◌, refl}
use Rattle.keyfile.specs.Headers.{numbers_in}
use Rattle.keyfile.proofs.HeaderLemmas.{names_numbers}
use Rattle.keyfile.proofs.header.named_in.Goals as goal

pub returns : goal.returns
returns c =
    let parts = c.parted-2.ensures in
    let numbers : c.in_range.result ≡ numbers_in c.parted.result.1.now = c.in_range.ensures ∙ rw (c.plain_number_in.ensures, c.plain_number_in-2.ensures, parts.before, parts.behind) refl in
    names_numbers c.args.field.now c.parted.result.0.now c.parted.result.1.now c.in_range.result c.parted.ensures.before c.parted.ensures.behind c.if-ne.ensures numbers
