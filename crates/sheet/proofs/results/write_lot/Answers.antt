-- Proof that `write_lot` meets its contract.
use Rattle.std.proofs.Common.{[], ◌∷◌, codes}
use Rattle.json.specs.Token.{begin_object, key}
use Rattle.json.specs.Tree.{json_tokens}
use Rattle.sheet.specs.Results.{whole}
use Rattle.sheet.proofs.Appended.{then_ok}
use Rattle.sheet.proofs.results.write_lot.Goals as goal

pub returns-clause-tokens : goal.returns-clause-tokens
returns-clause-tokens c =
    let r = c.end_object.result in
    let end = c.end_object.new.self.tokens in
    let stage = rw c.from.ensures at c.in_ok-put_number.ensures.tokens in
    let candidate = rw c.from-2.ensures at c.in_ok-put_number-2.ensures.tokens in
    then_ok r c.args.out.now.tokens end (begin_object ∷ []) _ c.in_ok-begin_object.ensures.ok
    (then_ok r c.begin_object.new.self.tokens end (key (codes "stage") ∷ json_tokens (whole c.args.lot.0)) _ stage
    (then_ok r c.put_number.new.out.tokens end (key (codes "candidate") ∷ json_tokens (whole c.args.lot.1)) _ candidate c.end_object.ensures.ok))
