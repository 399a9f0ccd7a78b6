-- Proof that `write_ward` meets its contract.
use Rattle.std.proofs.Common.{◌∷◌, codes}
use Rattle.json.specs.Json.{boolean, string}
use Rattle.json.specs.Token.{key}
use Rattle.json.specs.Tree.{json_tokens}
use Rattle.sheet.specs.Results.{whole}
use Rattle.sheet.proofs.Appended.{then_ok}
use Rattle.sheet.proofs.results.write_ward.Goals as goal

pub returns-clause-tokens : goal.returns-clause-tokens
returns-clause-tokens c =
    let r = c.put_flag-2.result in
    let end = c.put_flag-2.new.out.tokens in
    let ward = c.args.ward.now in
    let number = rw c.from.ensures at c.in_ok-put_number.ensures.tokens in
    let seats = rw c.from-2.ensures at c.in_ok-put_number-2.ensures.tokens in
    let contested = rw c.is_some.ensures at c.put_flag-2.ensures.tokens in
    then_ok r c.args.out.now.tokens end (key (codes "ward") ∷ json_tokens (whole ward.number)) _ number
    (then_ok r c.put_number.new.out.tokens end (key (codes "name") ∷ json_tokens (string ward.name.now)) _ c.in_ok-put_text.ensures.tokens
    (then_ok r c.put_text.new.out.tokens end (key (codes "seats") ∷ json_tokens (whole ward.seats)) _ seats
    (then_ok r c.put_number-2.new.out.tokens end (key (codes "declared") ∷ json_tokens (boolean c.args.is_declared)) _ c.in_ok-put_flag.ensures.tokens contested)))
