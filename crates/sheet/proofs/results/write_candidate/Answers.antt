-- Proof that `write_candidate` meets its contract.
use Rattle.std.proofs.Common.{[], ◌∷◌, codes, string_bytes}
use Rattle.json.specs.Json.{boolean, string}
use Rattle.json.specs.Token.{begin_object, key}
use Rattle.json.specs.Tree.{json_tokens}
use Rattle.sheet.specs.Results.{elected_at, excluded_at, is_elected, stage_number, whole}
use Rattle.sheet.proofs.Appended.{then_ok}
use Rattle.sheet.proofs.results.write_candidate.Goals as goal

pub returns-clause-tokens : goal.returns-clause-tokens
returns-clause-tokens c =
    let r = c.end_object.result in
    let end = c.end_object.new.self.tokens in
    let who = c.args.candidate.now in
    let number = rw c.from.ensures at c.in_ok-put_number.ensures.tokens in
    let name = rw c.as_str.ensures.value at c.in_ok-put_text.ensures.tokens in
    let elected = rw c.is_elected.ensures at c.in_ok-put_flag.ensures.tokens in
    let since = rw c.elected_at.ensures at c.in_ok-put_stage.ensures.tokens in
    let out_since = rw c.excluded_at.ensures at c.in_ok-put_stage-2.ensures.tokens in
    then_ok r c.args.out.now.tokens end (begin_object ∷ []) _ c.in_ok-begin_object.ensures.ok
    (then_ok r c.begin_object.new.self.tokens end (key (codes "number") ∷ json_tokens (whole who.0)) _ number
    (then_ok r c.put_number.new.out.tokens end (key (codes "name") ∷ json_tokens (string (string_bytes who.1))) _ name
    (then_ok r c.put_text.new.out.tokens end (key (codes "elected") ∷ json_tokens (boolean (is_elected c.args.poll c.args.stages.now who.0))) _ elected
    (then_ok r c.put_flag.new.out.tokens end (key (codes "elected_at") ∷ json_tokens (stage_number (elected_at c.args.stages.now who.0))) _ since
    (then_ok r c.put_stage.new.out.tokens end (key (codes "excluded_at") ∷ json_tokens (stage_number (excluded_at c.args.stages.now who.0))) _ out_since
    c.end_object.ensures.ok)))))
