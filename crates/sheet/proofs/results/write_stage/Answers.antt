-- Proof that `write_stage` meets its contract.
use Rattle.std.proofs.Common.{[], ◌∷◌, codes}
use Rattle.json.specs.Json.{string}
use Rattle.json.specs.Token.{begin_object, key}
use Rattle.json.specs.Tree.{json_tokens}
use Rattle.sheet.specs.Entries.{shown}
use Rattle.sheet.specs.Results.{action_word, array_of, concerned, value, votes_result, whole}
use Rattle.sheet.proofs.Appended.{then_ok}
use Rattle.sheet.proofs.results.write_stage.Goals as goal

pub returns-clause-tokens : goal.returns-clause-tokens
returns-clause-tokens c =
    let r = c.end_object.result in
    let end = c.end_object.new.self.tokens in
    let stage = c.args.stage.now in
    let action = rw c.action_word.ensures at c.in_ok-put_text.ensures.tokens in
    then_ok r c.args.out.now.tokens end (begin_object ∷ []) _ c.in_ok-begin_object.ensures.ok
    (then_ok r c.begin_object.new.self.tokens end (key (codes "stage") ∷ json_tokens (whole c.args.k)) _ c.in_ok-put_number.ensures.tokens
    (then_ok r c.put_number.new.out.tokens end (key (codes "action") ∷ json_tokens (string (action_word stage.action))) _ action
    (then_ok r c.put_text.new.out.tokens end (key (codes "of") ∷ json_tokens (concerned stage.action)) _ c.in_ok-put_concerned.ensures.tokens
    (then_ok r c.put_concerned.new.out.tokens end (key (codes "votes") ∷ []) _ c.in_ok-key.ensures.ok
    (then_ok r c.key.new.self.tokens end (json_tokens (array_of (votes_result (shown c.args.ward.now).candidates stage))) _ c.in_ok-write_votes.ensures.tokens
    (then_ok r c.write_votes.new.out.tokens end (key (codes "non_transferable") ∷ json_tokens (value stage.non_transferable)) _ c.in_ok-put_value.ensures.tokens
    (then_ok r c.put_value.new.out.tokens end (key (codes "lost") ∷ json_tokens (value stage.lost)) _ c.in_ok-put_value-2.ensures.tokens
    c.end_object.ensures.ok)))))))
