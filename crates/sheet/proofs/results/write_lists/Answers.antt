-- Proof that `write_lists` meets its contract.
use Rattle.std.proofs.Common.{[], ◌∷◌, codes, map}
use Rattle.json.specs.Token.{key}
use Rattle.json.specs.Tree.{json_tokens}
use Rattle.sheet.specs.Entries.{shown}
use Rattle.sheet.specs.Results.{array_of, candidate_result, lot_result, stages_result}
use Rattle.sheet.proofs.Appended.{last_ok, then_ok}
use Rattle.sheet.proofs.results.write_lists.Goals as goal

pub returns-clause-tokens : goal.returns-clause-tokens
returns-clause-tokens c =
    let r = c.write_lots.result in
    let end = c.write_lots.new.out.tokens in
    let ward = shown c.args.ward.now in
    then_ok r c.args.out.now.tokens end (key (codes "candidates") ∷ []) _ c.in_ok-key.ensures.ok
    (then_ok r c.key.new.self.tokens end (json_tokens (array_of (map (candidate_result ward.poll c.args.stages.now) ward.candidates))) _ c.in_ok-write_candidates.ensures.tokens
    (then_ok r c.write_candidates.new.out.tokens end (key (codes "stages") ∷ []) _ c.in_ok-key-2.ensures.ok
    (then_ok r c.key-2.new.self.tokens end (json_tokens (array_of (stages_result ward.candidates 1 c.args.stages.now))) _ c.in_ok-write_stages.ensures.tokens
    (then_ok r c.write_stages.new.out.tokens end (key (codes "lots") ∷ []) _ c.in_ok-key-3.ensures.ok
    (last_ok r c.key-3.new.self.tokens end (json_tokens (array_of (map lot_result c.args.lots.now))) c.write_lots.ensures.tokens)))))
