-- Proof that `candidates_of` meets its contract.
use Rattle.std.proofs.Common.{◌≡◌, ◌≤◌, length, map, arith}
use Rattle.std.specs.Prelude.{string_bytes}
use Rattle.std.proofs.lemmas.Grind.{common_steps}
use Rattle.std.proofs.lemmas.List.{length-map}
use Rattle.paper.specs.Columns.{max_candidates}
use Rattle.checker.specs.Wards.{candidates_of}
use Rattle.checker.proofs.WardLemmas.{candidates_set}
use Rattle.checker.proofs.wards.candidates_of.Goals as goal

pub returns-clause-set : goal.returns-clause-set
returns-clause-set c =
    let few : length (map string_bytes c.args.names.now) ≤ max_candidates = omega (arith, length-map c.args.names.now string_bytes, c.requires) in
    let is : map (λ candidate. (candidate.0, string_bytes candidate.1)) c.loop-i.candidates.items ≡ candidates_of c.args.withdrawn.now
    (map string_bytes c.args.names.now) = grind (arith, common_steps) in
    candidates_set c.args.withdrawn.now (map string_bytes c.args.names.now) c.loop-i.candidates.items few is
