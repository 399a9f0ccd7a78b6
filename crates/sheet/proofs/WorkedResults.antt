-- Rows of a result as JSON, worked through: the ward of the stage sheet in the documents, and names that aren't plain.
use Rattle.std.proofs.Common.{◌≡◌, ℕ, List, [], ◌∷◌, true, false, Some, None, codes, refl}
use Rattle.std.specs.Fmt.{digits}
use Rattle.json.proofs.OnLiterals.{json_on_literals}
use Rattle.json.specs.Print.{escape, print}
use Rattle.json.specs.Tree.{json_tokens}
use Rattle.count.specs.declared.stages.Action.TheVariants.{First, Surplus}
use Rattle.count.specs.declared.stages.Stage.{Stage}
use Rattle.sheet.specs.Results.{candidate_result, lot_result, stage_result}

candidates : List (ℕ × List ℕ)
candidates = (1, codes "Ann") ∷ (2, codes "Bob") ∷ (3, codes "Cy") ∷ []

first_stage : Stage
first_stage = record { action = First; votes = 600000 ∷ 100000 ∷ 200000 ∷ []; elected = 1 ∷ []; non_transferable = 0; lost = 0 }

second_stage : Stage
second_stage = record { action = Surplus 1; votes = 400000 ∷ 233332 ∷ 266666 ∷ []; elected = []; non_transferable = 0; lost = 2 }

surplus_stage : print (json_tokens (stage_result candidates 2 second_stage))
    ≡ codes "{\"stage\":2,\"action\":\"surplus\",\"of\":1,\"votes\":[\"4.00000\",\"2.33332\",\"2.66666\"],\"non_transferable\":\"0.00000\",\"lost\":\"0.00002\"}"
unfolding candidates second_stage digits json_on_literals
surplus_stage = refl

elected_first : print (json_tokens (candidate_result (Some (record { valid = 9; rejected = [] })) (first_stage ∷ second_stage ∷ []) (1, codes "Ann")))
    ≡ codes "{\"number\":1,\"name\":\"Ann\",\"elected\":true,\"elected_at\":1,\"excluded_at\":null}"
unfolding first_stage second_stage digits json_on_literals
elected_first = refl

uncontested : print (json_tokens (candidate_result None [] (2, codes "Bob"))) ≡ codes "{\"number\":2,\"name\":\"Bob\",\"elected\":true,\"elected_at\":null,\"excluded_at\":null}"
unfolding digits json_on_literals
uncontested = refl

one_lot : print (json_tokens (lot_result (2, 3))) ≡ codes "{\"stage\":2,\"candidate\":3}"
unfolding digits json_on_literals
one_lot = refl

-- a quotation mark, a backslash and control characters in a name are escaped
hostile : escape (34 ∷ 92 ∷ 10 ∷ 1 ∷ 65 ∷ []) ≡ codes "\\\"\\\\\\n\\u0001A"
unfolding json_on_literals
hostile = refl
