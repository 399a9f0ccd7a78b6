-- The result of a ward is shallow, so a reader of JSON finds it in its text.
use Rattle.std.proofs.Common.{◌≡◌, ℕ, ◌+◌, ◌≤◌, Bool, List, [], ◌∷◌, map, Option, Some, None, option_and_then, sym, ap, ◌∙◌, append-nil, arith}
use Rattle.json.specs.Json.{Json, document, if_last, max_depth, value}
use Rattle.json.specs.Lex.{tokens}
use Rattle.json.specs.Print.{print}
use Rattle.json.specs.Tree.{depth, items_depth, json_tokens}
use Rattle.json.proofs.Printed.Trees.{value-json_tokens}
use Rattle.count.specs.declared.stages.Stage.{Stage}
use Rattle.count.specs.declared.stages.Action.{Action}
use Rattle.count.specs.declared.stages.Action.TheVariants.{First, Surplus, Exclude, ExcludeLast}
use Rattle.sheet.specs.Entries.{SheetEntry}
use Rattle.sheet.specs.declared.ward.Poll.{Poll}
use Rattle.sheet.specs.Results.{candidate_result, concerned, elected_at, excluded_at, if_contested, items_of, lot_result, quota, rejected_papers}
use Rattle.sheet.specs.Results.{stage_number, stage_result, stages_result, valid_papers}
use Rattle.sheet.specs.Results.{votes_result, ward_result}

-- a value is read back from its text if its tokens are
pub document-read : (json : Json) → tokens (print (json_tokens json)) ≡ json_tokens json → depth json ≤ max_depth → document (print (json_tokens json)) ≡ Some json
document-read json read shallow =
    ap (option_and_then (λ p. if_last p.0 p.1))
    (ap (value max_depth) (read ∙ sym (append-nil (json_tokens json))) ∙ value-json_tokens json max_depth [] shallow)

-- ---- how deep the parts nest

of_stage_number : (k : Option ℕ) → depth (stage_number k) ≤ 0
of_stage_number None = omega arith
of_stage_number (Some k) = omega arith

of_concerned : (action : Action) → depth (concerned action) ≤ 0
of_concerned First = omega arith
of_concerned (Surplus c) = omega arith
of_concerned (Exclude c) = omega arith
of_concerned (ExcludeLast c) = omega arith

of_valid : (poll : Option Poll) → depth (valid_papers poll) ≤ 0
of_valid None = omega arith
of_valid (Some poll) = omega arith

of_rejected : (poll : Option Poll) → depth (rejected_papers poll) ≤ 1
of_rejected None = omega arith
of_rejected (Some poll) = omega arith

of_quota : (seats : ℕ) (poll : Option Poll) → depth (quota seats poll) ≤ 0
of_quota seats None = omega arith
of_quota seats (Some poll) = omega arith

of_items : {X : Type 0} (f : X → Json) (n : ℕ) → ((x : X) → depth (f x) ≤ n) → (xs : List X) → items_depth (items_of (map f xs)) ≤ n
of_items f n each [] = omega arith
of_items f n each (x ∷ xs) = omega (arith, each x, of_items f n each xs)

of_votes : (candidates : List (ℕ × List ℕ)) (stage : Stage) → items_depth (items_of (votes_result candidates stage)) ≤ 0
of_votes [] stage = omega arith
of_votes (candidate ∷ candidates) stage = omega (arith, of_votes candidates stage)

of_candidate : (poll : Option Poll) (stages : List Stage) (candidate : ℕ × List ℕ) → depth (candidate_result poll stages candidate) ≤ 1
of_candidate poll stages candidate = omega (arith, of_stage_number (elected_at stages candidate.0), of_stage_number (excluded_at stages candidate.0))

of_stage : (candidates : List (ℕ × List ℕ)) (k : ℕ) (stage : Stage) → depth (stage_result candidates k stage) ≤ 2
of_stage candidates k stage = omega (arith, of_concerned stage.action, of_votes candidates stage)

of_stages : (candidates : List (ℕ × List ℕ)) (k : ℕ) (stages : List Stage) → items_depth (items_of (stages_result candidates k stages)) ≤ 2
of_stages candidates k [] = omega arith
of_stages candidates k (stage ∷ later) = omega (arith, of_stage candidates k stage, of_stages candidates (k + 1) later)

of_lot : (lot : ℕ × ℕ) → depth (lot_result lot) ≤ 1
of_lot lot = omega arith

-- objects and arrays nest at most four deep
pub results_shallow : (ward : SheetEntry) (is_declared : Bool) (stages : List Stage) (lots : List (ℕ × ℕ)) → depth (ward_result ward is_declared stages lots) ≤ max_depth
results_shallow ward is_declared stages lots =
    omega (
      arith,
      of_valid ward.poll,
      of_rejected ward.poll,
      of_quota ward.seats ward.poll,
      of_items (candidate_result ward.poll (if_contested ward.poll stages)) 1 (of_candidate ward.poll (if_contested ward.poll stages)) ward.candidates,
      of_stages ward.candidates 1 (if_contested ward.poll stages),
      of_items lot_result 1 of_lot (if_contested ward.poll lots),
    )
