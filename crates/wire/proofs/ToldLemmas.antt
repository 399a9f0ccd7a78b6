-- A response with the office's answer.
use Rattle.std.proofs.Common.{◌≡◌, ℕ, List, Result, Ok, Err, inr, subst}
use Rattle.std.specs.Prelude.{IfOk, OnErr}
use Rattle.serde_json.specs.Data.{Data}
use Rattle.serde_json.specs.Written.{compact_text}
use Rattle.wire.specs.Responses.{fault_response, json_response}
use Rattle.wire.specs.Serving.{data_response}
use Rattle.wire.specs.Told.{IsTold, IsWritten}
use Rattle.wire.specs.declared.response.Response.{Response}

-- the body is the JSON of a value, or its allocation failed
pub IsTold-data : {T E : Type 0} (bytes : T → List ℕ) (json : Data) (body : Result T E) (response : Response) → IfOk body (λ text. bytes text ≡ compact_text json)
    → IfOk body (λ text. IsTold (json_response 200 (bytes text)) response) → OnErr body (IsWritten (fault_response 101) response) → IsTold (data_response json) response
IsTold-data bytes json (Ok text) response same told failed = subst (λ (xs : List ℕ). IsTold (json_response 200 xs) response) same told
IsTold-data bytes json (Err e) response same told failed = inr failed
