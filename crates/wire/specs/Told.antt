-- The status and the body of a response that is ready to be written.
use Rattle.std.specs.Prelude.{◌≡◌, ◌⊎◌, List, string_bytes, ℕ}
use Rattle.wire.specs.Responses.{ResponseEntry, fault_response, response_bytes}
use Rattle.wire.specs.declared.response.Bytes.{Bytes}
use Rattle.wire.specs.declared.response.Bytes.TheVariants.{Fixed, Made}
use Rattle.wire.specs.declared.response.Response.{Response}

-- the bytes of a response
abbrev pub told_bytes : Bytes → List ℕ
told_bytes (Fixed text) = text.now
told_bytes (Made text) = string_bytes text

-- a response has the given status and bytes
pub record IsWritten (entry : ResponseEntry) (response : Response) : Type 0 where
  pub status : response.status ≡ entry.status
  pub bytes : told_bytes response.bytes ≡ response_bytes entry

-- a response is the given one, or the out-of-memory response
abbrev pub IsTold : ResponseEntry → Response → Type 0
IsTold entry response = IsWritten entry response ⊎ IsWritten (fault_response 101) response
