-- The constant responses, character by character.
use Rattle.std.proofs.Common.{◌≡◌, Some, ap, refl, ℕ}
use Rattle.std.specs.Fmt.{digits}
use Rattle.wire.specs.Requests.{has_left}
use Rattle.wire.specs.Responses.{account_kept_out, denied_response, fault_response, lines_and_body, response_bytes, shown_response, unauthorized_response, waits_response}
use Rattle.wire.specs.declared.account.Account.{Account}
use Rattle.wire.specs.declared.request_error.RequestError.{RequestError}
use Rattle.wire.specs.declared.request_error.RequestError.TheVariants.{BadRequest, Forbidden, MethodNotAllowed, NotFound, TooLarge, Unauthorized, WrongCode}
use Rattle.wire.specs.declared.request_error.Verb.TheVariants.{Get, Post}
use Rattle.wire.specs.declared.response.TheConstants.{BAD_REQUEST, FORBIDDEN, GONE, SIGNED_OUT, NOT_FOUND, NO_MEMORY, ONLY_GET, ONLY_POST, OUTPUT_FAILED, TOO_LARGE, UNRECORDED, WAITS}

pub bad_request-told : BAD_REQUEST.now ≡ response_bytes (denied_response BadRequest)
unfolding digits lines_and_body
bad_request-told = refl

pub forbidden-told : FORBIDDEN.now ≡ response_bytes (denied_response Forbidden)
unfolding digits lines_and_body
forbidden-told = refl

pub not_found-told : NOT_FOUND.now ≡ response_bytes (denied_response NotFound)
unfolding digits lines_and_body
not_found-told = refl

pub only_get-told : ONLY_GET.now ≡ response_bytes (denied_response (MethodNotAllowed Get))
unfolding digits lines_and_body
only_get-told = refl

pub only_post-told : ONLY_POST.now ≡ response_bytes (denied_response (MethodNotAllowed Post))
unfolding digits lines_and_body
only_post-told = refl

pub too_large-told : TOO_LARGE.now ≡ response_bytes (denied_response TooLarge)
unfolding digits lines_and_body
too_large-told = refl

pub no_memory-told : NO_MEMORY.now ≡ response_bytes (fault_response 101)
unfolding digits lines_and_body
no_memory-told = refl

pub waits-told : WAITS.now ≡ response_bytes waits_response
unfolding digits lines_and_body
waits-told = refl

pub gone-told : GONE.now ≡ response_bytes (fault_response 113)
unfolding digits lines_and_body
gone-told = refl

pub unrecorded-told : UNRECORDED.now ≡ response_bytes (fault_response 112)
unfolding digits lines_and_body
unrecorded-told = refl

pub output_failed-told : OUTPUT_FAILED.now ≡ response_bytes (fault_response 107)
unfolding digits lines_and_body
output_failed-told = refl

pub left-told : SIGNED_OUT.now ≡ response_bytes (shown_response has_left)
unfolding digits lines_and_body
left-told = refl

-- a rejection that requests an account's code
pub unauthorized-told : (why : RequestError) (account : Account) → account_kept_out why ≡ Some account → denied_response why ≡ unauthorized_response account
unauthorized-told (Unauthorized a) account is = let same : a ≡ account = cc in ap unauthorized_response same
unauthorized-told (WrongCode a) account is = let same : a ≡ account = cc in ap unauthorized_response same
unauthorized-told BadRequest account is = let no : ⊥ = cc in absurd no
unauthorized-told Forbidden account is = let no : ⊥ = cc in absurd no
unauthorized-told NotFound account is = let no : ⊥ = cc in absurd no
unauthorized-told (MethodNotAllowed verb) account is = let no : ⊥ = cc in absurd no
unauthorized-told TooLarge account is = let no : ⊥ = cc in absurd no
