-- The bytes of an HTTP response.
use Rattle.std.specs.Prelude.{◌∷◌, List, [], ◌++◌, Option, Some, None, codes, decimal, length, unwrap_or, ℕ}
use Rattle.http.specs.StatusCode.{reason_phrase}
use Rattle.wire.specs.Requests.{ShowEntry, has_left, page, verb_text}
use Rattle.wire.specs.Replies.{fault_body, order_body, refusal_body, reply_body}
use Rattle.wire.specs.declared.account.Account.{Account}
use Rattle.wire.specs.declared.account.Account.TheVariants.{Clerk, Office}
use Rattle.wire.specs.declared.request_error.RequestError.{RequestError}
use Rattle.wire.specs.declared.request_error.RequestError.TheVariants.{BadRequest, Forbidden, MethodNotAllowed, NotFound, TooLarge, Unauthorized, WrongCode}
use Rattle.wire.specs.declared.request_error.Verb.{Verb}
use Rattle.wire.specs.declared.response.Content.{Content}
use Rattle.wire.specs.declared.response.Content.TheVariants.{Html, Json, Text}

-- What the additional header lines of a response say, if anything: the method that is served, that an account's code is required, or that the client must wait for a
-- minute. Or they say what a page may do in a browser (its policy), or that the browser should forget a code.
pub data More : Type 0 where
  nothing : More
  allows : Verb → More
  asks_code : Account → More
  waits : More
  guards : List ℕ → More
  forgets : More

-- a response: its status, its additional header lines, and its body with its media type
pub record ResponseEntry : Type 0 where
  pub status : ℕ
  pub more : More
  pub content : Content
  pub body : List ℕ

-- ---- how a response is written

-- the end of a line
abbrev pub line_end : List ℕ
line_end = 13 ∷ 10 ∷ []

-- the phrase of a status
abbrev pub phrase : ℕ → List ℕ
phrase status = unwrap_or (reason_phrase status) []

-- the media type of a body
abbrev pub media_type : Content → List ℕ
media_type Text = codes "text/plain; charset=utf-8"
media_type Json = codes "application/json"
media_type Html = codes "text/html; charset=utf-8"

-- the text that identifies an account in a realm
abbrev pub realm_of : Account → List ℕ
realm_of (Clerk clerk) = codes "clerk " ++ decimal clerk
realm_of Office = codes "office"

-- the line that requests an account's code; the realm names the account, so that no browser sends another account's code
unfoldable pub code_line : List ℕ → List ℕ
code_line realm = codes "WWW-Authenticate: Basic realm=\"" ++ (realm ++ (codes "\", charset=\"UTF-8\"" ++ line_end))

-- the lines that restrict a page: its policy; not in a frame; no other media type; isolated from windows and pages of other servers; not stored
unfoldable pub guard_lines : List ℕ → List ℕ
guard_lines policy =
    codes "Content-Security-Policy: " ++ (policy ++ (line_end
    ++ (codes "X-Frame-Options: DENY" ++ (line_end
    ++ (codes "X-Content-Type-Options: nosniff" ++ (line_end
    ++ (codes "Referrer-Policy: same-origin" ++ (line_end
    ++ (codes "Cross-Origin-Opener-Policy: same-origin" ++ (line_end
    ++ (codes "Cross-Origin-Resource-Policy: same-origin" ++ (line_end
    ++ (codes "Cache-Control: no-store" ++ line_end)))))))))))))

-- the additional header lines
abbrev pub more_lines : More → List ℕ
more_lines nothing = []
more_lines (allows verb) = codes "Allow: " ++ (verb_text verb ++ line_end)
more_lines (asks_code account) = code_line (realm_of account)
more_lines waits = codes "Retry-After: 60" ++ line_end
more_lines (guards policy) = guard_lines policy
more_lines forgets = codes "Clear-Site-Data: \"cookies\"" ++ (line_end ++ (codes "Cache-Control: no-store" ++ line_end))

-- the header lines of a response, an empty line, and the body
unfoldable pub lines_and_body : ℕ → List ℕ → List ℕ → ℕ → List ℕ → List ℕ → List ℕ
lines_and_body status its_phrase its_type size beside body =
    codes "HTTP/1.1 " ++ (decimal status ++ (codes " " ++ (its_phrase ++ (line_end
    ++ (codes "Content-Type: " ++ (its_type ++ (line_end
    ++ (codes "Content-Length: " ++ (decimal size ++ (line_end
    ++ (beside
    ++ (codes "Connection: close" ++ (line_end
    ++ (line_end
    ++ body))))))))))))))

-- the bytes of a response
abbrev pub response_bytes : ResponseEntry → List ℕ
response_bytes r = lines_and_body r.status (phrase r.status) (media_type r.content) (length r.body) (more_lines r.more) r.body

-- ---- the responses

-- a response whose body is JSON
abbrev pub json_response : ℕ → List ℕ → ResponseEntry
json_response status body = record { status = status; more = nothing; content = Json; body = body }

-- a text, as requested
abbrev pub text_response : List ℕ → ResponseEntry
text_response text = record { status = 200; more = nothing; content = Text; body = text }

-- an account's code is required
abbrev pub unauthorized_response : Account → ResponseEntry
unauthorized_response account = record { status = 401; more = asks_code account; content = Json; body = codes "{\"error\":\"unauthorized\"}" }

-- the account whose code is missing or wrong, if that is the error
abbrev pub account_kept_out : RequestError → Option Account
account_kept_out (Unauthorized account) = Some account
account_kept_out (WrongCode account) = Some account
account_kept_out other = None

-- the response to a client that must wait
abbrev pub waits_response : ResponseEntry
waits_response = record { status = 429; more = waits; content = Json; body = codes "{\"error\":\"too many wrong codes\"}" }

-- what is shown, whatever the state
abbrev pub shown_response : ShowEntry → ResponseEntry
shown_response (page its) = record { status = 200; more = guards its.policy; content = Html; body = its.text }
shown_response has_left = record { status = 200; more = forgets; content = Json; body = codes "{\"left\":true}" }

-- the content security policy of a page printed by an order: the page has its own styles, and no script
abbrev pub printed_policy : List ℕ
printed_policy = codes "default-src 'none'; style-src 'unsafe-inline'; base-uri 'none'; form-action 'none'; frame-ancestors 'none'"

-- a page that an order prints
abbrev pub printed_response : List ℕ → ResponseEntry
printed_response text = shown_response (page (record { text = text; policy = printed_policy }))

-- the response to a rejected request
abbrev pub denied_response : RequestError → ResponseEntry
denied_response BadRequest = json_response 400 (codes "{\"error\":\"bad request\"}")
denied_response Forbidden = json_response 403 (codes "{\"error\":\"forbidden\"}")
denied_response NotFound = json_response 404 (codes "{\"error\":\"not found\"}")
denied_response (MethodNotAllowed verb) = record { status = 405; more = allows verb; content = Json; body = codes "{\"error\":\"method not allowed\"}" }
denied_response TooLarge = json_response 413 (codes "{\"error\":\"too large\"}")
denied_response (Unauthorized account) = unauthorized_response account
denied_response (WrongCode account) = unauthorized_response account

-- the reply to a keying
abbrev pub reply_response : List ℕ → ResponseEntry
reply_response text = json_response 200 (reply_body text)

-- the outcome of an order: its status, and what it printed
abbrev pub order_response : ℕ → List ℕ → List ℕ → ResponseEntry
order_response status output errors = json_response 200 (order_body status output errors)

-- a refusal
abbrev pub refusal_response : ℕ → List ℕ → ResponseEntry
refusal_response number text = json_response 409 (refusal_body number text)

-- a fault
abbrev pub fault_response : ℕ → ResponseEntry
fault_response number = json_response 503 (fault_body number)
