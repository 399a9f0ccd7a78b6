-- What a parsed head says about a request, and when a request has one.
use Rattle.std.specs.Prelude.{◌≡◌, ◌≤◌, ◌++◌, IfOk, List, None, Option, Some, Result, Ok, Err, length, map, option_map, ℕ}
use Rattle.httparse.specs.Grammar.{RequestHead, print_request}
use Rattle.httparse.specs.Spans.{name_and_value}
use Rattle.wire.specs.Requests.{wanted}
use Rattle.wire.specs.Gates.{HttpSettingsEntry, authentication_at, authentication_entry}
use Rattle.wire.specs.Heads.{BeginsWith, HasNoHead, IsHeadIncomplete}
use Rattle.wire.specs.Lengths.{NamedValue, body_length, most_body_bytes}
use Rattle.wire.specs.declared.request_error.RequestError.{RequestError}
use Rattle.wire.specs.declared.parsed.Head.{Head}
use Rattle.wire.specs.declared.parsed.Parsed.{Parsed}
use Rattle.wire.specs.declared.parsed.Parsed.TheVariants as parsed
use Rattle.wire.specs.declared.target.Resource.{Resource}
use Rattle.wire.specs.declared.target.Target.{Target}
use Rattle.wire.specs.declared.target.Target.TheVariants as target
use Rattle.wire.specs.declared.target.OfficeTarget.TheVariants as office

-- how many bytes after a head are needed to determine what is requested: only a keying and an order need any
abbrev pub needed : Result Target RequestError → Result ℕ RequestError → ℕ
needed (Ok (target.Keying clerk batch)) (Ok n) = n
needed (Ok (target.Keying clerk batch)) (Err why) = 0
needed (Ok (target.Page clerk)) body = 0
needed (Ok (target.Leave clerk)) body = 0
needed (Ok (target.Resource what)) body = 0
needed (Ok (target.Office office.ConsolePage)) body = 0
needed (Ok (target.Office office.Leave)) body = 0
needed (Ok (target.Office office.Orders)) (Ok n) = n
needed (Ok (target.Office office.Orders)) (Err why) = 0
needed (Ok (target.Public what)) body = 0
needed (Err why) body = 0

-- the resource to read, if the request is a read
abbrev pub read_in : Result Target RequestError → Option Resource
read_in (Ok (target.Keying clerk batch)) = None
read_in (Ok (target.Page clerk)) = None
read_in (Ok (target.Leave clerk)) = None
read_in (Ok (target.Resource what)) = Some what
read_in (Ok (target.Office place)) = None
read_in (Ok (target.Public what)) = None
read_in (Err why) = None

-- A parsed head says what the given header fields, method and target ask for, and its length is n.
pub record Says (settings : HttpSettingsEntry) (fields : List NamedValue) (method target : List ℕ) (n : ℕ) (head : Head) : Type 0 where
  pub wanted : head.wanted ≡ wanted settings fields method target
  pub authentication : option_map authentication_entry head.authentication ≡ authentication_at settings fields target
  pub body : head.body ≡ body_length fields
  pub fits : IfOk head.body (λ size. size ≤ most_body_bytes)
  pub size : head.size ≡ n

-- a parsed head is the head that the bytes begin with
pub record IsHeadOf (settings : HttpSettingsEntry) (got : List ℕ) (head : Head) : Type 0 where
  pub found : RequestHead
  pub behind : List ℕ
  pub begins : BeginsWith got found behind
  pub says : Says settings (map name_and_value found.fields) found.method found.target (length (print_request found)) head

-- the result of parsing: the bytes begin with the given head; or they may still become a head; or they don't begin with one, whatever follows them
abbrev pub IsParsed : HttpSettingsEntry → List ℕ → Parsed → Type 0
IsParsed settings got (parsed.Head head) = IsHeadOf settings got head
IsParsed settings got parsed.Partial = IsHeadIncomplete got
IsParsed settings got parsed.Malformed = (more : List ℕ) → HasNoHead (got ++ more)
