-- What a request asks for, or why it is rejected before the office is asked, as determined by its head and the bytes after it.
use Rattle.std.specs.Prelude.{◌≡◌, ◌⊎◌, ◌+◌, ◌<◌, ◌++◌, ⊤, Bool, List, [], ◌∷◌, Option, Some, None, Result}
use Rattle.std.specs.Prelude.{Ok, Err, bytes_eq, codes, drop, false, if◌then◌else◌, length, map, option_and_then, string_bytes, take, true, ℕ}
use Rattle.std.specs.Io.KnownBytes.{Consumes}
use Rattle.httparse.specs.Grammar.{RequestHead}
use Rattle.httparse.specs.Spans.{header_bytes, name_and_value, span_bytes}
use Rattle.httparse.specs.declared.spans.HeaderSpan.{HeaderSpan}
use Rattle.httparse.specs.declared.spans.RequestSpans.{RequestSpans}
use Rattle.wire.specs.declared.request.HttpRequest.{HttpRequest}
use Rattle.wire.specs.declared.public_target.PublicTarget.{PublicTarget}
use Rattle.wire.specs.declared.request.HttpRequest.TheVariants.{ConsolePage, Denied, Keying, Order, Public, Resource as Reads, ClerkPage}
use Rattle.wire.specs.declared.settings.FixedPage.{FixedPage}
use Rattle.wire.specs.declared.settings.FixedPage.TheVariants.{SignedOut, Page}
use Rattle.wire.specs.declared.read_failure.ReadFailure.{ReadFailure}
use Rattle.wire.specs.declared.read_failure.ReadFailure.TheVariants.{Broken, Memory}
use Rattle.wire.specs.declared.request_error.RequestError.{RequestError}
use Rattle.wire.specs.declared.request_error.RequestError.TheVariants.{BadRequest, Forbidden, MethodNotAllowed, NotFound}
use Rattle.wire.specs.declared.request_error.Verb.{Verb}
use Rattle.wire.specs.declared.request_error.Verb.TheVariants.{Get, Post}
use Rattle.wire.specs.declared.target.Resource.{Resource}
use Rattle.wire.specs.declared.target.Target.{Target}
use Rattle.wire.specs.declared.target.Target.TheVariants as target
use Rattle.wire.specs.declared.target.OfficeTarget.TheVariants as office
use Rattle.wire.specs.declared.account.Account.{Account}
use Rattle.wire.specs.declared.account.Account.TheVariants.{Clerk, Office}
use Rattle.wire.specs.ConsoleOrders.{ConsoleOrderEntry, console_order_entry, order_of}
use Rattle.wire.specs.Bodies.{KeyingEntry, body_in, keying_of}
use Rattle.wire.specs.Gates.{GateEntry, HttpSettingsEntry, PageEntry, PublicEntry, account_at}
use Rattle.wire.specs.Gates.{has_code, authentication_failure, page_entry, public_entry, reader_of, reading_account, sent_codes, served_at}
use Rattle.wire.specs.Heads.{BeginsWith, HasNoHead, IsHeadIncomplete}
use Rattle.wire.specs.Lengths.{NamedValue, body_length}
use Rattle.wire.specs.Origins.{is_foreign}
use Rattle.wire.specs.Targets.{named_by}

-- what is shown, whatever the state: a page; or that the clerk or the office is signed out, so that the browser should forget the code
pub data ShowEntry : Type 0 where
  page : PageEntry → ShowEntry
  has_left : ShowEntry

abbrev pub show_entry : FixedPage → ShowEntry
show_entry (Page its) = page (page_entry its)
show_entry SignedOut = has_left

-- What a request asks the server to do. It is nothing if the request is rejected. Otherwise it is to show something to a clerk, to the office or in public, to record
-- a clerk's keying of a batch, to read, or to carry out an order from the office.
pub data HttpRequestEntry : Type 0 where
  denied : RequestError → HttpRequestEntry
  shown : ℕ → ShowEntry → HttpRequestEntry
  keying : ℕ → ℕ → KeyingEntry → HttpRequestEntry
  reading : Resource → HttpRequestEntry
  console : ShowEntry → HttpRequestEntry
  order : ConsoleOrderEntry → HttpRequestEntry
  public : PublicEntry → PublicTarget → HttpRequestEntry

-- what a request that was read asks for
abbrev pub http_request_entry : HttpRequest → HttpRequestEntry
http_request_entry (Denied why) = denied why
http_request_entry (ClerkPage clerk show) = shown clerk (show_entry show)
http_request_entry (Keying k) = keying k.clerk k.batch (record { id = string_bytes k.id; round = k.round; papers = map string_bytes k.papers.items })
http_request_entry (Reads what) = reading what
http_request_entry (ConsolePage show) = console (show_entry show)
http_request_entry (Order its) = order (console_order_entry its)
http_request_entry (Public its what) = public (public_entry its) what

-- why a request wasn't read, judging by the source's failure count: it is one higher, or unchanged if an allocation failed
abbrev pub IsUnread : ℕ → ℕ → ReadFailure → Type 0
IsUnread old new Broken = new ≡ old + 1
IsUnread old new Memory = new ≡ old

-- the name of a method
abbrev pub verb_text : Verb → List ℕ
verb_text Get = codes "GET"
verb_text Post = codes "POST"

-- the only method allowed for a target
abbrev pub verb_of : Target → Verb
verb_of (target.Keying clerk batch) = Post
verb_of (target.Page clerk) = Get
verb_of (target.Leave clerk) = Get
verb_of (target.Resource what) = Get
verb_of (target.Office office.ConsolePage) = Get
verb_of (target.Office office.Leave) = Get
verb_of (target.Office office.Orders) = Post
verb_of (target.Public what) = Get

-- a clerk's keying, given its body
abbrev pub asked_in : ℕ → ℕ → Option KeyingEntry → HttpRequestEntry
asked_in clerk batch (Some entry) = keying clerk batch entry
asked_in clerk batch None = denied BadRequest

-- a clerk's keying, given the length of its body and the bytes that follow the head
abbrev pub asked_with : ℕ → ℕ → Result ℕ RequestError → List ℕ → HttpRequestEntry
asked_with clerk batch (Ok n) behind = asked_in clerk batch (option_and_then keying_of (body_in n behind))
asked_with clerk batch (Err why) behind = denied why

-- an order, given its body
abbrev pub ordered_in : Option ConsoleOrderEntry → HttpRequestEntry
ordered_in (Some entry) = order entry
ordered_in None = denied BadRequest

-- an order, given the length of its body and the bytes that follow the head
abbrev pub ordered_with : Result ℕ RequestError → List ℕ → HttpRequestEntry
ordered_with (Ok n) behind = ordered_in (option_and_then order_of (body_in n behind))
ordered_with (Err why) behind = denied why

-- what is requested at a target, if the target allows the method
abbrev pub asked_for : List ℕ → Option Target → Result Target RequestError
asked_for method None = Err NotFound
asked_for method (Some there) = if bytes_eq method (verb_text (verb_of there)) then Ok there else Err (MethodNotAllowed (verb_of there))

-- what is requested at a target, provided that authentication didn't fail
abbrev pub let_in : Option RequestError → List ℕ → Option Target → Result Target RequestError
let_in (Some why) method there = Err why
let_in None method there = asked_for method there

-- what is requested once the gate has been passed: nothing if authentication failed, whatever the target names
abbrev pub wanted_after : Option GateEntry → Option PublicEntry → List NamedValue → List ℕ → List ℕ → Result Target RequestError
wanted_after gate hall fields method target = let_in (authentication_failure gate (account_at gate target) fields) method (served_at gate hall (named_by target))

-- what a request asks for: nothing if its header fields are foreign
abbrev pub wanted_by : Bool → Option GateEntry → Option PublicEntry → List NamedValue → List ℕ → List ℕ → Result Target RequestError
wanted_by true gate hall fields method target = Err Forbidden
wanted_by false gate hall fields method target = wanted_after gate hall fields method target

abbrev pub wanted : HttpSettingsEntry → List NamedValue → List ℕ → List ℕ → Result Target RequestError
wanted settings fields method target = wanted_by (is_foreign settings.origin fields) settings.gate settings.public fields method target

-- the request to show a clerk the gate's page
abbrev pub page_at : Option GateEntry → ℕ → HttpRequestEntry
page_at None clerk = denied NotFound
page_at (Some gate) clerk = shown clerk (page gate.page)

-- the request to show the gate's console
abbrev pub console_at : Option GateEntry → HttpRequestEntry
console_at None = denied NotFound
console_at (Some gate) = console (page gate.console)

-- the request to show something in public, if anything is shown in public
abbrev pub public_at : Option PublicEntry → PublicTarget → HttpRequestEntry
public_at None what = denied NotFound
public_at (Some its) what = public its what

-- what is requested at a target; neither the length of the body nor any byte after the head matters, except for a keying and an order
abbrev pub asked_of : Option GateEntry → Option PublicEntry → Result Target RequestError → Result ℕ RequestError → List ℕ → HttpRequestEntry
asked_of gate hall (Ok (target.Keying clerk batch)) size behind = asked_with clerk batch size behind
asked_of gate hall (Ok (target.Page clerk)) size behind = page_at gate clerk
asked_of gate hall (Ok (target.Leave clerk)) size behind = shown clerk has_left
asked_of gate hall (Ok (target.Resource what)) size behind = reading what
asked_of gate hall (Ok (target.Office office.ConsolePage)) size behind = console_at gate
asked_of gate hall (Ok (target.Office office.Leave)) size behind = console has_left
asked_of gate hall (Ok (target.Office office.Orders)) size behind = ordered_with size behind
asked_of gate hall (Ok (target.Public what)) size behind = public_at hall what
asked_of gate hall (Err why) size behind = denied why

-- what a head and the bytes after it ask for, under the given settings
abbrev pub asked_by : HttpSettingsEntry → RequestHead → List ℕ → HttpRequestEntry
asked_by settings head behind =
    asked_of settings.gate settings.public (wanted settings (map name_and_value head.fields) head.method head.target) (body_length (map name_and_value head.fields)) behind

-- what is asked for by a head that was found in what was read, and by the bytes after it
abbrev pub asked_at : HttpSettingsEntry → List ℕ → List HeaderSpan → RequestSpans → List ℕ → HttpRequestEntry
asked_at settings got headers spans left =
    asked_of settings.gate settings.public (wanted settings (map (header_bytes got) (take spans.headers headers)) (span_bytes got spans.method) (span_bytes got spans.path))
    (body_length (map (header_bytes got) (take spans.headers headers))) (drop spans.len got ++ left)

-- what the bytes from a client ask for
abbrev pub Asks : HttpSettingsEntry → List ℕ → HttpRequestEntry → Type 0
Asks settings bytes asked =
    (HasNoHead bytes × (asked ≡ denied BadRequest)) ⊎ ((head : RequestHead) × (behind : List ℕ) × BeginsWith bytes head behind × (asked ≡ asked_by settings head behind))

-- the same bytes never ask for two different things
abbrev pub AsksOneThing : HttpSettingsEntry → List ℕ → Type 0
AsksOneThing settings bytes = (one two : HttpRequestEntry) → Asks settings bytes one → Asks settings bytes two → one ≡ two

-- A request sent by a page from another site, or addressed to a foreign host name, is rejected, whatever else it says.
abbrev pub DeniesForeign : HttpSettingsEntry → List ℕ → Type 0
DeniesForeign settings bytes =
    (head : RequestHead) (behind : List ℕ) → BeginsWith bytes head behind → is_foreign settings.origin (map name_and_value head.fields) ≡ true
    → (asked : HttpRequestEntry) → Asks settings bytes asked → asked ≡ denied Forbidden

-- Any other request asks for what its target names, whatever origin the settings have, unless authentication fails at the gate.
abbrev pub DependsOnOwnBytes : HttpSettingsEntry → List ℕ → Type 0
DependsOnOwnBytes settings bytes =
    (head : RequestHead) (behind : List ℕ) → BeginsWith bytes head behind → is_foreign settings.origin (map name_and_value head.fields) ≡ false
    → (asked : HttpRequestEntry) → Asks settings bytes asked
    → asked ≡ asked_of settings.gate settings.public (wanted_after settings.gate settings.public (map name_and_value head.fields) head.method head.target)
    (body_length (map name_and_value head.fields)) behind

-- the clerk under whose number something is requested: the page, a sign-out, a keying, the work, or the candidates of a batch
abbrev pub clerk_asked : HttpRequestEntry → Option ℕ
clerk_asked (denied why) = None
clerk_asked (shown clerk show) = Some clerk
clerk_asked (keying clerk batch entry) = Some clerk
clerk_asked (reading what) = reader_of what
clerk_asked (console show) = None
clerk_asked (order entry) = None
clerk_asked (public its what) = None

-- the account whose code is required for what is requested, if any
abbrev pub account_asked : HttpRequestEntry → Option Account
account_asked (denied why) = None
account_asked (shown clerk show) = Some (Clerk clerk)
account_asked (keying clerk batch entry) = Some (Clerk clerk)
account_asked (reading what) = reading_account what
account_asked (console show) = Some Office
account_asked (order entry) = Some Office
account_asked (public its what) = None

-- A request has an account's code: it has exactly one `Authorization` header, whose value is the account's.
pub record HoldsCode (gate : GateEntry) (account : Account) (fields : List NamedValue) : Type 0 where
  pub value : List ℕ
  pub once : sent_codes fields ≡ value ∷ []
  pub is_its : has_code gate account value ≡ true

-- At a gate, only the holder of a clerk's code can ask for anything under that clerk's number, and only the holder of the office's code can ask for anything on the
-- console. A request from anyone else is rejected.
abbrev pub AsksByHolder : HttpSettingsEntry → List ℕ → Type 0
AsksByHolder settings bytes =
    (head : RequestHead) (behind : List ℕ) → BeginsWith bytes head behind → (asked : HttpRequestEntry) → Asks settings bytes asked
    → (account : Account) → account_asked asked ≡ Some account → (gate : GateEntry) → settings.gate ≡ Some gate → HoldsCode gate account (map name_and_value head.fields)

-- ---- incomplete requests

-- fewer bytes follow the head than the body has
abbrev pub MissesBody : Result ℕ RequestError → List ℕ → Type 0
MissesBody (Ok n) behind = length behind < n
MissesBody (Err why) behind = ⊥

-- what is requested needs more bytes than follow the head; only a keying or an order does, until its body is complete
abbrev pub MissesBytes : Result Target RequestError → Result ℕ RequestError → List ℕ → Type 0
MissesBytes (Ok (target.Keying clerk batch)) size behind = MissesBody size behind
MissesBytes (Ok (target.Page clerk)) size behind = ⊥
MissesBytes (Ok (target.Leave clerk)) size behind = ⊥
MissesBytes (Ok (target.Resource what)) size behind = ⊥
MissesBytes (Ok (target.Office office.ConsolePage)) size behind = ⊥
MissesBytes (Ok (target.Office office.Leave)) size behind = ⊥
MissesBytes (Ok (target.Office office.Orders)) size behind = MissesBody size behind
MissesBytes (Ok (target.Public what)) size behind = ⊥
MissesBytes (Err why) size behind = ⊥

-- what a head asks for needs more than the bytes after it
abbrev pub MissesBehind : HttpSettingsEntry → RequestHead → List ℕ → Type 0
MissesBehind settings head behind = MissesBytes (wanted settings (map name_and_value head.fields) head.method head.target) (body_length (map name_and_value head.fields)) behind

-- what is asked for by a head that was found in what was read needs more than the bytes after it
abbrev pub MissesFound : HttpSettingsEntry → List ℕ → List HeaderSpan → RequestSpans → List ℕ → Type 0
MissesFound settings got headers spans behind =
    MissesBytes (wanted settings (map (header_bytes got) (take spans.headers headers)) (span_bytes got spans.method) (span_bytes got spans.path))
    (body_length (map (header_bytes got) (take spans.headers headers))) behind

-- what a head asks for needs more than the bytes after it: those read along with the head, and those read later
abbrev pub MissesAt : HttpSettingsEntry → List ℕ → List HeaderSpan → RequestSpans → List ℕ → Type 0
MissesAt settings got headers spans more = MissesFound settings got headers spans (drop spans.len got ++ more)

-- The bytes read so far don't determine what is requested: they contain no complete head yet, or they contain the head of a keying or an order whose body is incomplete.
abbrev pub IsIncomplete : HttpSettingsEntry → List ℕ → Type 0
IsIncomplete settings got = IsHeadIncomplete got ⊎ ((head : RequestHead) × (behind : List ℕ) × BeginsWith got head behind × MissesBehind settings head behind)

-- bytes that satisfy P were read; if it is known which bytes were read, they are exactly those
abbrev pub HasRead : Option (List ℕ) → Option (List ℕ) → (List ℕ → Type 0) → Type 0
HasRead old new P = (got : List ℕ) × Consumes old new got × P got

-- if the source failed, the bytes read before that satisfy P
abbrev pub FailsAfter : Option (List ℕ) → Option (List ℕ) → (List ℕ → Type 0) → ReadFailure → Type 0
FailsAfter old new P Broken = HasRead old new P
FailsAfter old new P Memory = ⊤
