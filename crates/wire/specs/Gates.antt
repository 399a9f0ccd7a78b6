-- Targets under a clerk's number at a gate: what is accepted there, and the authentication of a request.
use Rattle.std.specs.Prelude.{◌≡◌, ◌==◌, ◌∷◌, ◌&&◌, Bool, List, [], None, Option, Some, codes, drop, false, if◌then◌else◌, is_some, map, nat_eq, not, option_map, slice_index, take, true, ℕ}
use Rattle.std.specs.Char.{is_ascii_digit}
use Rattle.std.specs.List.{prefix_len, starts_with}
use Rattle.httparse.specs.Grammar.{RequestHead}
use Rattle.httparse.specs.Spans.{name_and_value}
use Rattle.codes.specs.Codes.{Holder, holders_of, is_of, is_office, office_of}
use Rattle.wire.specs.Heads.{BeginsWith, HasNoHead}
use Rattle.wire.specs.Lengths.{NamedValue, values_of}
use Rattle.wire.specs.Origins.{origin_setting, is_foreign}
use Rattle.wire.specs.Numbers.{number_in}
use Rattle.wire.specs.declared.request_error.RequestError.{RequestError}
use Rattle.wire.specs.declared.request_error.RequestError.TheVariants.{Unauthorized, WrongCode}
use Rattle.wire.specs.declared.settings.Gate.{Gate}
use Rattle.wire.specs.declared.settings.HttpSettings.{HttpSettings}
use Rattle.wire.specs.declared.settings.Page.{Page}
use Rattle.wire.specs.declared.settings.Public.{Public}
use Rattle.wire.specs.declared.account.Account.{Account}
use Rattle.wire.specs.declared.account.Account.TheVariants.{Clerk, Office}
use Rattle.wire.specs.declared.authentication.Authentication.{Authentication}
use Rattle.wire.specs.declared.target.Resource.{Resource}
use Rattle.wire.specs.declared.target.Resource.TheVariants as what
use Rattle.wire.specs.declared.target.Target.{Target}
use Rattle.wire.specs.declared.target.Target.TheVariants as target

-- ---- the HTTP settings

-- a page, and its policy, which says what the page may do in a browser
pub record PageEntry : Type 0 where
  pub text : List ℕ
  pub policy : List ℕ

abbrev pub page_entry : Page → PageEntry
page_entry page = record { text = page.text.now; policy = page.policy.now }

-- a gate, which requires codes: the clerks who have one, and the page on which they key; and the office's credentials, if it has a code, and its console
pub record GateEntry : Type 0 where
  pub holders : List Holder
  pub page : PageEntry
  pub office : Option (List ℕ)
  pub console : PageEntry

abbrev pub gate_entry : Gate → GateEntry
gate_entry gate = record { holders = holders_of gate.codes.now; page = page_entry gate.page; office = office_of gate.codes.now; console = page_entry gate.console }

-- what is shown in public: the title of the election, and the page for the screen in the hall
pub record PublicEntry : Type 0 where
  pub title : List ℕ
  pub screen : PageEntry

abbrev pub public_entry : Public → PublicEntry
public_entry public = record { title = public.title.now; screen = page_entry public.screen }

-- the origin of a proxy in front of the server, the gate, and what is shown in public, if any
pub record HttpSettingsEntry : Type 0 where
  pub origin : Option (List ℕ)
  pub gate : Option GateEntry
  pub public : Option PublicEntry

abbrev pub settings_entry : HttpSettings → HttpSettingsEntry
settings_entry settings =
    record { origin = origin_setting settings.origin; gate = option_map gate_entry settings.gate; public = option_map public_entry settings.public }

-- empty settings
abbrev pub no_settings : HttpSettingsEntry
no_settings = record { origin = None; gate = None; public = None }

-- ---- the clerk in a target

-- the number in the first n bytes, if a slash follows
abbrev pub number_before : ℕ → List ℕ → Option ℕ
number_before n text = if slice_index text n == 47 then number_in (take n text) else None

-- the clerk whose number is contained in a target such as `/clerks/4/..`, whether or not anything is served there
abbrev pub clerk_under : List ℕ → Option ℕ
clerk_under target =
    if starts_with nat_eq target (codes "/clerks/") then number_before (prefix_len is_ascii_digit (drop 8 target)) (drop 8 target) else None

-- the account whose code a target requires: the office's for everything under `/office/`, if the office has a code; otherwise that of the clerk whose number is in the
-- target
abbrev pub account_under : Option (List ℕ) → List ℕ → Option Account
account_under office target =
    if starts_with nat_eq target (codes "/office/") then (if is_some office then Some Office else None) else option_map (λ clerk. Clerk clerk) (clerk_under target)

-- the account whose code a target requires at a gate; without a gate, no target requires a code
abbrev pub account_at : Option GateEntry → List ℕ → Option Account
account_at None target = None
account_at (Some gate) target = account_under gate.office target

-- the clerk to whom a resource belongs, if it belongs to one
abbrev pub reader_of : Resource → Option ℕ
reader_of (what.Work clerk) = Some clerk
reader_of (what.Candidates clerk batch) = Some clerk
reader_of (what.Keyed clerk batch) = Some clerk
reader_of (what.Sheet ward) = None
reader_of (what.Declaration ward) = None
reader_of (what.Office read) = None

-- the account whose code a read needs, if any: the clerk's, or the office's
abbrev pub reading_account : Resource → Option Account
reading_account (what.Work clerk) = Some (Clerk clerk)
reading_account (what.Candidates clerk batch) = Some (Clerk clerk)
reading_account (what.Keyed clerk batch) = Some (Clerk clerk)
reading_account (what.Sheet ward) = None
reading_account (what.Declaration ward) = None
reading_account (what.Office read) = Some Office

-- whether a read is served only at a gate; this holds for the candidates of a batch, for a clerk's earlier keying, and for the console's reads
abbrev pub reading_needs_gate : Resource → Bool
reading_needs_gate (what.Work clerk) = false
reading_needs_gate (what.Candidates clerk batch) = true
reading_needs_gate (what.Keyed clerk batch) = true
reading_needs_gate (what.Sheet ward) = false
reading_needs_gate (what.Declaration ward) = false
reading_needs_gate (what.Office read) = true

-- whether a read is served only if the office has a code; this holds for the console's reads
abbrev pub reading_needs_office : Resource → Bool
reading_needs_office (what.Work clerk) = false
reading_needs_office (what.Candidates clerk batch) = false
reading_needs_office (what.Keyed clerk batch) = false
reading_needs_office (what.Sheet ward) = false
reading_needs_office (what.Declaration ward) = false
reading_needs_office (what.Office read) = true

-- whether a target is served only at a gate; this also holds for the pages, the sign-outs and the console's orders
abbrev pub needs_gate : Target → Bool
needs_gate (target.Keying clerk batch) = false
needs_gate (target.Page clerk) = true
needs_gate (target.Leave clerk) = true
needs_gate (target.Resource reading) = reading_needs_gate reading
needs_gate (target.Office place) = true
needs_gate (target.Public what) = false

-- whether a target is served only if the office has a code; this holds for the console and its reads
abbrev pub needs_office : Target → Bool
needs_office (target.Keying clerk batch) = false
needs_office (target.Page clerk) = false
needs_office (target.Leave clerk) = false
needs_office (target.Resource reading) = reading_needs_office reading
needs_office (target.Office place) = true
needs_office (target.Public what) = false

-- whether a target is served only if the settings show something in public
abbrev pub needs_public : Target → Bool
needs_public (target.Keying clerk batch) = false
needs_public (target.Page clerk) = false
needs_public (target.Leave clerk) = false
needs_public (target.Resource reading) = false
needs_public (target.Office place) = false
needs_public (target.Public what) = true

-- the target, if it is served at the given gate, or without one
abbrev pub served_with_gate : Option GateEntry → Option Target → Option Target
served_with_gate gate None = None
served_with_gate None (Some there) = if needs_gate there then None else Some there
served_with_gate (Some gate) (Some there) = if needs_office there && not (is_some gate.office) then None else Some there

-- the target, if it is served, given what is shown in public (if anything)
abbrev pub shown_by : Option PublicEntry → Option Target → Option Target
shown_by public None = None
shown_by public (Some there) = if needs_public there && not (is_some public) then None else Some there

-- the target, if it is served, given the gate and what is shown in public
abbrev pub served_at : Option GateEntry → Option PublicEntry → Option Target → Option Target
served_at gate public there = shown_by public (served_with_gate gate there)

-- ---- what is accepted

-- a value of `Authorization` matches an account's
abbrev pub has_code : GateEntry → Account → List ℕ → Bool
has_code gate (Clerk clerk) value = is_of gate.holders clerk value
has_code gate Office value = is_office gate.office value

-- Why authentication failed, given the values of `Authorization`. It succeeds if there is exactly one value, and that value is the account's.
abbrev pub authentication_failure_by : GateEntry → Account → List (List ℕ) → Option RequestError
authentication_failure_by gate account [] = Some (Unauthorized account)
authentication_failure_by gate account (value ∷ []) = if has_code gate account value then None else Some (WrongCode account)
authentication_failure_by gate account (value ∷ other ∷ more) = Some (WrongCode account)

-- the values of `Authorization`
abbrev pub sent_codes : List NamedValue → List (List ℕ)
sent_codes fields = values_of (codes "authorization") fields

-- why authentication failed, given the account whose code the target needs, if any
abbrev pub authentication_failure : Option GateEntry → Option Account → List NamedValue → Option RequestError
authentication_failure None account fields = None
authentication_failure (Some gate) None fields = None
authentication_failure (Some gate) (Some account) fields = authentication_failure_by gate account (sent_codes fields)

-- ---- authentication

-- the account whose code a request needs, and whether the code it carries is wrong
pub record AuthenticationEntry : Type 0 where
  pub account : Account
  pub is_wrong : Bool

abbrev pub authentication_entry : Authentication → AuthenticationEntry
authentication_entry authentication = record { account = authentication.account; is_wrong = authentication.is_wrong }

-- a code was sent and is wrong
abbrev pub is_wrong_code : Option RequestError → Bool
is_wrong_code None = false
is_wrong_code (Some (WrongCode account)) = true
is_wrong_code (Some other) = false

-- the authentication, at a gate, of a request that requires an account's code
abbrev pub authentication_by : Option GateEntry → Option Account → List NamedValue → Option AuthenticationEntry
authentication_by None account fields = None
authentication_by (Some gate) None fields = None
authentication_by (Some gate) (Some account) fields = Some (record { account = account; is_wrong = is_wrong_code (authentication_failure_by gate account (sent_codes fields)) })

-- the authentication of a request with the given header fields and target; a request from a foreign page has none
abbrev pub authentication_at : HttpSettingsEntry → List NamedValue → List ℕ → Option AuthenticationEntry
authentication_at settings fields target = if is_foreign settings.origin fields then None else authentication_by settings.gate (account_at settings.gate target) fields

-- the authentication of the bytes sent by a client, as determined by their head; without a head there is none
pub record IsAuthentication (settings : HttpSettingsEntry) (bytes : List ℕ) (found : Option AuthenticationEntry) : Type 0 where
  pub headed : (head : RequestHead) (behind : List ℕ) → BeginsWith bytes head behind → found ≡ authentication_at settings (map name_and_value head.fields) head.target
  pub headless : HasNoHead bytes → found ≡ None
