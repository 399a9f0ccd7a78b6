-- Serving an office on a host: its settings, and the outcome of the order to serve.
use Rattle.std.specs.Prelude.{◌≡◌, ◌≢◌, ◌⊎◌, ℕ, Bool, true, false, List, IfSome, None, Option, Some, Result, Ok, Err, option_map, string_bytes}
use Rattle.sqlite.specs.Effect.{Database}
use Rattle.sqlite.specs.Held.{Held}
use Rattle.sqlite.specs.State.{HasCleanDisk, State}
use Rattle.codes.specs.Codes.{holders_of, office_of}
use Rattle.codes.specs.declared.fault.CodesError.{CodesError}
use Rattle.codes.specs.declared.fault.CodesError.TheVariants as read_error
use Rattle.codes.specs.declared.holders.Codes.{Codes}
use Rattle.connections.specs.Streams.{Stream}
use Rattle.connections.specs.Tables.{NetworkEntry}
use Rattle.keying_page.specs.Page.{page_text, policy_text}
use Rattle.console_page.specs.Page.{page_text as console_text, policy_text as console_policy}
use Rattle.screen_page.specs.Page.{page_text as screen_text, policy_text as screen_policy}
use Rattle.register.specs.Machine.{after}
use Rattle.register.specs.Offices.{OfficeState, empty_office}
use Rattle.register.specs.declared.command.Request.{Request}
use Rattle.mending.specs.Accounts.{IsMended}
use Rattle.mending.specs.Mending.{mended}
use Rattle.mending.specs.declared.changes.Changes.{Changes}
use Rattle.tables.specs.Contents.{RestsAt}
use Rattle.tables.specs.Presence.{IsOurs}
use Rattle.tables.specs.Reading.{FailsBy, OnlyReads}
use Rattle.tables.specs.declared.fault.Fault.{Fault}
use Rattle.tables.specs.declared.fault.Fault.TheVariants as fault
use Rattle.store.specs.Openings.{IsLeftAt, IsFaultOf}
use Rattle.office.specs.Answers.{IsOpenAt}
use Rattle.office.specs.Values.{OfficeValue}
use Rattle.wire.specs.Gates.{GateEntry, PageEntry, PublicEntry, public_entry}
use Rattle.wire.specs.Origins.{origin_setting}
use Rattle.desk.specs.Pages.{Page, codes_page, failed}
use Rattle.desk.specs.declared.lines.Failure.{Failure}
use Rattle.desk.specs.declared.lines.Failure.TheVariants.{Office, Output}
use Rattle.server.specs.Servers.{IsEndedBy, ServesRecorded, view_without_record}
use Rattle.server.specs.Settings.{ServerSettingsEntry}
use Rattle.server.specs.Exchanges.{KeepsExchanges, KeepsInRecord}
use Rattle.server.specs.RecordChanges.{ServedView, change_in, served_view}
use Rattle.server.specs.declared.serve_error.ServeError.{ServeError}
use Rattle.server.specs.declared.serve_error.ServeError.TheVariants as ended
use Rattle.server.specs.declared.server_settings.FileNumbers.{FileNumbers}
use Rattle.count_office.specs.Hosts.{CodeFiles, IsReadAs}
use Rattle.count_office.specs.Records.{has_failed, left_here}
use Rattle.count_office.specs.declared.gate.GateFiles.{GateFiles}
use Rattle.count_office.specs.declared.public.PublicTexts.{PublicTexts}
use Rattle.count_office.specs.declared.serving.Serving.{Serving}
use Rattle.count_office.specs.declared.serving.ServeSettings.{ServeSettings}

-- ---- the settings of the office

-- a gate with the given codes, the page on which clerks key, and the console
abbrev pub gate_with : Codes → PageEntry → PageEntry → GateEntry
gate_with own page console = record { holders = holders_of own; page = page; office = office_of own; console = console }

-- a page with its policy
abbrev pub page_with : List ℕ → List ℕ → PageEntry
page_with text policy = record { text = text; policy = policy }

-- the gate made from the given files
abbrev pub gate_at : GateFiles → GateEntry
gate_at gate_files =
    gate_with gate_files.codes (page_with (string_bytes gate_files.page) (string_bytes gate_files.policy))
    (page_with (string_bytes gate_files.console) (string_bytes gate_files.console_policy))

-- The gate: none if no file of codes is named; otherwise the codes that were read from that file, the page on which clerks key, and the officer's console.
abbrev pub IsGateFor : CodeFiles → Option (List ℕ) → Option GateEntry → Type 0
IsGateFor codes_at None gate = gate ≡ None
IsGateFor codes_at (Some path) gate = (own : Codes) × IsReadAs (codes_at path) (Ok own)
    × (gate ≡ Some (gate_with own (page_with page_text policy_text) (page_with console_text console_policy)))

-- why there is no gate even though a file is named: its codes couldn't be read
abbrev pub IsUngated : CodeFiles → Option (List ℕ) → CodesError → Type 0
IsUngated codes_at None why = ⊥
IsUngated codes_at (Some path) why = IsReadAs (codes_at path) (Err why)

-- the path of the file of codes that is named
abbrev pub path_in : Serving → Option (List ℕ)
path_in serving = option_map (λ path. path.now) serving.codes

-- what is shown in public under a given title; the page for the screen in the hall is always the same
abbrev pub public_with : List ℕ → PublicEntry
public_with title = record { title = title; screen = page_with screen_text screen_policy }

-- what is shown in public, made from the given texts
abbrev pub public_at : PublicTexts → PublicEntry
public_at texts = record { title = texts.title.now; screen = page_with (string_bytes texts.screen) (string_bytes texts.policy) }

-- what the order to serve shows in public: nothing without a title
abbrev pub public_in : Serving → Option PublicEntry
public_in serving = option_map (λ title. public_with title.now) serving.public

-- the settings, given an origin, a gate, what is shown in public, a file, whether that file is permanently known to be whole, and whether there is a second record
abbrev pub settings_with : Option (List ℕ) → Option GateEntry → Option PublicEntry → FileNumbers → Option Bool → Bool → ServerSettingsEntry
settings_with origin gate public file whole recorded =
    record { clients = record { origin = origin; gate = gate; public = public }; file = file; whole = whole; recorded = recorded }

-- the settings of the server
abbrev pub server_settings_of : ServeSettings → Option Bool → Bool → ServerSettingsEntry
server_settings_of settings whole recorded =
    settings_with (origin_setting settings.serving.origin) (option_map gate_at settings.gate_files.now) (option_map public_entry settings.public) settings.file whole recorded

-- The settings for the order to serve: the origin that the order names, the gate for the file of codes that it names, what it shows in public, the file of the office,
-- and whether there is a second record.
pub record AreSettingsFor (serving : Serving) (codes_at : CodeFiles) (numbers : Option FileNumbers) (has_record : Bool) (settings : ServerSettingsEntry) : Type 0 where
  pub origin : settings.clients.origin ≡ origin_setting serving.origin
  pub gate : IsGateFor codes_at (path_in serving) settings.clients.gate
  pub public : settings.clients.public ≡ public_in serving
  pub file : IfSome numbers (λ known. settings.file ≡ known)
  pub recorded : settings.recorded ≡ has_record

-- ---- an open office on a network

-- An open office was served on a network, with the given result. The office and its second record, if there is one, are as specified.
pub record ServesAtNetwork {L S R : Type 0} (settings : ServerSettingsEntry) (stream : Stream L) (view : ServedView S R) (before later : NetworkEntry L) (most : Option ℕ)
    (old new : OfficeValue S) (recorder : R) (ends : Result (Unit {0}) ServeError) (recorder_later : R) : Type 0 where
  pub serves : ServesRecorded settings stream view before later most old new recorder ends recorder_later
  pub ended : IsEndedBy before later ends
  pub closed : old.closed ≡ true → new ≡ old
  pub clean : HasCleanDisk (view.state_of new.held) → HasCleanDisk (view.state_of old.held)

-- the failure to print for a result; there is none if a new office took the place of the one that was served
abbrev pub outcome_by : Result (Unit {0}) ServeError → Result (Unit {0}) Failure
outcome_by (Ok end) = Ok end
outcome_by (Err ended.Moved) = Ok tt
outcome_by (Err ended.Memory) = Err (Office fault.Memory)
outcome_by (Err ended.Network) = Err Output
outcome_by (Err ended.Rounds) = Err Output

-- no connection was accepted or closed on any other port
abbrev pub IsElsewhereSame : {L : Type 0} → ℕ → (ℕ → NetworkEntry L) → (ℕ → NetworkEntry L) → Type 0
IsElsewhereSame port before later = (other : ℕ) → other ≢ port → later other ≡ before other

-- The network on a port couldn't be opened, or an allocation failed: no connection was accepted, and the office and its record are as they were. Or the office was
-- served on that port, with the given settings, and on no other port.
abbrev pub MayServe : {L S R : Type 0} → (ServerSettingsEntry → Type 0) → Stream L → ServedView S R → ℕ → (ℕ → NetworkEntry L) → (ℕ → NetworkEntry L) → Option ℕ
    → OfficeValue S → OfficeValue S → R → Result (Unit {0}) Failure → R → Type 0
MayServe AreSettings stream view port before later most old new recorder outcome recorder_later =
    ((failure : Failure) × (outcome ≡ Err failure) × (later ≡ before) × (new ≡ old) × (recorder_later ≡ recorder))
    ⊎ ((settings : ServerSettingsEntry) × (ends : Result (Unit {0}) ServeError) × AreSettings settings
    × ServesAtNetwork settings stream view (before port) (later port) most old new recorder ends recorder_later × IsElsewhereSame port before later × (outcome ≡ outcome_by ends))

-- ---- the order to serve

-- why codes were refused or weren't made
abbrev pub untaken : CodesError → Page
untaken read_error.Memory = failed (Office fault.Memory)
untaken (read_error.Fault why) = codes_page why

-- what is printed to the error output for an outcome, and the status: nothing and 0, or the failure and 3
abbrev pub TellsOutcome : (List ℕ → ℕ → ℕ → Type 0) → Type 0 → ℕ → Result (Unit {0}) Failure → Type 0
TellsOutcome Tells Quiet status (Ok end) = Quiet × (status ≡ 0)
TellsOutcome Tells Quiet status (Err failure) = Tells (failed failure).err 3 status

-- The codes couldn't be read: no connection was accepted, and the connection to the database and the record are unchanged.
pub record IsUnread {L S R : Type 0} (Tells : List ℕ → ℕ → ℕ → Type 0) (status : ℕ) (serving : Serving) (codes_at : CodeFiles) (before later : ℕ → NetworkEntry L) (old new : Held S)
    (recorder recorder_later : R) : Type 0 where
  pub why : CodesError
  pub unread : IsUngated codes_at (path_in serving) why
  pub told : Tells (untaken why).err (untaken why).status status
  pub nobody : later ≡ before
  pub same : new ≡ old
  pub same_record : recorder_later ≡ recorder

-- The office couldn't be opened: no connection was accepted, and the database and the record are unchanged. The fault is one that opening can fail with in that state.
pub record IsUnopened {L S R : Type 0} (Tells : List ℕ → ℕ → ℕ → Type 0) (status : ℕ) (state_of : Held S → State) (before later : ℕ → NetworkEntry L) (old new : Held S)
    (recorder recorder_later : R) : Type 0 where
  pub why : Fault
  pub told : Tells (failed (Office why)).err 3 status
  pub nobody : later ≡ before
  pub reads : OnlyReads (state_of old) (state_of new)
  pub is : HasCleanDisk (state_of new) → (db : Database) → IsOurs db.schema → RestsAt db (state_of old) → IsFaultOf db why
  pub cause : HasCleanDisk (state_of new) → (db : Database) → RestsAt db (state_of old) → (s : OfficeState) → IsLeftAt s db → FailsBy (state_of old) (state_of new) why
  pub same_record : recorder_later ≡ recorder

-- The office on the given connection was opened, in the state that its database had, and nothing changed.
pub record IsOpenedFrom {S : Type 0} (state_of : Held S → State) (conn : Held S) (office : OfficeValue S) : Type 0 where
  pub is_open : office.closed ≡ false
  pub reads : OnlyReads (state_of conn) (state_of office.held)
  pub at : HasCleanDisk (state_of office.held) → (db : Database) → RestsAt db (state_of conn) → (s : OfficeState) → IsLeftAt s db → IsOpenAt s office.closed (state_of office.held)

-- The office was opened, but its network couldn't be opened: no connection was accepted, and the office and its record are as they were when the office was opened.
pub record IsShut {L S R : Type 0} (Tells : List ℕ → ℕ → ℕ → Type 0) (status : ℕ) (state_of : Held S → State) (before later : ℕ → NetworkEntry L) (old new : Held S)
    (recorder recorder_later : R) : Type 0 where
  pub office : OfficeValue S
  pub opened : IsOpenedFrom state_of old office
  pub why : Failure
  pub told : Tells (failed why).err 3 status
  pub nobody : later ≡ before
  pub same : new ≡ office.held
  pub same_record : recorder_later ≡ recorder

-- The office was opened, and served on its network with the given settings. If the database had the state after earlier requests, what is kept of those and of the
-- requests that arrived is as specified; and so is what its second record keeps, if that led to the same state.
pub record IsServed {L S R : Type 0} (Tells : List ℕ → ℕ → ℕ → Type 0) (Quiet : Type 0) (status : ℕ) (AreSettings : ServerSettingsEntry → Type 0) (stream : Stream L) (view : ServedView S R)
    (port : ℕ) (before later : ℕ → NetworkEntry L) (most : Option ℕ) (old new : Held S) (recorder recorder_later : R) : Type 0 where
  pub office : OfficeValue S
  pub opened : IsOpenedFrom view.state_of old office
  pub settings : ServerSettingsEntry
  pub are_settings : AreSettings settings
  pub closed : Bool
  pub ends : Result (Unit {0}) ServeError
  pub told : TellsOutcome Tells Quiet status (outcome_by ends)
  pub at_network : ServesAtNetwork settings stream view (before port) (later port) most office (record { held = new; closed = closed }) recorder ends recorder_later
  pub elsewhere : IsElsewhereSame port before later
  pub keeps : HasCleanDisk (view.state_of new) → (db : Database) → RestsAt db (view.state_of old) → (earlier : List Request) → IsLeftAt (after empty_office earlier) db
      → (kept : KeepsExchanges view.state_of settings earlier at_network.serves.exchanges closed (view.state_of new))
      × KeepsInRecord (change_in view recorder recorder_later) closed earlier kept.answered kept.last

-- The outcome of the order to serve, with a recorder: the codes couldn't be read, or the office or its network couldn't be opened; or the office was served.
abbrev pub ServesOrder : {L S R : Type 0} → (List ℕ → ℕ → ℕ → Type 0) → Type 0 → ℕ → Serving → CodeFiles → Option FileNumbers → Bool → Stream L → ServedView S R
    → (ℕ → NetworkEntry L) → (ℕ → NetworkEntry L) → Held S → Held S → R → R → Type 0
ServesOrder Tells Quiet status serving codes_at file recorded stream view before later old new recorder recorder_later =
    (IsUnread Tells status serving codes_at before later old new recorder recorder_later ⊎ IsUnopened Tells status view.state_of before later old new recorder recorder_later)
    ⊎ (IsShut Tells status view.state_of before later old new recorder recorder_later
    ⊎ IsServed Tells Quiet status (AreSettingsFor serving codes_at file recorded) stream view serving.port before later serving.connections old new recorder recorder_later)

-- ---- with or without the file of a second record

-- The order to serve with a second record in a file, given which texts a stop may leave of a record, and whether it failed. The record couldn't be begun: no connection was
-- accepted, the office was only read, and the status isn't 0. Or it was begun, and the order was performed with it, on the office as it was read.
abbrev pub ServesInRecord : {L S R : Type 0} → (R → List ℕ → Type 0) → (R → Bool) → (List ℕ → ℕ → ℕ → Type 0) → Type 0 → ℕ → Serving → CodeFiles → Option FileNumbers → Stream L
    → (Held S → State) → (ℕ → NetworkEntry L) → (ℕ → NetworkEntry L) → Held S → Held S → Type 0
ServesInRecord {L} {S} {R} found has_failed Tells Quiet status serving codes_at file stream state_of before later old new =
    ((later ≡ before) × OnlyReads (state_of old) (state_of new) × (status ≢ 0))
    ⊎ ((read : Held S) × (recorder : R) × (recorder_later : R) × OnlyReads (state_of old) (state_of read) × (has_failed recorder ≡ false)
    × ServesOrder Tells Quiet status serving codes_at file true stream (served_view state_of found has_failed) before later read new recorder recorder_later)

-- The order to serve, with the file of a second record or without one.
abbrev pub ServesWith : {Path L S : Type 0} → Option Path → (List ℕ → ℕ → ℕ → Type 0) → Type 0 → ℕ → Serving → CodeFiles → Option FileNumbers → Stream L → (Held S → State)
    → (ℕ → NetworkEntry L) → (ℕ → NetworkEntry L) → Held S → Held S → Type 0
ServesWith None Tells Quiet status serving codes_at file stream state_of before later old new =
    ServesOrder Tells Quiet status serving codes_at file false stream (view_without_record state_of) before later old new (record {}) (record {})
ServesWith (Some path) Tells Quiet status serving codes_at file stream state_of before later old new =
    ServesInRecord left_here has_failed Tells Quiet status serving codes_at file stream state_of before later old new

-- ---- an office that takes the place of another

-- Two lists are kept, one after the other. The first is that of the old office, up to the switch: `keeps` of IsServed says what is kept of it. The second is that of the
-- new office: the list that mending the first one made, followed by what the new office accepts. If the new office was opened in a database that has the state to which
-- the mended list leads, what is kept of both parts of it is as specified. That the database has this state, in which it was made, is a premise.
abbrev pub MendedIsKept : {L S R : Type 0} → Stream L → ServedView S R → Type 0
MendedIsKept {L} {S} {R} stream view =
    (changes : Changes) → IsMended changes (mended changes) → (db : Database) (conn : Held S) (old new : OfficeValue S) → RestsAt db (view.state_of conn)
    → IsLeftAt (mended changes).state db → IsOpenedFrom view.state_of conn old → (settings : ServerSettingsEntry) (before later : NetworkEntry L) (most : Option ℕ)
    (ends : Result (Unit {0}) ServeError) (recorder recorder_later : R)
    (at_network : ServesAtNetwork settings stream view before later most old new recorder ends recorder_later)
    → HasCleanDisk (view.state_of new.held) → KeepsExchanges view.state_of settings (mended changes).sent at_network.serves.exchanges new.closed (view.state_of new.held)
