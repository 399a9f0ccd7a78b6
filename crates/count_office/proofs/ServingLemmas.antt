-- The outcome of the order to serve, after its office was opened.
use Rattle.std.proofs.Common.{◌≡◌, ◌∙◌, ◌⊎◌, ap, inl, inr, refl, subst, sym, ℕ, List}
use Rattle.std.specs.Prelude.{Bool, IfSome, Option, Result, option_map}
use Rattle.sqlite.specs.Held.{Held}
use Rattle.connections.specs.Streams.{Stream}
use Rattle.connections.specs.Tables.{NetworkEntry}
use Rattle.office.specs.Values.{OfficeValue}
use Rattle.wire.specs.Gates.{PublicEntry}
use Rattle.wire.specs.Origins.{origin_setting}
use Rattle.desk.specs.declared.lines.Failure.{Failure}
use Rattle.server.specs.RecordChanges.{ServedView}
use Rattle.server.specs.Settings.{ServerSettingsEntry}
use Rattle.server.specs.declared.serve_error.ServeError.{ServeError}
use Rattle.server.specs.declared.server_settings.FileNumbers.{FileNumbers}
use Rattle.count_office.specs.Hosts.{CodeFiles}
use Rattle.count_office.specs.Serving.{IsGateFor, AreSettingsFor, IsOpenedFrom, IsServed, IsShut, IsElsewhereSame, MayServe, ServesAtNetwork, TellsOutcome, gate_at, settings_with}
use Rattle.count_office.specs.Serving.{outcome_by, path_in, public_in}
use Rattle.count_office.specs.declared.gate.GateFiles.{GateFiles}
use Rattle.count_office.specs.declared.serving.Serving.{Serving}

-- the settings consist of the given origin, gate and file, of what is shown in public, and of whether there is a second record
abbrev pub IsGivenBy : Serving → Option GateFiles → Option FileNumbers → Bool → ServerSettingsEntry → Type 0
IsGivenBy serving gate_files numbers recorded settings =
    (settings ≡ settings_with (origin_setting serving.origin) (option_map gate_at gate_files) (public_in serving) settings.file settings.whole recorded)
    × IfSome numbers (λ known. settings.file ≡ known)

given_for : (serving : Serving) (codes_at : CodeFiles) (gate_files : Option GateFiles) (numbers : Option FileNumbers) (recorded : Bool) (settings : ServerSettingsEntry)
    → IsGateFor codes_at (path_in serving) (option_map gate_at gate_files) → IsGivenBy serving gate_files numbers recorded settings → AreSettingsFor serving codes_at numbers recorded settings
given_for serving codes_at gate_files numbers recorded settings gate (is, file) = record {
  origin = ap (λ (g : ServerSettingsEntry). g.clients.origin) is;
  gate = subst (IsGateFor codes_at (path_in serving)) (sym (ap (λ (g : ServerSettingsEntry). g.clients.gate) is)) gate;
  public = ap (λ (g : ServerSettingsEntry). g.clients.public) is;
  file = file;
  recorded = ap (λ (g : ServerSettingsEntry). g.recorded) is;
}

-- the office was served on a network that was opened on a port and closed again
pub served_on : {L S R : Type 0} (serving : Serving) (gate_files : Option GateFiles) (public : Option PublicEntry) (numbers : Option FileNumbers) (file : FileNumbers) (whole : Option Bool)
    (recorded : Bool) (stream : Stream L) (view : ServedView S R)
    (before opened later : ℕ → NetworkEntry L) (first last : NetworkEntry L) (old new : OfficeValue S) (recorder : R) (ends : Result (Unit {0}) ServeError) (recorder_later : R)
    → opened ≡ before → first ≡ before serving.port → later serving.port ≡ last → IsElsewhereSame serving.port opened later → IfSome numbers (λ known. file ≡ known)
    → public ≡ public_in serving
    → ServesAtNetwork (settings_with (origin_setting serving.origin) (option_map gate_at gate_files) public file whole recorded) stream view first last serving.connections old new recorder ends
    recorder_later
    → MayServe (IsGivenBy serving gate_files numbers recorded) stream view serving.port before later serving.connections old new recorder (outcome_by ends) recorder_later
served_on serving gate_files public numbers file whole recorded stream view before opened later first last old new recorder ends recorder_later same began closed elsewhere is_file shown given =
    let settings = settings_with (origin_setting serving.origin) (option_map gate_at gate_files) (public_in serving) file whole recorded in
    let by = λ (its : Option PublicEntry). ServesAtNetwork (settings_with (origin_setting serving.origin) (option_map gate_at gate_files) its file whole recorded) stream view first last
    serving.connections old new recorder ends recorder_later in
    let served = subst by shown given in
    let at = λ (one other : NetworkEntry _). ServesAtNetwork settings stream view one other serving.connections old new recorder ends recorder_later in
    inr (
      settings,
      ends,
      (refl, is_file),
      subst (λ (one : NetworkEntry _). at one (later serving.port)) began (subst (at first) (sym closed) served),
      (λ other apart. elsewhere other apart ∙ ap (λ (known : ℕ → NetworkEntry _). known other) same),
      refl,
    )

-- the network couldn't be opened, or the office was served
pub shut_or_served : {L S R : Type 0} (Tells : List ℕ → ℕ → ℕ → Type 0) (Quiet : Type 0) (status : ℕ) (serving : Serving) (codes_at : CodeFiles) (gate_files : Option GateFiles)
    (numbers : Option FileNumbers) (recorded : Bool) (stream : Stream L) (view : ServedView S R) (before later : ℕ → NetworkEntry L) (conn : Held S) (office last : OfficeValue S)
    (recorder : R) (outcome : Result (Unit {0}) Failure) (recorder_later : R)
    → IsOpenedFrom view.state_of conn office → IsGateFor codes_at (path_in serving) (option_map gate_at gate_files)
    → MayServe (IsGivenBy serving gate_files numbers recorded) stream view serving.port before later serving.connections office last recorder outcome recorder_later
    → TellsOutcome Tells Quiet status outcome
    → IsShut Tells status view.state_of before later conn last.held recorder recorder_later
    ⊎ IsServed Tells Quiet status (AreSettingsFor serving codes_at numbers recorded) stream view serving.port before later serving.connections conn last.held recorder recorder_later
shut_or_served Tells Quiet status serving codes_at gate_files numbers recorded stream view before later conn office last recorder outcome recorder_later opened gate
    (inl (why, is, nobody, stays, same)) told = inl (record {
      office = office;
      opened = opened;
      why = why;
      told = subst (TellsOutcome Tells Quiet status) is told;
      nobody = nobody;
      same = ap (λ (o : OfficeValue _). o.held) stays;
      same_record = same;
    })
shut_or_served Tells Quiet status serving codes_at gate_files numbers recorded stream view before later conn office last recorder outcome recorder_later opened gate
    (inr (settings, ends, are_settings, at_network, elsewhere, is)) told = inr (record {
      office = office;
      opened = opened;
      settings = settings;
      are_settings = given_for serving codes_at gate_files numbers recorded settings gate are_settings;
      closed = last.closed;
      ends = ends;
      told = subst (TellsOutcome Tells Quiet status) is told;
      at_network = at_network;
      elsewhere = elsewhere;
      keeps = λ clean db rests earlier left. let at = (opened.at (at_network.clean clean) db rests _ left).at in
          (at_network.serves.keeps clean opened.is_open earlier at, at_network.serves.recorded clean opened.is_open earlier at);
    })
