-- The settings of a server.
use Rattle.std.specs.Prelude.{Bool, Option, false}
use Rattle.wire.specs.Gates.{HttpSettingsEntry, settings_entry}
use Rattle.server.specs.declared.server_settings.FileNumbers.{FileNumbers}
use Rattle.server.specs.declared.server_settings.ServerSettings.{ServerSettings}

-- The settings: for clients, the origin of a proxy, the gate, and what is shown in public; and the file of the office. Also whether the file is permanently known to be
-- whole, or known not to be, and whether the office has a second record.
pub record ServerSettingsEntry : Type 0 where
  pub clients : HttpSettingsEntry
  pub file : FileNumbers
  pub whole : Option Bool
  pub recorded : Bool

-- the settings of a server that keeps a second record, or keeps none
abbrev pub settings_by : {A : Type 0} → (A → Option Bool) → Bool → ServerSettings A → ServerSettingsEntry
settings_by whole recorded server_settings =
    record { clients = settings_entry server_settings.http; file = server_settings.file; whole = whole server_settings.served_file.now; recorded = recorded }

abbrev pub settings_in : {A : Type 0} → (A → Option Bool) → ServerSettings A → ServerSettingsEntry
settings_in whole server_settings = settings_by whole false server_settings
