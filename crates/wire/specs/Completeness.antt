-- Whether the bytes received so far make a complete request.
use Rattle.std.specs.Prelude.{◌<◌, ◌++◌, List, length, ℕ}
use Rattle.wire.specs.Requests.{HttpRequestEntry, Asks, IsIncomplete}
use Rattle.wire.specs.Gates.{HttpSettingsEntry}
use Rattle.wire.specs.declared.completeness.Completeness.{Completeness}
use Rattle.wire.specs.declared.completeness.Completeness.TheVariants.{Complete, AtLeast}

-- what the bytes ask for doesn't depend on what follows them
abbrev pub IsWhole : HttpSettingsEntry → List ℕ → Type 0
IsWhole settings got = (more : List ℕ) (asked : HttpRequestEntry) → Asks settings got asked → Asks settings (got ++ more) asked

-- no extension of the bytes to fewer than the given total determines what is requested
abbrev pub IsShortOf : HttpSettingsEntry → List ℕ → ℕ → Type 0
IsShortOf settings got least = (more : List ℕ) → length (got ++ more) < least → IsIncomplete settings (got ++ more)

-- The bytes are a complete request; or they don't yet determine what is requested, and neither does any extension of them to fewer bytes than the given total.
abbrev pub IsCompletenessOf : HttpSettingsEntry → List ℕ → Completeness → Type 0
IsCompletenessOf settings got Complete = IsWhole settings got
IsCompletenessOf settings got (AtLeast least) = IsIncomplete settings got × (length got < least) × IsShortOf settings got least
