-- Which requests ask for something that is shown in public.
use Rattle.std.specs.Prelude.{◌≡◌, List, None, Some, codes, false, map, ℕ}
use Rattle.httparse.specs.Grammar.{RequestHead}
use Rattle.httparse.specs.Spans.{name_and_value}
use Rattle.wire.specs.Gates.{HttpSettingsEntry, PublicEntry}
use Rattle.wire.specs.Heads.{BeginsWith}
use Rattle.wire.specs.Origins.{is_foreign}
use Rattle.wire.specs.PublicTargets.{IsPublicTarget}
use Rattle.wire.specs.Requests.{Asks, HttpRequestEntry, denied, public, public_at}
use Rattle.wire.specs.declared.public_target.PublicTarget.{PublicTarget}
use Rattle.wire.specs.declared.request_error.RequestError.TheVariants.{NotFound}

-- A request whose target names something that is shown publicly. If the settings show nothing publicly, it is rejected like a request for a target that doesn't
-- exist, whatever its method. Otherwise GET asks for exactly that thing, as the settings define it, with any code or none.
pub record IsAskedInPublic (settings : HttpSettingsEntry) (method : List ℕ) (what : PublicTarget) (asked : HttpRequestEntry) : Type 0 where
  pub hidden : settings.public ≡ None → asked ≡ denied NotFound
  pub own : method ≡ codes "GET" → asked ≡ public_at settings.public what

-- Every request for such a target is of this form; and no other request shows anything in public, nor does any request show it as other settings define it.
pub record AsksInPublic (settings : HttpSettingsEntry) (bytes : List ℕ) : Type 0 where
  pub target : (head : RequestHead) (behind : List ℕ) → BeginsWith bytes head behind → is_foreign settings.origin (map name_and_value head.fields) ≡ false
      → (what : PublicTarget) → IsPublicTarget what head.target → (asked : HttpRequestEntry) → Asks settings bytes asked → IsAskedInPublic settings head.method what asked
  pub shown : (its : PublicEntry) (what : PublicTarget) → Asks settings bytes (public its what) → settings.public ≡ Some its
