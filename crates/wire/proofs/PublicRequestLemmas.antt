-- Requests for what is shown in public.
use Rattle.std.proofs.Common.{◌≡◌, ◌∙◌, ℕ, List, Option, Some, None, Result, Ok, Err, ap, codes, false, inl, inr, map, refl, sym}
use Rattle.std.specs.Prelude.{option_and_then}
use Rattle.httparse.specs.Grammar.{RequestHead}
use Rattle.httparse.specs.Spans.{name_and_value}
use Rattle.wire.specs.Bodies.{KeyingEntry, body_in, keying_of}
use Rattle.wire.specs.ConsoleOrders.{ConsoleOrderEntry, order_of}
use Rattle.wire.specs.Gates.{GateEntry, HttpSettingsEntry, PublicEntry, account_at, authentication_failure, served_at, shown_by}
use Rattle.wire.specs.Heads.{BeginsWith}
use Rattle.wire.specs.Lengths.{NamedValue, body_length}
use Rattle.wire.specs.Origins.{is_foreign}
use Rattle.wire.specs.PublicRequests.{AsksInPublic, IsAskedInPublic}
use Rattle.wire.specs.PublicTargets.{IsPublicTarget}
use Rattle.wire.specs.Requests.{Asks, HttpRequestEntry, asked_for, asked_in, asked_of, console, denied, keying, let_in, order, ordered_in, public, public_at, reading, shown}
use Rattle.wire.specs.Requests.{wanted_after}
use Rattle.wire.specs.Targets.{named_by}
use Rattle.wire.specs.declared.public_target.PublicTarget.{PublicTarget}
use Rattle.wire.specs.declared.public_target.PublicTarget.TheVariants.{Index, Screen, Wards, Page}
use Rattle.wire.specs.declared.request_error.RequestError.{RequestError}
use Rattle.wire.specs.declared.request_error.RequestError.TheVariants.{NotFound}
use Rattle.wire.specs.declared.target.OfficeTarget.TheVariants as office
use Rattle.wire.specs.declared.target.Target.{Target}
use Rattle.wire.specs.declared.target.Target.TheVariants as target
use Rattle.wire.proofs.PublicTargetLemmas.{public-named}
use Rattle.wire.proofs.RequestLemmas.{DependsOnOwnBytes-all}

-- ---- the target

-- the target is under no clerk's number, so it needs no code
no-account : (gate : Option GateEntry) (path : List ℕ) (what : PublicTarget) → IsPublicTarget what path → account_at gate path ≡ None
no-account None path what is = refl
no-account (Some gate) path Index is = ap (account_at (Some gate)) is
no-account (Some gate) path Screen is = ap (account_at (Some gate)) is
no-account (Some gate) path Wards is = ap (account_at (Some gate)) is
no-account (Some gate) path (Page n) (part, is, own) = ap (account_at (Some gate)) is

-- the target is served with any gate, and without one, if something is shown in public
let-in : (gate : Option GateEntry) (hall : Option PublicEntry) (fields : List NamedValue) (method : List ℕ) (what : PublicTarget)
    → let_in (authentication_failure gate None fields) method (served_at gate hall (Some (target.Public what))) ≡ asked_for method (shown_by hall (Some (target.Public what)))
let-in None hall fields method what = refl
let-in (Some gate) hall fields method what = refl

wanted-there : (gate : Option GateEntry) (hall : Option PublicEntry) (fields : List NamedValue) (method path : List ℕ) (what : PublicTarget) → IsPublicTarget what path
    → wanted_after gate hall fields method path ≡ asked_for method (shown_by hall (Some (target.Public what)))
wanted-there gate hall fields method path what is =
    ap (λ account. let_in (authentication_failure gate account fields) method (served_at gate hall (named_by path))) (no-account gate path what is)
    ∙ ap (λ (there : Option Target). let_in (authentication_failure gate None fields) method (served_at gate hall there)) (public-named path what is)
    ∙ let-in gate hall fields method what

-- ---- what is requested at such a target

module _ (gate : Option GateEntry) (hall : Option PublicEntry) (what : PublicTarget) (size : Result ℕ RequestError) (behind : List ℕ) where
  abbrev asked-there : List ℕ → Option PublicEntry → HttpRequestEntry
  asked-there method shows = asked_of gate shows (asked_for method (shown_by shows (Some (target.Public what)))) size behind

  hidden-there : (method : List ℕ) → hall ≡ None → asked-there method hall ≡ denied NotFound
  hidden-there method none = ap (asked-there method) none

  got : (shows : Option PublicEntry) → asked-there (codes "GET") shows ≡ public_at shows what
  got None = refl
  got (Some its) = refl

  own-there : (method : List ℕ) → method ≡ codes "GET" → asked-there method hall ≡ public_at hall what
  own-there method is = ap (λ m. asked-there m hall) is ∙ got hall

-- ---- under which settings something is shown

-- the settings that define what is shown in public, if any of it is requested
abbrev shown_of : HttpRequestEntry → Option PublicEntry
shown_of (denied why) = None
shown_of (shown clerk show) = None
shown_of (keying clerk batch entry) = None
shown_of (reading what) = None
shown_of (console show) = None
shown_of (order entry) = None
shown_of (public its what) = Some its

shown-keying : (clerk batch : ℕ) (entry : Option KeyingEntry) → shown_of (asked_in clerk batch entry) ≡ None
shown-keying clerk batch None = refl
shown-keying clerk batch (Some entry) = refl

shown-order : (entry : Option ConsoleOrderEntry) → shown_of (ordered_in entry) ≡ None
shown-order None = refl
shown-order (Some entry) = refl

nothing-shown : (found : Option PublicEntry) (its : PublicEntry) → found ≡ None → found ≡ Some its → ⊥
nothing-shown found its none is = let no : None ≡ Some its = sym none ∙ is in cc no

shown-by-settings : (gate : Option GateEntry) (hall : Option PublicEntry) (there : Result Target RequestError) (size : Result ℕ RequestError) (behind : List ℕ) (its : PublicEntry)
    → shown_of (asked_of gate hall there size behind) ≡ Some its → hall ≡ Some its
shown-by-settings gate hall (Err why) size behind its is = let no : ⊥ = cc in absurd no
shown-by-settings gate hall (Ok (target.Keying clerk batch)) (Err why) behind its is = let no : ⊥ = cc in absurd no
shown-by-settings gate hall (Ok (target.Keying clerk batch)) (Ok n) behind its is =
    absurd (nothing-shown _ its (shown-keying clerk batch (option_and_then keying_of (body_in n behind))) is)
shown-by-settings None hall (Ok (target.Page clerk)) size behind its is = let no : ⊥ = cc in absurd no
shown-by-settings (Some gate) hall (Ok (target.Page clerk)) size behind its is = let no : ⊥ = cc in absurd no
shown-by-settings gate hall (Ok (target.Leave clerk)) size behind its is = let no : ⊥ = cc in absurd no
shown-by-settings gate hall (Ok (target.Resource what)) size behind its is = let no : ⊥ = cc in absurd no
shown-by-settings None hall (Ok (target.Office office.ConsolePage)) size behind its is = let no : ⊥ = cc in absurd no
shown-by-settings (Some gate) hall (Ok (target.Office office.ConsolePage)) size behind its is = let no : ⊥ = cc in absurd no
shown-by-settings gate hall (Ok (target.Office office.Leave)) size behind its is = let no : ⊥ = cc in absurd no
shown-by-settings gate hall (Ok (target.Office office.Orders)) (Err why) behind its is = let no : ⊥ = cc in absurd no
shown-by-settings gate hall (Ok (target.Office office.Orders)) (Ok n) behind its is =
    absurd (nothing-shown _ its (shown-order (option_and_then order_of (body_in n behind))) is)
shown-by-settings gate None (Ok (target.Public what)) size behind its is = let no : ⊥ = cc in absurd no
shown-by-settings gate (Some shows) (Ok (target.Public what)) size behind its is = is

-- ---- for any bytes

pub AsksInPublic-all : (settings : HttpSettingsEntry) (bytes : List ℕ) → AsksInPublic settings bytes
AsksInPublic-all settings bytes = record { target = at; shown = by }
  where
    at : (head : RequestHead) (behind : List ℕ) → BeginsWith bytes head behind → is_foreign settings.origin (map name_and_value head.fields) ≡ false
        → (what : PublicTarget) → IsPublicTarget what head.target → (asked : HttpRequestEntry) → Asks settings bytes asked → IsAskedInPublic settings head.method what asked
    at head behind begins own what is asked asks =
        let fields = map name_and_value head.fields in
        let so = DependsOnOwnBytes-all settings bytes head behind begins own asked asks
        ∙ ap (λ (there : Result Target RequestError). asked_of settings.gate settings.public there (body_length fields) behind)
        (wanted-there settings.gate settings.public fields head.method head.target what is) in
        record {
          hidden = λ none. so ∙ hidden-there settings.gate settings.public what (body_length fields) behind head.method none;
          own = λ got. so ∙ own-there settings.gate settings.public what (body_length fields) behind head.method got;
        }

    by : (its : PublicEntry) (what : PublicTarget) → Asks settings bytes (public its what) → settings.public ≡ Some its
    by its what (inl (none, is)) = absurd (cc is)
    by its what (inr (head, behind, begins, is)) =
        shown-by-settings settings.gate settings.public _ (body_length (map name_and_value head.fields)) behind its (sym (ap shown_of is))
