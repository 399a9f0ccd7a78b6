-- The outcome of an order to mend: a new office from the journal of another, with some orders left out and others replaced.
use Rattle.std.specs.Prelude.{◌≡◌, ◌≢◌, ◌⊎◌, ◌++◌, List, [], codes, if◌then◌else◌, length, map, string_bytes}
use Rattle.std.specs.List.{flat_map, list_any}
use Rattle.std.specs.Str.{bytes_eq}
use Rattle.clap.specs.Words.{Text}
use Rattle.sqlite.specs.Held.{Held}
use Rattle.sqlite.specs.State.{HasCleanDisk, State}
use Rattle.register.specs.Offices.{OfficeState}
use Rattle.register.specs.declared.command.Request.{Request}
use Rattle.tables.specs.declared.fault.Fault.TheVariants.{Memory}
use Rattle.store.specs.Copies.{LeavesNoneOrAll}
use Rattle.store.specs.Openings.{IsBlank}
use Rattle.store.specs.Overviews.{ward_views}
use Rattle.store.specs.StateTables.{IsAt}
use Rattle.office.specs.Answers.{IsReadAt, WhenOpenAt}
use Rattle.office.specs.Runs.{LeadTo}
use Rattle.office.specs.Values.{OfficeValue}
use Rattle.mending.specs.Changes.{CanBeMade, IsFlawOf, names_of}
use Rattle.mending.specs.Accounts.{IsMended}
use Rattle.mending.specs.Mending.{MendPoint, mended}
use Rattle.mending.specs.Reports.{end_line, flaw_text}
use Rattle.mending.specs.declared.changes.Changes.{Changes}
use Rattle.mending.specs.declared.changes.Flaw.{Flaw}
use Rattle.desk.specs.Journals.{IsScriptOf}
use Rattle.desk.specs.Overviews.{ward_line}
use Rattle.desk.specs.Pages.{Page, below, failed, line, printed, unjournalled, unmended}
use Rattle.desk.specs.declared.copying.CopyState.{CopyState}
use Rattle.desk.specs.declared.copying.CopyState.TheVariants.{Unknown, Untouched, Whole}
use Rattle.desk.specs.declared.lines.Failure.{Failure}
use Rattle.desk.specs.declared.lines.Failure.TheVariants.{CopyFailed, Office}
use Rattle.desk.specs.declared.orders.MendOrder.{MendOrder}

-- ---- the request

-- the script of the replacing orders, one per line
abbrev pub script_of : List Text → Text
script_of lines = flat_map line lines

-- The changes that an order to mend asks for in the office at a state. Their orders are those of a journal, which lead to this state. The names to leave out and the
-- orders that replace others are those that the words give, an order for each text.
pub record AreAsked (s : OfficeState) (m : MendOrder) (changes : Changes) : Type 0 where
  pub orders : LeadTo changes.orders.now s
  pub without : names_of changes ≡ map string_bytes m.without.items
  pub instead : IsScriptOf (script_of (map string_bytes m.instead.items)) changes.instead.now
  pub each : length changes.instead.now ≡ length m.instead.items

-- The texts after `--with` aren't orders that can be sent: whichever requests are given, one for each text, the script of the texts isn't a script of those.
abbrev pub AreUnsendable : List Text → Type 0
AreUnsendable texts = (requests : List Request) → IsScriptOf (script_of texts) requests → length requests ≢ length texts

-- ---- what is printed

-- the line on each ward
abbrev pub ward_lines : OfficeState → List Text
ward_lines s = map ward_line (ward_views s)

-- the line after a mark, unless it is one of the others
abbrev pub missing_from : List Text → Text → Text → Text
missing_from others mark text = if list_any (bytes_eq text) others then [] else line (mark ++ text)

-- those of our lines that theirs don't include, each after a mark
abbrev pub differing : Text → List Text → List Text → Text
differing mark ours theirs = flat_map (missing_from theirs mark) ours

-- What is printed about a new office. First come the orders that were left out or replaced. Then come the lines on wards that only the old office has, and those that
-- only the new one has. The last line has the numbers of orders that were kept, replaced and left out.
unfoldable pub mended_text : List Text → MendPoint → Text
mended_text before p =
    p.told ++ (differing (codes "- ") before (ward_lines p.state)
    ++ (differing (codes "+ ") (ward_lines p.state) before ++ end_line p.kept_orders p.replaced_orders p.left_orders))

-- what is printed if the texts after `--with` aren't orders that can be sent
abbrev pub unsent_text : Text
unsent_text = codes "not mended: each --with is an order that is sent, as a line of a script, and that names no file\n"

-- ---- the existing office

-- an office that was open at a state is only read: it is still open at that state, or it is closed, and a stop leaves that state
abbrev pub StaysReadAt : {S : Type 0} → (Held S → State) → OfficeValue S → OfficeValue S → Type 0
StaysReadAt state_of old new = WhenOpenAt state_of old new (λ s. IsReadAt s new.closed (state_of new.held))

-- ---- the outcome

-- The new office was made. It is at the state that the mended list of orders leads to. `before` has the lines on wards of the old office.
pub record IsMade (before : List Text) (changes : Changes) (page : Page) (left : CopyState) (new_old new_new : State) : Type 0 where
  pub can : CanBeMade changes
  pub list : IsMended changes (mended changes)
  pub told : page ≡ printed (mended_text before (mended changes))
  pub whole : left ≡ Whole
  pub at : HasCleanDisk new_new → IsBlank new_old → IsAt (mended changes).state new_new

-- the changes can't be made, and the page says why; or the page reports a failure
abbrev pub IsUnmade : Changes → Page → Type 0
IsUnmade changes page = ((flaw : Flaw) × IsFlawOf changes flaw × (page ≡ unmended (flaw_text flaw))) ⊎ ((failure : Failure) × (page ≡ failed failure))

-- The new office was made or not. Whatever a stop leaves, the new database is unchanged or contains the whole new office.
pub record IsTried (before : List Text) (changes : Changes) (page : Page) (left : CopyState) (new_old new_new : State) : Type 0 where
  pub told : IsMade before changes page left new_old new_new ⊎ IsUnmade changes page
  pub stops : HasCleanDisk new_new → IsBlank new_old → LeavesNoneOrAll (mended changes).state new_old new_new

-- What is reported about the new database is true for any office. If it is reported to contain the whole new office, a text is printed with status 0, and it contains an
-- office. With any other report the status isn't 0; and if it isn't known what the database contains, a failure is reported.
abbrev pub HoldsMended : CopyState → Page → State → State → Type 0
HoldsMended Whole page new_old new_new = ((text : Text) × (page ≡ printed text)) × (HasCleanDisk new_new → IsBlank new_old → (s : OfficeState) × IsAt s new_new)
HoldsMended Untouched page new_old new_new = page.status ≢ 0
HoldsMended Unknown page new_old new_new = (failure : Failure) × (page ≡ failed failure)

-- the orders of the office couldn't be read: the page says that it has no journal, or reports a failure
abbrev pub IsUnread : Page → Type 0
IsUnread page = (page ≡ unjournalled) ⊎ ((failure : Failure) × (page ≡ failed failure))

-- an allocation failed
abbrev pub out_of_memory : Page
out_of_memory = failed (Office Memory)

-- Nothing was begun. The texts after `--with` aren't orders that can be sent, and the page says so; or the orders of the office couldn't be read.
abbrev pub IsUnbegun : MendOrder → Page → Type 0
IsUnbegun m page = ((page ≡ unmended unsent_text) × AreUnsendable (map string_bytes m.instead.items)) ⊎ IsUnread page

-- The outcome of an order to mend the office at a state. Either an attempt was made with the requested changes. Or nothing was written, because the texts after `--with`
-- aren't orders that can be sent, because there is no journal, or because of a failure.
abbrev pub IsMendedOpen : OfficeState → MendOrder → Page → CopyState → State → State → Type 0
IsMendedOpen s m page left new_old new_new =
    ((changes : Changes) × AreAsked s m changes × IsTried (ward_lines s) changes page left new_old new_new) ⊎ (IsUnbegun m page × (left ≡ Untouched))

-- the page of an order to mend the office at a state
abbrev pub IsMendTold : OfficeState → MendOrder → Page → Type 0
IsMendTold s m page =
    ((changes : Changes) × AreAsked s m changes
    × ((CanBeMade changes × IsMended changes (mended changes) × (page ≡ printed (mended_text (ward_lines s) (mended changes)))) ⊎ IsUnmade changes page))
    ⊎ IsUnbegun m page

-- the same page; if it says that the new office was made, it may be followed by the failure to merge the log of that office into its file
abbrev pub IsMendPage : OfficeState → MendOrder → Page → Type 0
IsMendPage s m page = IsMendTold s m page ⊎ ((made : Page) × IsMendTold s m made × (made.status ≡ 0) × (page ≡ below made (failed CopyFailed)))
