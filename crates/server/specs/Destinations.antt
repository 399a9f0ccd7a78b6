-- The file that an order makes: a copy of the office, or a new office; or the folder in which it publishes the results.
use Rattle.std.specs.Prelude.{◌==◌, Bool, false, not, [], ◌∷◌, None, Option, Some, IfNone, IfSome, if◌then◌else◌, option_map, ⊤, ℕ}
use Rattle.std.specs.List.{list_any}
use Rattle.std.specs.Str.{is_utf8}
use Rattle.clap.specs.Words.{Text}
use Rattle.desk.specs.declared.orders.PublishOrder.{PublishOrder}
use Rattle.server.specs.declared.order_response.AttachedFiles.{AttachedFiles}
use Rattle.server.specs.declared.served_file.Destination.{Destination}
use Rattle.server.specs.declared.served_order.ServedOrder.{ServedOrder}
use Rattle.server.specs.declared.served_order.ServedOrder.TheVariants as asked

-- a path in a folder; if there is no folder, next to the office that is served
pub record DestinationEntry : Type 0 where
  pub folder : Text
  pub path : Text

abbrev pub destination_entry : Destination → DestinationEntry
destination_entry to = record { folder = to.folder.now; path = to.path.now }

-- whether a path is a bare name: it isn't empty, and has no `/`
abbrev pub is_bare_name : Text → Bool
is_bare_name [] = false
is_bare_name (byte ∷ bytes) = not (list_any (λ b. b == 47) (byte ∷ bytes))

-- The file or folder that a path means in the folder in which the order was typed, if the folder's name is UTF-8. An order from the console has no folder: a bare name means a
-- file next to the office that is served, and no other path means a file.
abbrev pub destination_at : Option Text → Text → Option DestinationEntry
destination_at (Some folder) path = if is_utf8 folder then Some (record { folder = folder; path = path }) else None
destination_at None path = if is_bare_name path then Some (record { folder = []; path = path }) else None

-- the folder in which an order was typed
abbrev pub folder_typed_in : AttachedFiles → Option Text
folder_typed_in attached = option_map (λ folder. folder.now) attached.folder

-- An order that makes a file ended with a status at the file that its path means; or its path means none, and the order failed. `ended` says of each folder, path and
-- status whether an order for that file ended so.
abbrev pub EndsAt : (Text → Text → ℕ → Type 0) → Type 0 → Option DestinationEntry → ℕ → Type 0
EndsAt ended failed to status = IfSome to (λ at. ended at.folder at.path status) × IfNone to failed

-- the same of what an order asks for; only copies, new offices and published results make a file or a folder, and results are published as the order asks
abbrev pub EndsWhereAsked : (Text → Text → ℕ → Type 0) → (PublishOrder → Text → Text → ℕ → Type 0) → Type 0 → Option Text → ServedOrder → ℕ → Type 0
EndsWhereAsked ended published failed folder (asked.Copy path) status = EndsAt ended failed (destination_at folder path.now) status
EndsWhereAsked ended published failed folder (asked.Mend mending) status = EndsAt ended failed (destination_at folder mending.path.now) status
EndsWhereAsked ended published failed folder (asked.Publish publishing) status = EndsAt (published publishing) failed (destination_at folder publishing.path.now) status
EndsWhereAsked ended published failed folder other status = ⊤
