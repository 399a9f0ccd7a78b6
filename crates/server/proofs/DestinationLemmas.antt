-- The file that an order's path means.
use Rattle.std.proofs.Common.{◌≡◌, Bool, true, false, Option, Some, None, refl}
use Rattle.std.specs.Prelude.{IsUtf8, option_map}
use Rattle.std.specs.Borrow.{Bor}
use Rattle.std.specs.Str.{is_utf8}
use Rattle.std.proofs.lemmas.Str.{IsUtf8-from_is_utf8, is_utf8-from_IsUtf8}
use Rattle.clap.specs.Words.{Text}
use Rattle.server.specs.Destinations.{destination_at}

-- it is in the folder in which the order was typed
pub in_folder : (folder : Option (Bor Text)) (found : Bor Text) (text path : Text) → folder ≡ Some found → text ≡ found.now → IsUtf8 found.now
    → Some (record { folder = text; path = path }) ≡ destination_at (option_map (λ (f : Bor Text). f.now) folder) path
in_folder folder found text path is same valid = rw (is, same, is_utf8-from_IsUtf8 found.now valid) refl

-- there is none, because the folder's name isn't UTF-8
pub in_no_folder : (folder : Option (Bor Text)) (found : Bor Text) (path : Text) → folder ≡ Some found → (IsUtf8 found.now → ⊥)
    → None ≡ destination_at (option_map (λ (f : Bor Text). f.now) folder) path
in_no_folder folder found path is invalid = rw (is, by (is_utf8 found.now) refl) refl
  where
    by : (b : Bool) → is_utf8 found.now ≡ b → is_utf8 found.now ≡ false
    by false e = e
    by true e = absurd (invalid (IsUtf8-from_is_utf8 found.now e))
