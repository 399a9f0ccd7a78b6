-- What a stream has accepted when a call to it fails.
use Rattle.std.specs.Prelude.{ℕ, List, take, Option}
use Rattle.std.specs.Io.KnownBytes.{Appends}

-- the bytes known to have been accepted have grown by a prefix of `bs`
pub record AppendsBeginning (old new : Option (List ℕ)) (bs : List ℕ) : Type 0 where
  pub count : ℕ
  pub appends : Appends old new (take count bs)
