-- What is known about a reader: its bytes, and whether its last read failed.
use Rattle.std.specs.Prelude.{ℕ, Bool, List, Option, Some, None, ⊤}
use Rattle.keyfile.specs.declared.watched.Watched.{Watched}

-- P holds for a reader's bytes, if they are known
abbrev pub Known : Option (List ℕ) → (List ℕ → Type 0) → Type 0
Known None P = ⊤
Known (Some bytes) P = P bytes

-- the reader that is wrapped
abbrev pub reader_of : {R : Type 0} → Watched R → R
reader_of watched = watched.reader

-- whether the last read failed
abbrev pub last_failed : {R : Type 0} → Watched R → Bool
last_failed watched = watched.failed
