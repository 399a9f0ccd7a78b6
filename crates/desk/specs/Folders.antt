-- Files, and their bytes if they are known.
use Rattle.std.specs.Prelude.{◌≡◌, ℕ, List, Option, Some, None, IfSome}
use Rattle.clap.specs.Words.{Text}
use Rattle.keyfile.specs.Digests.{IsReadAs}
use Rattle.keyfile.specs.Reading.{Known}

-- a named file: None if it can't be opened, otherwise its bytes, if they are known
abbrev pub File : Type 0
File = Option (Option (List ℕ))

-- the file at each path, if it is known
abbrev pub Folder : Type 0
Folder = Text → Option File

-- the file at a path, which is the one in the folder if that is known; None if no path is given
abbrev pub IsFileAt : Folder → Option Text → File → Type 0
IsFileAt folder None file = file ≡ None
IsFileAt folder (Some path) file = IfSome (folder path) (λ found. file ≡ found)

-- the file contains a text that satisfies a predicate
abbrev pub HoldsText : File → (Text → Type 0) → Type 0
HoldsText None P = ⊥
HoldsText (Some told) P = Known told P

-- the file is read as a text that satisfies a predicate and has the requested digest, if any
abbrev pub IsReadFrom : Option (List ℕ) → File → (Text → Type 0) → Type 0
IsReadFrom digest None P = ⊥
IsReadFrom digest (Some told) P = IsReadAs digest told P
