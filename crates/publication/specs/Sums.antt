-- The file SHA256SUMS, which `sha256sum -c` reads.
use Rattle.std.specs.Prelude.{◌≡◌, ◌≢◌, ◌⊎◌, ℕ, List, [], ◌∷◌, codes, ⊤}
use Rattle.std.specs.List.{flat_map}
use Rattle.hex.specs.Hex.{encode_lower}
use Rattle.publication.specs.Files.{FileEntry, names}
use Rattle.sha2.specs.Sha256.{sha256}
use Rattle.sheet.specs.Lines.{joined}

-- the line of a file: its SHA-256 in 64 hexadecimal digits, two spaces, and its name
abbrev pub sum_line : FileEntry → List ℕ
sum_line file = joined (encode_lower (sha256 file.text) ∷ codes "  " ∷ file.name ∷ codes "\n" ∷ [])

-- the lines of files, in order
abbrev pub sums : List FileEntry → List ℕ
sums files = flat_map sum_line files

-- two texts differ, and have the same SHA-256
abbrev pub Collide : List ℕ → List ℕ → Type 0
Collide a b = (a ≢ b) × (sha256 a ≡ sha256 b)

-- two lists have the same files, name by name and text by text, except for texts that collide
abbrev pub AreSame : List FileEntry → List FileEntry → Type 0
AreSame [] [] = ⊤
AreSame [] (y ∷ ys) = ⊥
AreSame (x ∷ xs) [] = ⊥
AreSame (x ∷ xs) (y ∷ ys) = (x.name ≡ y.name) × ((x.text ≡ y.text) ⊎ Collide x.text y.text) × AreSame xs ys

-- files with these names and these sums are these files, except for texts that collide
abbrev pub ArePinned : List FileEntry → Type 0
ArePinned files = (others : List FileEntry) → names others ≡ names files → sums others ≡ sums files → AreSame others files
