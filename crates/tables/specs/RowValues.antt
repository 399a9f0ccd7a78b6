-- The values in rows.
use Rattle.std.specs.Prelude.{◌≡◌, ◌<◌, ◌^◌, ℕ, List, pos}
use Rattle.std.specs.Str.{IsUtf8}
use Rattle.sqlite.specs.declared.types.Value.{Value}
use Rattle.sqlite.specs.declared.types.Value.TheVariants.{Int, Text, Blob}

-- a number below 2^32
abbrev pub IsNumber : Value → Type 0
IsNumber v = (n : ℕ) × (n < 2 ^ 32) × (v ≡ Int (pos n))

-- a non-negative number
abbrev pub IsAmount : Value → Type 0
IsAmount v = (n : ℕ) × (v ≡ Int (pos n))

-- a text in valid UTF-8
abbrev pub IsText : Value → Type 0
IsText v = (t : List ℕ) × IsUtf8 t × (v ≡ Text t)

-- bytes
abbrev pub IsBytes : Value → Type 0
IsBytes v = (b : List ℕ) × (v ≡ Blob b)
