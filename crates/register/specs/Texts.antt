-- Lists of numbers as text.
use Rattle.std.specs.Prelude.{ℕ, List, [], ◌∷◌, ◌++◌, codes}
use Rattle.std.specs.List.{flat_map}
use Rattle.std.specs.Fmt.{decimal}

-- the text of a number that follows another: `, 3`
abbrev pub behind : ℕ → List ℕ
behind n = codes ", " ++ decimal n

-- numbers separated by a comma and a space: `1, 3`
unfoldable pub listed : List ℕ → List ℕ
listed [] = []
listed (n ∷ ns) = decimal n ++ flat_map behind ns
