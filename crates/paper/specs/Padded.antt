-- Lists of numbers stored in arrays.
use Rattle.std.specs.Prelude.{ℕ, ◌+◌, ◌-◌, ◌*◌, ◌^◌, ◌==◌, List, [], ◌∷◌, ◌++◌, length, replicate}
use Rattle.std.specs.List.{before_first}
use Rattle.paper.specs.Columns.{max_candidates}

-- the list stored in an array of numbers: the numbers before the first 0
abbrev pub listed : List ℕ → List ℕ
listed numbers = before_first (λ n. n == 0) numbers

-- the array that stores a list, padded with zeros; the list must not be longer than the maximum number of
-- candidates
abbrev pub padded : List ℕ → List ℕ
padded list = list ++ replicate (max_candidates - length list) 0

-- the number that a byte string represents, most significant byte first
abbrev pub number_of : List ℕ → ℕ
number_of [] = 0
number_of (x ∷ xs) = x * 256 ^ length xs + number_of xs
