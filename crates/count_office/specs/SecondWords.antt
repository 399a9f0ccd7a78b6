-- The option `--second FILE`, which every order may have in addition to its own words.
use Rattle.std.specs.Prelude.{◌+◌, ◌++◌, ℕ, Bool, List, Option, Some, None, codes, drop, position, slice_get, take}
use Rattle.std.specs.Str.{bytes_eq}

-- the words of an order without the option, and the file that the option names, if it was given
pub record SplitEntry (Word : Type 0) : Type 0 where
  pub words : List Word
  pub second : Option Word

abbrev pub is_second : List ℕ → Bool
is_second word = bytes_eq word (codes "--second")

-- the words without those at the place of the option and after it, if there is a word after it
abbrev pub split_with : {Word : Type 0} → ℕ → Option Word → List Word → SplitEntry Word
split_with place None words = record { words = words; second = None }
split_with place (Some file) words = record { words = take place words ++ drop (place + 2) words; second = Some file }

abbrev pub split_at : {Word : Type 0} → Option ℕ → List Word → SplitEntry Word
split_at None words = record { words = words; second = None }
split_at (Some place) words = split_with place (slice_get words (place + 1)) words

-- The option is the first word `--second`, and the word after it is the file. Without a word after it, it stays.
abbrev pub split_words : {Word : Type 0} → (Word → List ℕ) → List Word → SplitEntry Word
split_words text words = split_at (position (λ word. is_second (text word)) words) words
