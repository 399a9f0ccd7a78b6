-- The names of candidates, by number.
use Rattle.std.specs.Prelude.{ℕ, ◌==◌, List, codes, Option, Some, None, option_map}
use Rattle.std.specs.List.{find}

-- the name of the candidate with the given number, if there is one
abbrev pub name_at : List (ℕ × List ℕ) → ℕ → Option (List ℕ)
name_at candidates c = option_map (λ candidate. candidate.1) (find (λ candidate. candidate.0 == c) candidates)

-- a candidate's name, or the word for a withdrawn candidate
abbrev pub name_or_withdrawn : Option (List ℕ) → List ℕ
name_or_withdrawn None = codes "withdrawn"
name_or_withdrawn (Some name) = name
