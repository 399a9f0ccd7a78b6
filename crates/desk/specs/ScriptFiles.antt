-- The files that a script names.
use Rattle.std.specs.Prelude.{◌≡◌, ◌⊎◌, ℕ, List, [], ◌∷◌, Option, Some, None}
use Rattle.std.specs.List.{flat_map}
use Rattle.clap.specs.Words.{Text}
use Rattle.desk.specs.Requests.{file_of}
use Rattle.desk.specs.Scripts.{AreTurns, IsFirstFlaw, script_lines}
use Rattle.desk.specs.declared.scripts.LineFlaw.{LineFlaw}
use Rattle.desk.specs.declared.scripts.ScriptStep.{ScriptStep}

-- an optional path, as a list
abbrev pub listed : Option Text → List Text
listed None = []
listed (Some path) = path ∷ []

-- the paths of the files that steps read, in order
abbrev pub files_of : List ScriptStep → List Text
files_of turns = flat_map (λ turn. listed (file_of turn.errand)) turns

-- The given paths are the ones that a text names: those of its steps if it is a script, or none if something is wrong with a line.
abbrev pub AreNamedIn : Text → List Text → Type 0
AreNamedIn text paths =
    ((turns : List ScriptStep) × AreTurns (script_lines text) turns × (paths ≡ files_of turns))
    ⊎ ((number : ℕ) × (flaw : LineFlaw) × IsFirstFlaw (script_lines text) number flaw × (paths ≡ []))
