-- The actions of stages, in words.
use Rattle.std.specs.Prelude.{ℕ, List, ◌++◌, codes}
use Rattle.std.specs.Fmt.{decimal}
use Rattle.count.specs.declared.stages.Action.{Action}
use Rattle.count.specs.declared.stages.Action.TheVariants.{First, Surplus, Exclude, ExcludeLast}

-- `first preferences`, `surplus of 1`, `exclusion of 2`, `exclusion of 2, last vacancies`
abbrev pub action_text : Action → List ℕ
action_text First = codes "first preferences"
action_text (Surplus c) = codes "surplus of " ++ decimal c
action_text (Exclude c) = codes "exclusion of " ++ decimal c
action_text (ExcludeLast c) = codes "exclusion of " ++ (decimal c ++ codes ", last vacancies")
