-- The invariant of the loop in `files_of`: the paths so far, followed by those of the remaining steps, are all the paths.
use Rattle.std.proofs.Common.{◌≡◌, ◌++◌, drop, map, string_bytes}
use Rattle.desk.specs.ScriptFiles.{files_of}
use Rattle.desk.proofs.script_files.files_of.Given as goal

abbrev pub invariant-loop-turn : goal.invariant-loop-turn
invariant-loop-turn l = map string_bytes l.paths.items ++ files_of (drop l.turn-index l.turns) ≡ files_of l.turns
