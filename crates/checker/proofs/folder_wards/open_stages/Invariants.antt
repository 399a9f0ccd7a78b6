-- The invariant of the loop in `open_stages`: the text is the sheet of none of the first stages so far.
use Rattle.std.proofs.Common.{◌≡◌, ◌<◌, ℕ, false, take}
use Rattle.std.specs.Prelude.{bytes_eq}
use Rattle.sheet.specs.Entries.{shown}
use Rattle.sheet.specs.Sheet.{sheet}
use Rattle.checker.proofs.folder_wards.open_stages.Given as goal

abbrev pub invariant-loop-done : goal.invariant-loop-done
invariant-loop-done l = (k : ℕ) → k < l.done → bytes_eq (sheet (shown l.ward) (take k l.all)) l.text ≡ false
