-- The status of a ward's election, in words.
use Rattle.std.specs.Prelude.{◌++◌, codes}
use Rattle.std.specs.Fmt.{decimal}
use Rattle.clap.specs.Words.{Text}
use Rattle.register.specs.Status.{StatusEntry}
use Rattle.register.specs.declared.phase.Phase.{Phase}
use Rattle.register.specs.declared.phase.Phase.TheVariants.{Nominations, Keying, Sealed, Declared}

-- the word for a phase
abbrev pub phase_word : Phase → Text
phase_word Nominations = codes "nominations"
phase_word Keying = codes "keying"
phase_word Sealed = codes "sealed"
phase_word Declared = codes "declared"

-- the number and phase of the ward, and how many candidates it has
unfoldable pub ward_words : StatusEntry → Text
ward_words s = codes "ward " ++ (decimal s.ward ++ (codes " " ++ (phase_word s.phase ++ (codes ": " ++ (decimal s.candidates ++ codes " candidates")))))

-- how many batches it has, how many of them are taken, and how many differ
unfoldable pub batch_words : StatusEntry → Text
batch_words s = decimal s.batches ++ (codes " batches, " ++ (decimal s.taken ++ (codes " taken, " ++ (decimal s.differing ++ codes " differing"))))

-- how many doubtful papers are open, and how many stages have been counted
unfoldable pub count_words : StatusEntry → Text
count_words s = decimal s.doubtful_open ++ (codes " doubtful open, " ++ (decimal s.stages ++ codes " stages"))

-- the status line of a ward
unfoldable pub status_text : StatusEntry → Text
status_text s = ward_words s ++ (codes ", " ++ (batch_words s ++ (codes ", " ++ count_words s)))
