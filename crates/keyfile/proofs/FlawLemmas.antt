-- The text of a flaw is the concatenation of the pieces that are printed one after another.
use Rattle.std.proofs.Common.{◌≡◌, ◌∙◌, ◌++◌, ℕ, List, codes, refl, sym, ap, append_assoc}
use Rattle.std.specs.Fmt.{decimal}
use Rattle.keyfile.specs.Faults.{flaw_batch, flaw_between, flaw_clerk, flaw_text, flaw_words}
use Rattle.keyfile.specs.declared.fault.Flaw.{Flaw}
use Rattle.keyfile.specs.declared.fault.Flaw.TheVariants.{Header, RecordLength, Number, PaperOrder, Marks, NotUtf8, TooManyRecords, ReadFailed, Memory, OtherKeying, OtherFile}

-- the pieces of a flaw, followed by other text
pub flaw_in_pieces : (flaw : Flaw) (rest : List ℕ) → flaw_words flaw ++ (flaw_batch flaw ++ (flaw_between flaw ++ (flaw_clerk flaw ++ rest))) ≡ flaw_text flaw ++ rest
flaw_in_pieces Header rest = refl
flaw_in_pieces RecordLength rest = refl
flaw_in_pieces Number rest = refl
flaw_in_pieces PaperOrder rest = refl
flaw_in_pieces Marks rest = refl
flaw_in_pieces NotUtf8 rest = refl
flaw_in_pieces TooManyRecords rest = refl
flaw_in_pieces ReadFailed rest = refl
flaw_in_pieces Memory rest = refl
flaw_in_pieces OtherFile rest = refl
flaw_in_pieces (OtherKeying batch clerk) rest =
    let words : List ℕ = codes "the file is of batch " in
    let between : List ℕ = codes ", clerk " in
    sym (append_assoc words (decimal batch ++ (between ++ decimal clerk)) rest
    ∙ ap (λ (t : List ℕ). words ++ t) (append_assoc (decimal batch) (between ++ decimal clerk) rest ∙ ap (λ (t : List ℕ). decimal batch ++ t) (append_assoc between (decimal clerk) rest)))
