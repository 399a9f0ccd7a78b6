-- Overviews, one line each: the wards, a ward's batches, how each paper in a batch counts, a ward's doubtful papers, the differences in a batch, and the
-- receipts.
use Rattle.std.specs.Prelude.{ℕ, Bool, true, false, ◌==◌, ◌+◌, ◌-◌, ◌++◌, ◌∷◌, if◌then◌else◌, List, [], Option, Some, None, codes, length}
use Rattle.std.specs.Fmt.{decimal}
use Rattle.std.specs.List.{flat_map}
use Rattle.clap.specs.Words.{Text}
use Rattle.register.specs.Offices.{JudgedEntry, OfficeState, ReceiptEntry}
use Rattle.register.specs.Texts.{listed}
use Rattle.register.specs.declared.polls.Judgement.{Judgement}
use Rattle.register.specs.declared.polls.Judgement.TheVariants.{Valid, Rejected, Open}
use Rattle.store.specs.Overviews.{BatchView, DifferencesView, DoubtfulPapersView, DoubtfulView, PaperView, PapersView, WardView}
use Rattle.store.specs.declared.overviews.differences.Shift.{Shift}
use Rattle.store.specs.declared.overviews.batches.BatchStanding.{BatchStanding}
use Rattle.store.specs.declared.overviews.batches.BatchStanding.TheVariants.{Taken, Differing, Waiting}
use Rattle.office.specs.Reads.{next_answer}
use Rattle.office.specs.Overviews.{batches_answer, differences_answer, doubtful_answer, papers_answer, receipts_answer, wards_answer}
use Rattle.desk.specs.CandidateNames.{name_in, names_of}
use Rattle.desk.specs.Fields.{page_of_fields}
use Rattle.desk.specs.Forms.{adjudication_form, covers_form, declaration_form, lots_form}
use Rattle.desk.specs.Pages.{Page, line, page_found, printed, replied}
use Rattle.desk.specs.WardStatus.{phase_word}
use Rattle.desk.specs.declared.orders.Form.{Form}
use Rattle.desk.specs.declared.orders.Form.TheVariants as form
use Rattle.desk.specs.declared.orders.Question.{Question}
use Rattle.desk.specs.declared.orders.Question.TheVariants as question

-- ---- a ward

-- the number, phase and seats of the ward
unfoldable pub seats_words : WardView → Text
seats_words v = codes "ward " ++ (decimal v.ward.number ++ (codes " " ++ (phase_word v.ward.phase ++ (codes ": " ++ (decimal v.ward.seats ++ codes " seats")))))

-- how many candidates and batches it has, and how many batches aren't taken
unfoldable pub untaken_words : WardView → Text
untaken_words v = decimal v.status.candidates ++ (codes " candidates, " ++ (decimal v.status.batches ++ (codes " batches, " ++ (decimal (v.status.batches - v.status.taken) ++ codes " not taken"))))

-- how many batches differ, how many doubtful papers are open, and how many stages have been counted
unfoldable pub open_words : WardView → Text
open_words v = decimal v.status.differing ++ (codes " differing, " ++ (decimal v.status.doubtful_open ++ (codes " doubtful open, " ++ (decimal v.status.stages ++ codes " stages"))))

-- who is elected, once the result is declared, and how many seats stay empty
unfoldable pub elected_words : ℕ → Option (List ℕ) → Text
elected_words seats None = []
elected_words seats (Some elected) = codes ", elected " ++ (listed elected ++ (codes ", " ++ (decimal (seats - length elected) ++ codes " seats empty")))

-- the line for a ward, ending with its name
unfoldable pub ward_line : WardView → Text
ward_line v = seats_words v ++ (codes ", " ++ (untaken_words v ++ (codes ", " ++ (open_words v ++ (elected_words v.ward.seats v.elected ++ (codes ": " ++ v.ward.name))))))

-- ---- a batch

-- the number, round and size of the batch
unfoldable pub size_words : BatchView → Text
size_words v = codes "batch " ++ (decimal v.batch.number ++ (codes " round " ++ (decimal v.batch.round ++ (codes ": " ++ (decimal v.batch.size ++ codes " papers")))))

-- the words that say whether a clerk has keyed the batch
abbrev pub keyed_word : Bool → Text
keyed_word true = codes "keyed"
keyed_word false = codes "not keyed"

-- a clerk of the batch, and whether that clerk has keyed it
unfoldable pub clerk_words : ℕ × Bool → Text
clerk_words c = codes ", clerk " ++ (decimal c.0 ++ (codes " " ++ keyed_word c.1))

-- the word for the batch's status
abbrev pub standing_word : BatchStanding → Text
standing_word Taken = codes "taken"
standing_word Differing = codes "differing"
standing_word Waiting = codes "waiting"

-- another batch with the same papers
unfoldable pub twin_words : Option ℕ → Text
twin_words None = []
twin_words (Some batch) = codes ", same papers as batch " ++ decimal batch

-- the line for a batch
unfoldable pub batch_line : BatchView → Text
batch_line v =
    size_words v ++ (flat_map clerk_words v.clerks ++ (codes ", " ++ (standing_word v.standing ++ (codes ", " ++ (decimal v.doubtful_open ++ (codes " doubtful open" ++ twin_words v.twin))))))

-- ---- how a paper counts

-- the separator before a preference, which is empty before the first one
abbrev pub parting : ℕ → Text
parting number = if number == 1 then [] else codes ", "

-- a preference: its number and the candidate's name
unfoldable pub preference_words : ℕ → Text → Text
preference_words number name = parting number ++ (decimal number ++ (codes " " ++ name))

-- preferences starting with the given number, with the candidates' names: `1 Ann, 2 Cy`
abbrev pub preferences_from : List Text → ℕ → List ℕ → Text
preferences_from names number [] = []
preferences_from names number (c ∷ cs) = preference_words number (name_in names c) ++ preferences_from names (number + 1) cs

-- the reason why a paper is rejected, given its code
abbrev pub rejection_words : ℕ → Text
rejection_words code =
    if code == 1 then codes "no first preference" else (
    if code == 2 then codes "more than one first preference" else (
    if code == 3 then codes "no official mark" else (
    if code == 4 then codes "voter identifiable" else (
    if code == 5 then codes "void for uncertainty" else []))))

-- how a paper counts: its preferences, why it is rejected, or that it has no verdict yet
unfoldable pub judgement_words : List Text → Judgement → Text
judgement_words names (Valid prefs) = codes "preferences " ++ preferences_from names 1 prefs
judgement_words names (Rejected code) = codes "rejected " ++ (decimal code ++ (codes ", " ++ rejection_words code))
judgement_words names Open = codes "doubtful, no verdict yet"

-- the line for a paper
unfoldable pub paper_line : List Text → PaperView → Text
paper_line names v = codes "batch " ++ (decimal v.batch ++ (codes " paper " ++ (decimal v.paper ++ (codes ": " ++ judgement_words names v.judgement))))

-- ---- a doubtful paper

-- the verdict on a doubtful paper: accepted with the given marks, and how it counts with them; or rejected with the given code
unfoldable pub verdict_words : List Text → Judgement → Option JudgedEntry → Text
verdict_words names judgement None = codes "open"
verdict_words names judgement (Some v) = if v.code == 0 then codes "accepted " ++ (v.marks ++ (codes ": " ++ judgement_words names judgement)) else codes "rejected " ++ decimal v.code

-- the line for a doubtful paper
unfoldable pub doubtful_line : List Text → DoubtfulView → Text
doubtful_line names v =
    codes "batch " ++ (decimal v.counted.batch ++ (codes " paper " ++ (decimal v.counted.paper ++ (codes " " ++ verdict_words names v.counted.judgement v.verdict))))

-- ---- differences, and receipts

-- the words that say from where on two keyings agree once the papers of one clerk are moved up by one
unfoldable pub shift_words : Option Shift → Text
shift_words None = []
shift_words (Some shift) =
    codes "; from " ++ (decimal shift.paper ++ (codes " on they agree when clerk " ++ (decimal shift.clerk ++ codes "'s are moved by one: a paper may have been left out or keyed twice")))

-- the line that lists the papers on which a batch's keyings differ, and says if they look shifted
unfoldable pub differences_line : DifferencesView → Text
differences_line v =
    codes "batch " ++ (decimal v.batch.number ++ (codes " round " ++ (decimal v.batch.round ++ (codes " differs on papers " ++ (listed v.papers ++ shift_words v.shift)))))

-- the line for a receipt: the actor, the id, the subject and the reply
unfoldable pub receipt_line : ReceiptEntry → Text
receipt_line r = codes "actor " ++ (decimal r.actor ++ (codes " id " ++ (r.id ++ (codes ", " ++ (r.subject ++ (codes ": " ++ r.reply))))))

-- ---- what is printed

-- the values, each on a line of its own
abbrev pub lines_of : {X : Type 0} → (X → Text) → List X → Text
lines_of text xs = flat_map (λ x. line (text x)) xs

-- how each paper in a batch counts, and a ward's doubtful papers, with the names of the ward's candidates
unfoldable pub paper_lines : PapersView → Text
paper_lines v = lines_of (paper_line (names_of v.candidates)) v.papers

unfoldable pub doubtful_lines : DoubtfulPapersView → Text
doubtful_lines v = lines_of (doubtful_line (names_of v.candidates)) v.papers

-- the page with a form of a ward, or why there is none
abbrev pub page_formed : OfficeState → Form → ℕ → Page
page_formed s form.Covers ward = page_found covers_form (batches_answer s ward)
page_formed s form.Adjudication ward = page_found (adjudication_form ward) (doubtful_answer s ward)
page_formed s form.Lots ward = page_found (lots_form ward) (next_answer s ward)
page_formed s form.Declaration ward = page_found (declaration_form ward) (wards_answer s)

-- the page that answers a question, or says why there is no answer
abbrev pub page_asked : OfficeState → Question → Page
page_asked s question.Wards = page_found (λ wards. printed (lines_of ward_line wards)) (wards_answer s)
page_asked s (question.Batches ward) = page_found (λ batches. printed (lines_of batch_line batches)) (batches_answer s ward)
page_asked s (question.Doubtful ward) = page_found (λ papers. printed (doubtful_lines papers)) (doubtful_answer s ward)
page_asked s (question.Differences batch) = page_found (λ differences. replied (differences_line differences)) (differences_answer s batch)
page_asked s (question.Papers batch) = page_found (λ papers. printed (paper_lines papers)) (papers_answer s batch)
page_asked s (question.Fields batch clerk) = page_of_fields s batch clerk
page_asked s (question.Form form ward) = page_formed s form ward
page_asked s (question.Receipts actor) = page_found (λ receipts. printed (lines_of receipt_line receipts)) (receipts_answer s actor)
