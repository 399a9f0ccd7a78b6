-- Overviews for the office only: its wards; the batches of a ward, and their papers as counted; doubtful papers; differences between keyings; and receipts.
use Rattle.std.specs.Prelude.{ℕ, Bool, true, not, nat_lt, ◌==◌, ◌&&◌, ◌||◌, ◌++◌, if◌then◌else◌, List, [], ◌∷◌, map, find, length, codes, Option, Some, None, option_map}
use Rattle.std.specs.List.{filter, flat_map, list_any}
use Rattle.std.specs.Fmt.{decimal}
use Rattle.std.specs.Str.{bytes_eq}
use Rattle.register.specs.Offices.{WardEntry, CandidateEntry, BatchEntry, KeyedEntry, JudgedEntry, ReceiptEntry, OfficeState, ward_entry, candidate_entry, batch_entry, judged_entry}
use Rattle.register.specs.Offices.{ward_at, batch_at, candidates_of, keying_of, verdicts_of}
use Rattle.register.specs.Marks.{columns_of}
use Rattle.register.specs.Agreement.{is_keyed, is_doubtful, clerks_of, keyings_now, taken_papers, agreed, are_taken, differ, is_taken, batches_of, open_in}
use Rattle.register.specs.Polls.{Pile, pile_of, judgement_on}
use Rattle.register.specs.declared.polls.Judgement.{Judgement}
use Rattle.register.specs.Elections.{election_of, elected_of, is_declared}
use Rattle.register.specs.Status.{StatusEntry, status_of, status_entry}
use Rattle.store.specs.declared.overviews.batches.BatchStanding.{BatchStanding}
use Rattle.store.specs.declared.overviews.batches.BatchStanding.TheVariants.{Taken, Differing, Waiting}
use Rattle.store.specs.declared.overviews.wards.WardOverview.{WardOverview}
use Rattle.store.specs.declared.overviews.clerks.ClerkOverview.{ClerkOverview}
use Rattle.store.specs.declared.overviews.batches.BatchOverview.{BatchOverview}
use Rattle.store.specs.declared.overviews.papers.CountedPaper.{CountedPaper}
use Rattle.store.specs.declared.overviews.papers.CountedPapers.{CountedPapers}
use Rattle.store.specs.declared.overviews.doubtful.DoubtfulPaper.{DoubtfulPaper}
use Rattle.store.specs.declared.overviews.doubtful.DoubtfulPapers.{DoubtfulPapers}
use Rattle.store.specs.declared.overviews.differences.Differences.{Differences}
use Rattle.store.specs.declared.overviews.differences.Shift.{Shift}

-- ---- the wards

-- a ward and its status; and, once it has been declared, the elected candidates and all candidates
pub record WardView : Type 0 where
  pub ward : WardEntry
  pub status : StatusEntry
  pub elected : Option (List ℕ)
  pub candidates : List CandidateEntry

-- the elected candidates of a ward, once it has been declared
abbrev pub declared_in : OfficeState → WardEntry → Option (List ℕ)
declared_in s w = if is_declared w.phase then Some (elected_of (election_of s w)) else None

-- the candidates of a ward, once it has been declared
abbrev pub candidates_told : OfficeState → WardEntry → List CandidateEntry
candidates_told s w = if is_declared w.phase then candidates_of s w.number else []

abbrev pub ward_view_of : OfficeState → WardEntry → WardView
ward_view_of s w = record { ward = w; status = status_of s w; elected = declared_in s w; candidates = candidates_told s w }

-- all wards, ordered by number
abbrev pub ward_views : OfficeState → List WardView
ward_views s = map (ward_view_of s) s.wards

-- ---- the batches of a ward

-- the standing of a batch: taken, differing, or else waiting for keyings
abbrev pub standing_by : List (List KeyedEntry) → BatchStanding
standing_by keyings = if are_taken keyings then Taken else if differ keyings then Differing else Waiting

abbrev pub standing_of : OfficeState → BatchEntry → BatchStanding
standing_of s b = standing_by (keyings_now s b)

-- a clerk of a batch, and whether that clerk has keyed the batch's current round
abbrev pub clerk_view_of : OfficeState → BatchEntry → ℕ → ℕ × Bool
clerk_view_of s b clerk = (clerk, is_keyed (keying_of s b.number b.round clerk))

-- a text, followed by a newline
abbrev pub in_a_line : List ℕ → List ℕ
in_a_line text = text ++ codes "\n"

-- candidate numbers, one per line; and the marks of papers, one paper per line
abbrev pub candidate_lines : List ℕ → List ℕ
candidate_lines columns = flat_map (λ c. in_a_line (decimal c)) columns

abbrev pub paper_lines : List KeyedEntry → List ℕ
paper_lines papers = flat_map (λ (k : KeyedEntry). in_a_line k.marks) papers

-- The papers of a taken batch, as one text: the numbers of the ward's candidates, one per line; an empty line; and the marks of the papers, one paper per
-- line. Neither numbers nor marks contain a newline, so two such texts are equal if and only if the candidate numbers and all papers are equal.
unfoldable pub pile_text : List ℕ → List KeyedEntry → List ℕ
pile_text columns papers = candidate_lines columns ++ (codes "\n" ++ paper_lines papers)

abbrev pub pile_text_of : OfficeState → BatchEntry → List ℕ
pile_text_of s b = pile_text (columns_of (candidates_of s b.ward)) (taken_papers s b)

-- the text of a batch's papers, if it is taken
abbrev pub pile_in : OfficeState → BatchEntry → Option (List ℕ)
pile_in s b = if is_taken s b then Some (pile_text_of s b) else None

-- another batch is taken with exactly the same papers, in a ward with the same candidate numbers
abbrev pub is_twin : OfficeState → BatchEntry → BatchEntry → Bool
is_twin s b c = not (c.number == b.number) && (is_taken s c && bytes_eq (pile_text_of s b) (pile_text_of s c))

-- the number of the first twin of a batch, if the batch is taken and has one
abbrev pub twin_of : OfficeState → BatchEntry → Option ℕ
twin_of s b = if is_taken s b then option_map (λ (c : BatchEntry). c.number) (find (is_twin s b) s.batches) else None

-- a batch, its clerks ordered by number, its standing, how many of its doubtful papers have no verdict, and its twin
pub record BatchView : Type 0 where
  pub batch : BatchEntry
  pub clerks : List (ℕ × Bool)
  pub standing : BatchStanding
  pub doubtful_open : ℕ
  pub twin : Option ℕ

abbrev pub batch_view_with : OfficeState → BatchEntry → Option ℕ → BatchView
batch_view_with s b twin = record { batch = b; clerks = map (clerk_view_of s b) (clerks_of s b); standing = standing_of s b; doubtful_open = open_in s b; twin = twin }

abbrev pub batch_view_of : OfficeState → BatchEntry → BatchView
batch_view_of s b = batch_view_with s b (twin_of s b)

-- the batches of a ward, ordered by number
abbrev pub batch_views : OfficeState → ℕ → List BatchView
batch_views s ward = map (batch_view_of s) (batches_of s ward)

-- the batches of the ward with the given number, if there is one, ordered by number
abbrev pub batch_views_at : OfficeState → ℕ → Option (List BatchView)
batch_views_at s ward = option_map (λ (w : WardEntry). batch_views s w.number) (ward_at s ward)

-- ---- papers as they are counted

-- a ballot paper of a batch, and the judgement by which it is counted
pub record PaperView : Type 0 where
  pub batch : ℕ
  pub paper : ℕ
  pub judgement : Judgement

abbrev pub paper_view_of : List ℕ → List JudgedEntry → KeyedEntry → PaperView
paper_view_of columns verdicts k = record { batch = k.batch; paper = k.paper; judgement = judgement_on columns verdicts k }

-- the papers on which the keyings agree, each as counted; empty if the batch isn't taken
abbrev pub papers_in : List ℕ → Pile → List PaperView
papers_in columns pile = map (paper_view_of columns pile.verdicts) (agreed pile.keyings)

-- whether a batch is taken, the candidates of its ward, and its papers
pub record PapersView : Type 0 where
  pub taken : Bool
  pub candidates : List CandidateEntry
  pub papers : List PaperView

abbrev pub papers_by : List CandidateEntry → Pile → PapersView
papers_by candidates pile = record { taken = are_taken pile.keyings; candidates = candidates; papers = papers_in (columns_of candidates) pile }

abbrev pub papers_of : OfficeState → BatchEntry → PapersView
papers_of s b = papers_by (candidates_of s b.ward) (pile_of s b)

-- the judgements by which the papers of a batch are counted
abbrev pub judgements_told : OfficeState → BatchEntry → List Judgement
judgements_told s b = map (λ (p : PaperView). p.judgement) (papers_of s b).papers

-- whether the batch with the given number is taken, the candidates of its ward, and its papers; `None` if there is no such batch
abbrev pub papers_at : OfficeState → ℕ → Option PapersView
papers_at s batch = option_map (papers_of s) (batch_at s batch)

-- ---- doubtful papers

-- a doubtful paper of a batch, as it is counted, and the verdict on it, if there is one
pub record DoubtfulView : Type 0 where
  pub counted : PaperView
  pub verdict : Option JudgedEntry

-- the verdict on the paper with the given number, among the verdicts of a batch
abbrev pub verdict_on : List JudgedEntry → ℕ → Option JudgedEntry
verdict_on verdicts paper = find (λ (v : JudgedEntry). v.paper == paper) verdicts

abbrev pub doubtful_view_of : List ℕ → List JudgedEntry → KeyedEntry → DoubtfulView
doubtful_view_of columns verdicts k = record { counted = paper_view_of columns verdicts k; verdict = verdict_on verdicts k.paper }

-- the doubtful papers among those of a batch
abbrev pub doubtful_among : List ℕ → List JudgedEntry → List KeyedEntry → List DoubtfulView
doubtful_among columns verdicts papers = map (doubtful_view_of columns verdicts) (filter is_doubtful papers)

-- the doubtful papers of a batch, if it is taken; the columns are those of its ward
abbrev pub doubtful_in : OfficeState → List ℕ → BatchEntry → List DoubtfulView
doubtful_in s columns b = doubtful_among columns (verdicts_of s b.number) (taken_papers s b)

-- the doubtful papers of the batches of a ward
abbrev pub doubtful_views : OfficeState → ℕ → List DoubtfulView
doubtful_views s ward = flat_map (doubtful_in s (columns_of (candidates_of s ward))) (batches_of s ward)

-- the candidates of a ward, and its doubtful papers
pub record DoubtfulPapersView : Type 0 where
  pub candidates : List CandidateEntry
  pub papers : List DoubtfulView

abbrev pub doubtful_papers : OfficeState → ℕ → DoubtfulPapersView
doubtful_papers s ward = record { candidates = candidates_of s ward; papers = doubtful_views s ward }

-- the candidates and the doubtful papers of the ward with the given number, if there is one
abbrev pub doubtful_at : OfficeState → ℕ → Option DoubtfulPapersView
doubtful_at s ward = option_map (λ (w : WardEntry). doubtful_papers s w.number) (ward_at s ward)

-- ---- differences

-- whether a keying has the given paper with the same marks
abbrev pub has_alike : KeyedEntry → List KeyedEntry → Bool
has_alike k keying = list_any (λ (j : KeyedEntry). (j.paper == k.paper) && bytes_eq j.marks k.marks) keying

-- whether another keying has the paper with different marks
abbrev pub differs_in : List (List KeyedEntry) → KeyedEntry → Bool
differs_in others k = list_any (λ keying. not (has_alike k keying)) others

-- the numbers of the papers in a keying that another keying has with different marks
abbrev pub differing_among : List (List KeyedEntry) → List KeyedEntry → List ℕ
differing_among others keying = map (λ (k : KeyedEntry). k.paper) (filter (differs_in others) keying)

-- the numbers of the papers on which keyings of a round differ: those that another keying has with marks different from the first
abbrev pub differing_papers : List (List KeyedEntry) → List ℕ
differing_papers [] = []
differing_papers (keying ∷ others) = differing_among others keying

-- whether the papers of two keyings have the same marks, one by one, as far as both have papers
abbrev pub agree_along : List KeyedEntry → List KeyedEntry → Bool
agree_along (j ∷ js) (k ∷ ks) = bytes_eq j.marks k.marks && agree_along js ks
agree_along js ks = true

-- two keyings from the first paper on which they have different marks; empty if there is none
abbrev pub apart_in : List KeyedEntry → List KeyedEntry → List KeyedEntry × List KeyedEntry
apart_in (j ∷ js) (k ∷ ks) = if bytes_eq j.marks k.marks then apart_in js ks else (j ∷ js, k ∷ ks)
apart_in js ks = ([], [])

-- Papers of two keyings, starting with one on which they differ, that agree once those of one clerk are moved up by one: the number of that first paper, and the
-- clerk. At least three papers must agree.
abbrev pub shift_at : KeyedEntry → List KeyedEntry → KeyedEntry → List KeyedEntry → Option Shift
shift_at j js k ks =
    if nat_lt (length js) 3 || nat_lt (length ks) 3 then None
    else if agree_along js (k ∷ ks) then Some (record { paper = j.paper; clerk = j.clerk })
    else if agree_along (j ∷ js) ks then Some (record { paper = k.paper; clerk = k.clerk })
    else None

abbrev pub shift_in : List KeyedEntry × List KeyedEntry → Option Shift
shift_in (j ∷ js, k ∷ ks) = shift_at j js k ks
shift_in apart = None

-- from where on two keyings agree once the papers of one clerk are moved up by one, if they do
abbrev pub shift_between : List KeyedEntry → List KeyedEntry → Option Shift
shift_between first second = shift_in (apart_in first second)

-- the first of two shifts that exists
abbrev pub earlier_shift : Option Shift → Option Shift → Option Shift
earlier_shift None other = other
earlier_shift (Some shift) other = Some shift

-- the shift between a keying and the first of some others that agrees with it so
abbrev pub shift_from : List KeyedEntry → List (List KeyedEntry) → Option Shift
shift_from keying [] = None
shift_from keying (other ∷ others) = earlier_shift (shift_between keying other) (shift_from keying others)

-- the shift between the first two keyings of a round that agree so
abbrev pub shift_among : List (List KeyedEntry) → Option Shift
shift_among [] = None
shift_among (keying ∷ others) = earlier_shift (shift_from keying others) (shift_among others)

-- a batch, whether its keyings differ, the papers on which the keyings of its current round differ, and the shift between two of them
pub record DifferencesView : Type 0 where
  pub batch : BatchEntry
  pub differs : Bool
  pub papers : List ℕ
  pub shift : Option Shift

abbrev pub differences_by : BatchEntry → List (List KeyedEntry) → DifferencesView
differences_by b keyings = record { batch = b; differs = differ keyings; papers = differing_papers keyings; shift = shift_among keyings }

abbrev pub differences_of : OfficeState → BatchEntry → DifferencesView
differences_of s b = differences_by b (keyings_now s b)

-- the batch with the given number, if there is one, and its differences
abbrev pub differences_at : OfficeState → ℕ → Option DifferencesView
differences_at s batch = option_map (differences_of s) (batch_at s batch)

-- ---- receipts

-- the receipts of one actor, or of all, ordered by actor and id
abbrev pub receipts_of : OfficeState → Option ℕ → List ReceiptEntry
receipts_of s None = s.receipts
receipts_of s (Some actor) = filter (λ (r : ReceiptEntry). r.actor == actor) s.receipts

-- ---- the entries of values

abbrev pub ward_view : WardOverview → WardView
ward_view o = record { ward = ward_entry o.ward; status = status_entry o.status; elected = o.elected; candidates = map candidate_entry o.candidates.items }

abbrev pub clerk_view : ClerkOverview → ℕ × Bool
clerk_view c = (c.clerk, c.keyed)

abbrev pub batch_view : BatchOverview → BatchView
batch_view o = record { batch = batch_entry o.batch; clerks = map clerk_view o.clerks.items; standing = o.standing; doubtful_open = o.doubtful_open; twin = o.twin }

abbrev pub paper_view : CountedPaper → PaperView
paper_view p = record { batch = p.batch; paper = p.paper; judgement = p.judgement }

abbrev pub papers_view : CountedPapers → PapersView
papers_view p = record { taken = p.taken; candidates = map candidate_entry p.candidates.items; papers = map paper_view p.papers.items }

abbrev pub doubtful_view : DoubtfulPaper → DoubtfulView
doubtful_view d = record { counted = paper_view d.counted; verdict = option_map judged_entry d.verdict }

abbrev pub doubtful_papers_view : DoubtfulPapers → DoubtfulPapersView
doubtful_papers_view d = record { candidates = map candidate_entry d.candidates.items; papers = map doubtful_view d.papers.items }

abbrev pub differences_view : Differences → DifferencesView
differences_view d = record { batch = batch_entry d.batch; differs = d.differs; papers = d.papers.items; shift = d.shift }
