-- The forms of a ward, given what the office knows about it, and the slips of clerks.
use Rattle.std.specs.Prelude.{ℕ, ◌==◌, ◌-◌, List, find, length, map, Option, Some, None}
use Rattle.clap.specs.Words.{Text}
use Rattle.codes.specs.Files.{CodeEntry}
use Rattle.count.specs.declared.stages.Due.{Due}
use Rattle.count.specs.declared.stages.Due.TheVariants.{Act, Lot, Finished}
use Rattle.count.specs.declared.stages.TiedFor.{TiedFor}
use Rattle.count.specs.declared.stages.TiedFor.TheVariants as tied_for
use Rattle.register.specs.NextSteps.{NextStepEntry, nominations_end, papers_stand, count_goes, nothing_comes}
use Rattle.register.specs.Offices.{CandidateEntry}
use Rattle.store.specs.Overviews.{BatchView, DoubtfulPapersView, DoubtfulView, WardView}
use Rattle.forms.specs.Covers.{CoverEntry, covers_page}
use Rattle.forms.specs.Declarations.{declaration_page}
use Rattle.forms.specs.Lots.{CandidateShown, lot_page}
use Rattle.forms.specs.Slips.{SlipEntry, slips_page}
use Rattle.forms.specs.Verdicts.{DoubtfulEntry, verdicts_page}
use Rattle.forms.specs.declared.lots.LotPurpose.{LotPurpose}
use Rattle.forms.specs.declared.lots.LotPurpose.TheVariants as purpose
use Rattle.desk.specs.CandidateNames.{name_of}
use Rattle.desk.specs.Pages.{Page, printed, unformed}
use Rattle.desk.specs.declared.lines.NoForm.TheVariants.{NoLot, Undeclared}

-- ---- what forms show

-- a candidate as a form shows it
abbrev pub candidate_of : CandidateEntry → CandidateShown
candidate_of c = record { number = c.number; name = c.name }

-- the candidate with this number, as a form shows it
abbrev pub candidate_numbered : List CandidateEntry → ℕ → CandidateShown
candidate_numbered candidates number = record { number = number; name = name_of candidates number }

-- the cover of a batch
abbrev pub cover_of : BatchView → CoverEntry
cover_of v = record { batch = v.batch.number; ward = v.batch.ward; size = v.batch.size; first_clerk = v.batch.first_clerk; second_clerk = v.batch.second_clerk }

-- the row of a doubtful paper
abbrev pub doubtful_of : DoubtfulView → DoubtfulEntry
doubtful_of v = record { batch = v.counted.batch; paper = v.counted.paper }

-- the slip of a clerk, given the origin of the keying pages
abbrev pub slip_of : Text → CodeEntry → SlipEntry
slip_of origin entry = record { clerk = entry.clerk; code = entry.code; origin = origin }

-- what a lot decides
abbrev pub purpose_of : TiedFor → LotPurpose
purpose_of tied_for.Surplus = purpose.Surplus
purpose_of tied_for.Exclusion = purpose.Exclusion

-- ---- the forms

-- the slips of clerks, given the origin of the keying pages
abbrev pub slips_form : Text → List CodeEntry → Text
slips_form origin entries = slips_page (map (slip_of origin) entries)

-- the covers of a ward's batches
abbrev pub covers_form : List BatchView → Page
covers_form views = printed (covers_page (map cover_of views))

-- the form for adjudicating the doubtful papers of a ward
abbrev pub adjudication_form : ℕ → DoubtfulPapersView → Page
adjudication_form ward v = printed (verdicts_page ward (map candidate_of v.candidates) (map doubtful_of v.papers))

-- the form for the lot that a count waits for, if it waits for one
abbrev pub due_form : ℕ → List CandidateEntry → Due → Page
due_form ward candidates (Act action) = unformed NoLot
due_form ward candidates (Lot at kind tied) = printed (lot_page ward at (purpose_of kind) (map (candidate_numbered candidates) tied))
due_form ward candidates Finished = unformed NoLot

abbrev pub lots_form : ℕ → NextStepEntry → Page
lots_form ward (nominations_end candidates seats) = unformed NoLot
lots_form ward (papers_stand status) = unformed NoLot
lots_form ward (count_goes stage due candidates) = due_form ward candidates due
lots_form ward nothing_comes = unformed NoLot

-- the declaration of a ward, given who is elected if it is declared
abbrev pub elected_form : WardView → Option (List ℕ) → Page
elected_form v None = unformed Undeclared
elected_form v (Some elected) =
    printed (declaration_page v.ward.number v.ward.name v.ward.seats (map (candidate_numbered v.candidates) elected) (v.ward.seats - length elected))

-- the declaration of the ward with this number, among all wards
abbrev pub found_form : Option WardView → Page
found_form None = unformed Undeclared
found_form (Some v) = elected_form v v.elected

abbrev pub declaration_form : ℕ → List WardView → Page
declaration_form ward views = found_form (find (λ (v : WardView). v.ward.number == ward) views)
