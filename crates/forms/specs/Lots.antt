-- The form for a lot: what it decides, among which candidates, and lines to record who drew it and who witnessed it.
use Rattle.std.specs.Prelude.{ℕ, List, ◌++◌, codes}
use Rattle.std.specs.Fmt.{decimal}
use Rattle.std.specs.List.{flat_map}
use Rattle.forms.specs.Pages.{Text, named, page}
use Rattle.forms.specs.declared.candidates.NamedCandidate.{NamedCandidate}
use Rattle.forms.specs.declared.lots.LotPurpose.{LotPurpose}
use Rattle.forms.specs.declared.lots.LotPurpose.TheVariants.{Surplus, Exclusion}

-- a candidate's number and name
pub record CandidateShown : Type 0 where
  pub number : ℕ
  pub name : Text

abbrev pub candidate_shown : NamedCandidate → CandidateShown
candidate_shown c = record { number = c.number; name = c.name.now }

-- a candidate as a list item
unfoldable pub candidate_item : CandidateShown → Text
candidate_item c = codes "<li>" ++ (named c.number c.name ++ codes "</li>\n")

-- candidates as list items
unfoldable pub candidate_items : List CandidateShown → Text
candidate_items candidates = flat_map candidate_item candidates

-- what a lot decides
unfoldable pub purpose_words : LotPurpose → Text
purpose_words Surplus = codes "The lot decides whose surplus is transferred first."
purpose_words Exclusion = codes "The lot decides who is excluded."

-- the head of the form: the ward, the stage, and what the lot decides
unfoldable pub lot_head : ℕ → ℕ → LotPurpose → Text
lot_head ward stage purpose =
    codes "<h1>Lot, ward " ++ (decimal ward ++ (codes "</h1>\n<p class=\"large\">Stage " ++ (decimal stage ++ (
    codes "</p>\n<p>" ++ (purpose_words purpose ++ codes "</p>\n<p>It is drawn among these candidates:</p>\n<ul>\n")))))

-- the body of the form: the lot, the candidates, and lines to fill in
unfoldable pub lot_body : ℕ → ℕ → LotPurpose → List CandidateShown → Text
lot_body ward stage purpose tied =
    lot_head ward stage purpose ++ (candidate_items tied ++ (
    codes "</ul>\n<p class=\"line\">The lot fell on</p>\n<p class=\"line\">Drawn by</p>\n<p class=\"line\">How it was drawn</p>\n<p class=\"line\">Date and time</p>\n" ++
    codes "<p class=\"line\">Returning officer</p>\n<p class=\"line\">First witness</p>\n<p class=\"line\">Second witness</p>\n"))

-- the form for a lot at a stage of the count in a ward, among these candidates
unfoldable pub lot_page : ℕ → ℕ → LotPurpose → List CandidateShown → Text
lot_page ward stage purpose tied = page (codes "Lot") (lot_body ward stage purpose tied)
