-- The wording of a declaration, to be read aloud and signed.
use Rattle.std.specs.Prelude.{ℕ, ◌==◌, if◌then◌else◌, List, ◌++◌, codes}
use Rattle.std.specs.Fmt.{decimal}
use Rattle.forms.specs.Lots.{CandidateShown, candidate_items}
use Rattle.forms.specs.Pages.{Text, named, page}

-- the sentence that says whether all seats are filled, or how many remain vacant
unfoldable pub vacancy_words : ℕ → Text
vacancy_words vacant = if vacant == 0 then codes "</ul>\n<p>All seats are filled.</p>\n" else codes "</ul>\n<p class=\"large\">Seats that stay vacant: " ++ (decimal vacant ++ codes ".</p>\n")

-- the beginning of the declaration, with the ward and its seats, up to the elected candidates
unfoldable pub declaration_head : ℕ → Text → ℕ → Text
declaration_head ward name seats =
    codes "<h1>Declaration, ward " ++ (named ward name ++ (codes "</h1>\n<p>I, the returning officer, declare the result of the election of ward " ++ (named ward name ++ (
    codes ". Seats: " ++ (decimal seats ++ codes ". Duly elected are:</p>\n<ul>\n")))))

-- the body of the declaration: who is elected to the seats of a ward, and how many seats remain vacant
unfoldable pub declaration_body : ℕ → Text → ℕ → List CandidateShown → ℕ → Text
declaration_body ward name seats elected vacant =
    declaration_head ward name seats ++ (candidate_items elected ++ (vacancy_words vacant ++
    codes "<p class=\"line\">Date and time</p>\n<p class=\"line\">Returning officer</p>\n"))

-- the page with the declaration of a ward
unfoldable pub declaration_page : ℕ → Text → ℕ → List CandidateShown → ℕ → Text
declaration_page ward name seats elected vacant = page (codes "Declaration") (declaration_body ward name seats elected vacant)
