-- The results of all wards as JSON.
use Rattle.std.specs.Prelude.{ℕ, List, [], ◌∷◌, codes}
use Rattle.std.specs.List.{join_by}
use Rattle.json.specs.Print.{quoted}
use Rattle.publication.specs.Election.{ElectionEntry, WardEntry}
use Rattle.sheet.specs.Lines.{joined}

-- the results of wards, separated by commas
abbrev pub ward_results : List WardEntry → List ℕ
ward_results wards = join_by (λ ward. ward.results) (codes ",") wards

-- the results of all wards, with the title of the election
abbrev pub all_results : ElectionEntry → List ℕ
all_results election = joined (codes "{\"title\":" ∷ quoted election.title ∷ codes ",\"wards\":[\n" ∷ ward_results election.wards ∷ codes "]}\n" ∷ [])
