-- The folder in which an election is published.
use Rattle.std.specs.Prelude.{ℕ, List, [], ◌∷◌, ◌++◌, codes, map}
use Rattle.std.specs.List.{flat_map}
use Rattle.publication.specs.CheckPage.{check_page}
use Rattle.publication.specs.Election.{ElectionEntry, WardEntry}
use Rattle.publication.specs.Files.{FileEntry, file}
use Rattle.publication.specs.Links.{index_links, ward_links}
use Rattle.publication.specs.Pages.{linked}
use Rattle.publication.specs.Parts.{PartEntry, ward_file, ward_parts}
use Rattle.publication.specs.Results.{all_results}
use Rattle.publication.specs.Sums.{sums}

-- the page of all wards, with links to the other files
abbrev pub index_file : ElectionEntry → FileEntry
index_file election = file (codes "index.html") (linked (index_links election.wards) election.index)

-- the page of a ward, with links to its other files
abbrev pub ward_page_file : WardEntry → FileEntry
ward_page_file ward = file (ward_file ward.number (codes ".html")) (linked (ward_links ward) ward.page)

-- another file of a ward
abbrev pub part_file : ℕ → PartEntry → FileEntry
part_file number part = file (ward_file number part.ending) part.text

-- the files of a ward
abbrev pub ward_files : WardEntry → List FileEntry
ward_files ward = ward_page_file ward ∷ map (part_file ward.number) (ward_parts ward)

-- the files that SHA256SUMS lists
abbrev pub summed_files : ElectionEntry → List FileEntry
summed_files election =
    index_file election ∷ flat_map ward_files election.wards
    ++ file (codes "results.json") (all_results election) ∷ file (codes "check.html") (check_page election.title) ∷ []

-- files and their sums
abbrev pub with_sums : List FileEntry → List FileEntry
with_sums files = files ++ file (codes "SHA256SUMS") (sums files) ∷ []

-- all files, in order
abbrev pub published : ElectionEntry → List FileEntry
published election = with_sums (summed_files election)
