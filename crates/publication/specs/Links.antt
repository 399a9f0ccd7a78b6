-- The links from a page to the other files of the folder.
use Rattle.std.specs.Prelude.{ℕ, List, [], ◌∷◌, codes, decimal}
use Rattle.std.specs.List.{flat_map}
use Rattle.publication.specs.Election.{WardEntry}
use Rattle.publication.specs.Parts.{PartEntry, ward_file, ward_parts}
use Rattle.sheet.specs.Lines.{joined, plain}

-- before the links of a page, which aren't shown in print
abbrev pub opening : List ℕ
opening = codes "<style>\n@media print { .links { display: none; } }\n</style>\n<nav class=\"links\">\n"

-- the link to a file of a ward, after a comma
abbrev pub part_link : ℕ → PartEntry → List ℕ
part_link number part = joined (codes ", <a href=\"" ∷ ward_file number part.ending ∷ codes "\">" ∷ part.words ∷ codes "</a>" ∷ [])

-- the links to the files of a ward, other than its page
abbrev pub part_links : WardEntry → List ℕ
part_links ward = flat_map (part_link ward.number) (ward_parts ward)

-- the links on the page of a ward
abbrev pub ward_links : WardEntry → List ℕ
ward_links ward = joined (opening ∷ codes "<p><a href=\"index.html\">all wards</a>" ∷ part_links ward ∷ codes "</p>\n</nav>\n" ∷ [])

-- the line of a ward among the links on the page of all wards
abbrev pub index_item : WardEntry → List ℕ
index_item ward = joined (
    codes "<li><a href=\"" ∷ ward_file ward.number (codes ".html") ∷ codes "\">" ∷ decimal ward.number ∷ codes " <bdi>" ∷ plain ward.name ∷ codes "</bdi></a>"
    ∷ part_links ward ∷ codes "</li>\n" ∷ [])

-- the links on the page of all wards
abbrev pub index_links : List WardEntry → List ℕ
index_links wards = joined (
    opening ∷ codes "<h2>Files</h2>\n<ul>\n" ∷ flat_map index_item wards
    ∷ codes "</ul>\n<p><a href=\"results.json\">results of all wards (JSON)</a>, <a href=\"check.html\">how to check these files</a>, <a href=\"SHA256SUMS\">SHA256SUMS</a></p>\n</nav>\n" ∷ [])
