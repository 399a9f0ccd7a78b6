-- Pages, and the links before their end.
use Rattle.std.specs.Prelude.{ℕ, ◌-◌, nat_eq, Bool, ◌&&◌, if◌then◌else◌, List, [], ◌∷◌, codes, length, take}
use Rattle.std.specs.List.{ends_with, list_all}
use Rattle.publication.specs.Election.{ElectionEntry}
use Rattle.sheet.specs.Lines.{joined}

-- the end of each page
abbrev pub page_end : List ℕ
page_end = codes "</body>\n</html>\n"

-- whether a text ends as pages do
abbrev pub is_page : List ℕ → Bool
is_page page = ends_with nat_eq page page_end

-- whether all pages of an election end as pages do
abbrev pub are_pages : ElectionEntry → Bool
are_pages election = is_page election.index && list_all (λ ward. is_page ward.page) election.wards

-- a page without its end
abbrev pub front_of : List ℕ → List ℕ
front_of page = if is_page page then take (length page - length page_end) page else page

-- a page with links before its end
abbrev pub linked : List ℕ → List ℕ → List ℕ
linked links page = joined (front_of page ∷ links ∷ page_end ∷ [])
