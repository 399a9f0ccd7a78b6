-- The cover of a batch, which stays with its pile: a description of the batch, and room to record each round of keying.
use Rattle.std.specs.Prelude.{ℕ, List, ◌++◌, codes}
use Rattle.std.specs.Fmt.{decimal}
use Rattle.std.specs.List.{flat_map}
use Rattle.forms.specs.Pages.{Text, page}
use Rattle.forms.specs.declared.covers.Cover.{Cover}

-- a batch: its number, its ward, its number of papers, and the two clerks who key it
pub record CoverEntry : Type 0 where
  pub batch : ℕ
  pub ward : ℕ
  pub size : ℕ
  pub first_clerk : ℕ
  pub second_clerk : ℕ

abbrev pub cover_entry : Cover → CoverEntry
cover_entry c = record { batch = c.batch; ward = c.ward; size = c.size; first_clerk = c.first_clerk; second_clerk = c.second_clerk }

-- the head of a cover: the batch, its ward, and its number of papers
unfoldable pub cover_head : CoverEntry → Text
cover_head c =
    codes "<section class=\"sheet\">\n<h1>Batch " ++ (decimal c.batch ++ (codes "</h1>\n<p class=\"large\">Ward " ++ (decimal c.ward ++ (
    codes "</p>\n<p class=\"large\">Papers: " ++ (decimal c.size ++ codes "</p>\n")))))

-- the row of a round, with a box for each clerk
abbrev pub round_row : Text → Text
round_row round = codes "<tr><th scope=\"row\">Round " ++ (round ++ codes "</th><td></td><td></td><td></td></tr>\n")

-- the boxes for four rounds: one for each of the two clerks, and one for a third clerk if there is one
unfoldable pub round_boxes : CoverEntry → Text
round_boxes c =
    codes "<table class=\"rounds\">\n<tr><th></th><th scope=\"col\">Clerk " ++ (decimal c.first_clerk ++ (codes "</th><th scope=\"col\">Clerk " ++ (decimal c.second_clerk ++ (
    codes "</th><th scope=\"col\">Third clerk:</th></tr>\n" ++ (round_row (codes "1") ++ (round_row (codes "2") ++ (round_row (codes "3") ++ (round_row (codes "4") ++ codes "</table>\n"))))))))

-- the cover of a batch
unfoldable pub cover : CoverEntry → Text
cover c = cover_head c ++ (round_boxes c ++ codes "<p>Each clerk signs the box of a round once the batch is keyed and sent. The papers stay in their order.</p>\n</section>\n")

-- the covers of batches, one per sheet
unfoldable pub all_covers : List CoverEntry → Text
all_covers covers = flat_map cover covers

-- the page with the covers of batches
unfoldable pub covers_page : List CoverEntry → Text
covers_page covers = page (codes "Covers of batches") (all_covers covers)
