-- The surpluses on a page, worked through: the ward of the stage sheet in the documents; then a ward in which the candidate of a later surplus holds papers of two values.
use Rattle.std.proofs.Common.{◌≡◌, List, [], ◌∷◌, None, codes, refl}
use Rattle.std.specs.Fmt.{digits}
use Rattle.count.specs.Bundles.{Bundle}
use Rattle.count.specs.Law.Count.{stages_to}
use Rattle.sheet.specs.Entries.{SheetEntry}
use Rattle.sheet.specs.Lines.{line}
use Rattle.sheet.specs.Surpluses.{surpluses_of, surpluses_text}
use Rattle.sheet.specs.declared.surpluses.PassedOn.{PassedOn}

harbour : SheetEntry
harbour = record { number = 7; name = codes "Harbour"; seats = 2; candidates = (1, codes "Ann") ∷ (2, codes "Bob") ∷ (3, codes "Cy") ∷ []; poll = None }

bundles : List Bundle
bundles = (1 ∷ 2 ∷ [], 4) ∷ (1 ∷ 3 ∷ [], 2) ∷ (2 ∷ [], 1) ∷ (3 ∷ [], 2) ∷ []

of_ann : PassedOn
of_ann = record { stage = 2; candidate = 1; surplus = 200000; votes = 600000; papers = 6; received = 100000; passed = 33333 }

one_surplus : surpluses_of (1 ∷ 2 ∷ 3 ∷ []) 2 bundles [] 3 ≡ of_ann ∷ []
unfolding bundles of_ann stages_to
one_surplus = refl

none_before : surpluses_of (1 ∷ 2 ∷ 3 ∷ []) 2 bundles [] 1 ≡ []
unfolding bundles stages_to
none_before = refl

one_line : surpluses_text harbour (of_ann ∷ []) ≡ codes "<h2>Surpluses</h2>\n<ul>\n<li>Stage 2, surplus of 1 <bdi>Ann</bdi>, 2.00000 of 6.00000 votes: 6 papers received at 1.00000 pass on at 0.33333.</li>\n</ul>\n"
unfolding harbour of_ann line digits
one_line = refl

-- the candidate of the second surplus holds three papers as first preferences, and seven that were received with the first surplus
later_bundles : List Bundle
later_bundles = (1 ∷ [], 1) ∷ (1 ∷ 2 ∷ [], 3) ∷ (1 ∷ 2 ∷ 3 ∷ [], 4) ∷ (2 ∷ [], 3) ∷ (3 ∷ [], 1) ∷ (4 ∷ [], 1) ∷ []

of_first : PassedOn
of_first = record { stage = 2; candidate = 1; surplus = 400000; votes = 800000; papers = 8; received = 100000; passed = 50000 }

of_whole_votes : PassedOn
of_whole_votes = record { stage = 3; candidate = 2; surplus = 250000; votes = 650000; papers = 3; received = 100000; passed = 38461 }

of_half_votes : PassedOn
of_half_votes = record { stage = 3; candidate = 2; surplus = 250000; votes = 650000; papers = 7; received = 50000; passed = 19230 }

two_values : surpluses_of (1 ∷ 2 ∷ 3 ∷ 4 ∷ []) 3 later_bundles [] 3 ≡ of_first ∷ of_whole_votes ∷ of_half_votes ∷ []
unfolding later_bundles of_first of_whole_votes of_half_votes stages_to
two_values = refl
