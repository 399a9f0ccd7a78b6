-- A lot on a page, worked through: Bob and Ed are tied at the first stage, and Ed is excluded at the second by lot.
use Rattle.std.proofs.Common.{◌≡◌, ℕ, List, [], ◌∷◌, None, codes, refl}
use Rattle.std.specs.Fmt.{digits}
use Rattle.count.specs.declared.stages.Action.TheVariants.{First, Exclude}
use Rattle.count.specs.declared.stages.Stage.{Stage}
use Rattle.sheet.specs.Entries.{SheetEntry}
use Rattle.sheet.specs.Lines.{joined, line}
use Rattle.sheet.specs.Lots.{lot_item, tied_names}

harbour : SheetEntry
harbour = record { number = 7; name = codes "Harbour"; seats = 1; candidates = (1, codes "Ann") ∷ (2, codes "Bob") ∷ (4, codes "Dot") ∷ (5, codes "Ed") ∷ []; poll = None }

first_stage : Stage
first_stage = record { action = First; votes = 300000 ∷ 200000 ∷ 0 ∷ 400000 ∷ 200000 ∷ []; elected = []; non_transferable = 0; lost = 0 }

second_stage : Stage
second_stage = record first_stage { action = Exclude 5 }

one_lot : lot_item harbour (first_stage ∷ second_stage ∷ []) (2, 5) ≡ codes "<li>Lot at stage 2 between 2 <bdi>Bob</bdi> and 5 <bdi>Ed</bdi>: excluded 5 <bdi>Ed</bdi></li>\n"
unfolding harbour first_stage second_stage joined line digits
one_lot = refl

-- until its stage has been completed, a lot is shown as drawn, without a decision
drawn_alone : lot_item harbour (first_stage ∷ []) (2, 5) ≡ codes "<li>Lot at stage 2 between 2 <bdi>Bob</bdi> and 5 <bdi>Ed</bdi>: drawn 5 <bdi>Ed</bdi></li>\n"
unfolding harbour first_stage joined line digits
drawn_alone = refl

-- before the first stage, all candidates are equal
three_tied : tied_names (record harbour { candidates = (1, codes "Ann") ∷ (2, codes "Bob") ∷ (5, codes "Ed") ∷ [] }) [] 2 ≡ codes "1 <bdi>Ann</bdi>, 2 <bdi>Bob</bdi> and 5 <bdi>Ed</bdi>"
unfolding harbour joined digits
three_tied = refl
