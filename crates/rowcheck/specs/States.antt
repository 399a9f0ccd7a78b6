-- The maps that the rows represent, and the tabulation that they contain.
use Rattle.std.specs.Prelude.{map}
use Rattle.register.specs.Offices.{OfficeState, ward_entry, candidate_entry, batch_entry, third_entry, keyed_entry, judged_entry, lot_entry, receipt_entry}
use Rattle.register.specs.Tabulated.{TabulationEntries, placed_entry, figure_entry}
use Rattle.rowcheck.specs.declared.rows.Rows.{Rows}

-- the maps that the rows represent, entry by entry; they are a state only if they meet every condition
abbrev pub state_of : Rows → OfficeState
state_of rows =
    record {
      wards = map ward_entry rows.wards.items;
      candidates = map candidate_entry rows.candidates.items;
      batches = map batch_entry rows.batches.items;
      thirds = map third_entry rows.thirds.items;
      keyings = map keyed_entry rows.keyings.items;
      verdicts = map judged_entry rows.verdicts.items;
      lots = map lot_entry rows.lots.items;
      receipts = map receipt_entry rows.receipts.items;
    }

-- the rows of the tabulation, entry by entry
abbrev pub tabulated : Rows → TabulationEntries
tabulated rows = record { bundles = map placed_entry rows.bundles.items; figures = map figure_entry rows.figures.items }
