-- The invariant of the loop in `tabulation_in`.
use Rattle.std.proofs.Common.{◌≡◌, take, drop}
use Rattle.std.specs.List.{list_all, flat_map, AllByRecursion}
use Rattle.register.specs.declared.wards.Ward.{Ward}
use Rattle.register.specs.Offices.{ward_entry}
use Rattle.register.specs.Elections.{election_of, is_counted_right}
use Rattle.register.specs.Tabulated.{bundles_in, figures_in, tabulation_entries}
use Rattle.rowcheck.specs.States.{state_of}
use Rattle.rowcheck.specs.Walks.Counts.{IsFair}
use Rattle.rowcheck.proofs.counts.tabulation_in.Given as goal

abbrev pub invariant-loop-ward : goal.invariant-loop-ward
invariant-loop-ward l =
    record {
      left : list_all (λ (w : Ward). is_counted_right (election_of (state_of l.rows) (ward_entry w))) l.wards
          ≡ list_all (λ (w : Ward). is_counted_right (election_of (state_of l.rows) (ward_entry w))) (drop l.ward-index l.wards);
      fair : AllByRecursion (λ (w : Ward). IsFair (state_of l.rows) (ward_entry w)) (drop l.ward-index l.wards);
      bundles : (tabulation_entries l.tabulation).bundles ≡ flat_map (λ (w : Ward). bundles_in (election_of (state_of l.rows) (ward_entry w))) (take l.ward-index l.wards);
      figures : (tabulation_entries l.tabulation).figures ≡ flat_map (λ (w : Ward). figures_in (election_of (state_of l.rows) (ward_entry w))) (take l.ward-index l.wards);
    }
