-- What walking wards and candidates side by side proves about the state that the rows represent.
use Rattle.std.proofs.Common.{◌≡◌, ◌≤◌, map, refl, ◌∙◌, arith}
use Rattle.std.specs.declared.cmp.Ordering.{Ordering}
use Rattle.std.specs.declared.cmp.Ordering.TheVariants.{Less, Equal, Greater}
use Rattle.std.specs.Ordering.{nat_cmp, ordering_then}
use Rattle.register.specs.Offices.{WardEntry, CandidateEntry, MapsAreSorted, ward_entry, candidate_entry, candidate_cmp}
use Rattle.register.specs.Nominations.{are_enough}
use Rattle.register.specs.StateConditions.{all_nominated}
use Rattle.rowcheck.specs.declared.rows.Rows.{Rows}
use Rattle.rowcheck.specs.States.{state_of}
use Rattle.rowcheck.specs.Walks.Nominations.{are_nominated}
use Rattle.rowcheck.proofs.SideBySideLemmas.{by_run_map, below_from, equal_from, walk_tells}

-- candidates in key order are ordered by ward
ward_order : (c d : CandidateEntry) → candidate_cmp c d ≡ Less → c.ward ≤ d.ward
ward_order c d less = go (nat_cmp c.ward d.ward) refl less
  where
    go : (o : Ordering) → nat_cmp c.ward d.ward ≡ o → ordering_then o (nat_cmp c.number d.number) ≡ Less → c.ward ≤ d.ward
    go Less is told = let e = below_from c.ward d.ward is in omega (arith, e)
    go Equal is told = let e = equal_from c.ward d.ward is in omega (arith, e)
    go Greater is told = absurd (cc)

-- the walk checks that every candidate belongs to an existing ward, and that every ward has the candidates that
-- its phase requires
pub walked : (rows : Rows) → MapsAreSorted (state_of rows) → are_nominated rows.wards.items rows.candidates.items ≡ all_nominated (state_of rows)
walked rows rise =
    by_run_map ward_entry candidate_entry (λ (w : WardEntry). w.number) (λ (c : CandidateEntry). c.ward) (λ w candidates. are_enough w.phase w candidates) rows.wards.items rows.candidates.items
    ∙ walk_tells (λ (w : WardEntry). w.number) (λ (c : CandidateEntry). c.ward) candidate_cmp ward_order (λ w candidates. are_enough w.phase w candidates) (map ward_entry rows.wards.items)
    (map candidate_entry rows.candidates.items) rise.wards rise.candidates
