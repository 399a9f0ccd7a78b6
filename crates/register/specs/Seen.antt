-- What a clerk sees of an office.
use Rattle.std.specs.Prelude.{ℕ, ◌==◌, [], map}
use Rattle.std.specs.List.{filter}
use Rattle.register.specs.Offices.{KeyedEntry, ReceiptEntry, OfficeState}
use Rattle.register.specs.Effects.{at_stage}

-- A clerk sees the wards and their phases, the candidates, the batches with their clerks and rounds, and the clerk's own keyings and receipts. A clerk
-- doesn't see other clerks' keyings, whether a batch is taken, verdicts, lots, completed stages, or other actors' receipts.
abbrev pub seen_by : ℕ → OfficeState → OfficeState
seen_by clerk s =
    record {
      wards = map (at_stage 0) s.wards;
      candidates = s.candidates;
      batches = s.batches;
      thirds = s.thirds;
      keyings = filter (λ (k : KeyedEntry). k.clerk == clerk) s.keyings;
      verdicts = [];
      lots = [];
      receipts = filter (λ (r : ReceiptEntry). r.actor == clerk) s.receipts;
    }
