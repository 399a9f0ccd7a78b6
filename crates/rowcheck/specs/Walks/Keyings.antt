-- The papers keyed for a single batch.
use Rattle.std.specs.Prelude.{ℕ, Bool, ◌&&◌, ◌==◌, List, Some}
use Rattle.std.specs.List.{list_all, filter}
use Rattle.register.specs.Offices.{BatchEntry, KeyedEntry, OfficeState}
use Rattle.register.specs.BatchConditions.{is_keyed_for, are_rounds_to}

-- the papers keyed for the given batch, in all rounds and by all clerks
abbrev pub papers_of : OfficeState → ℕ → List KeyedEntry
papers_of s batch = filter (λ (k : KeyedEntry). k.batch == batch) s.keyings

-- each of these papers meets the condition on keyed papers
abbrev pub are_keyed_for : OfficeState → BatchEntry → Bool
are_keyed_for s b = list_all (λ k. is_keyed_for s k (Some b)) (papers_of s b.number)

-- these papers and the batch's rounds meet the conditions
abbrev pub is_rightly_keyed : OfficeState → BatchEntry → Bool
is_rightly_keyed s b = are_keyed_for s b && are_rounds_to s b b.round
