-- A clerk's own keying of a batch from an earlier round.
use Rattle.std.specs.Prelude.{ℕ, zero, suc, ◌-◌, List, map, Option, Some, None, option_and_then, if◌then◌else◌}
use Rattle.register.specs.Offices.{KeyedEntry, BatchEntry, OfficeState, keyed_entry, batch_at, third_at, keying_of}
use Rattle.register.specs.Agreement.{is_keyed, is_its_clerk}
use Rattle.store.specs.declared.earlier_keyings.KeyedRound.{KeyedRound}

-- a round of a batch that a clerk keyed, and the papers, in order, as the clerk keyed them
pub record KeyedRoundEntry : Type 0 where
  pub round : ℕ
  pub papers : List KeyedEntry

-- the latest of a batch's first rounds that a clerk keyed, if there is one
abbrev pub last_keyed : OfficeState → ℕ → ℕ → ℕ → Option KeyedRoundEntry
last_keyed s batch clerk zero = None
last_keyed s batch clerk (suc n) =
    if is_keyed (keying_of s batch (suc n) clerk) then Some (record { round = suc n; papers = keying_of s batch (suc n) clerk }) else last_keyed s batch clerk n

-- a clerk's own keying of a batch from the latest round before the current one that the clerk keyed; nobody else sees it
abbrev pub earlier_for : OfficeState → ℕ → BatchEntry → Option (Option KeyedRoundEntry)
earlier_for s clerk b = if is_its_clerk clerk b (third_at s b.number) then Some (last_keyed s b.number clerk (b.round - 1)) else None

-- a clerk's own earlier keying of the batch with the given number, if there is such a batch
abbrev pub earlier_at : OfficeState → ℕ → ℕ → Option (Option KeyedRoundEntry)
earlier_at s clerk batch = option_and_then (earlier_for s clerk) (batch_at s batch)

-- the entry of a keyed round
abbrev pub keyed_round_entry : KeyedRound → KeyedRoundEntry
keyed_round_entry k = record { round = k.round; papers = map keyed_entry k.papers.items }
