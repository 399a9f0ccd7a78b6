-- The keyings read for a batch.
use Rattle.std.specs.Prelude.{ℕ, List, [], map, Option, Some, None, Bool, ◌&&◌, ◌==◌}
use Rattle.register.specs.Offices.{KeyedEntry, OfficeState, keying_of, keyed_entry}
use Rattle.register.specs.Agreement.{of_three}
use Rattle.store.specs.declared.views.papers.Keyings.{Keyings}

-- the papers that a clerk keyed for a batch in a round; empty if there is no such clerk
abbrev pub keying_for : OfficeState → ℕ → ℕ → Option ℕ → List KeyedEntry
keying_for s batch round None = []
keying_for s batch round (Some clerk) = keying_of s batch round clerk

-- whether a paper belongs to a clerk's keying of a batch in a round
abbrev pub is_paper_of : ℕ → ℕ → ℕ → KeyedEntry → Bool
is_paper_of batch round clerk k = (k.batch == batch) && ((k.round == round) && (k.clerk == clerk))

-- the keyings that exist, among the given ones
abbrev pub keyings_by : Keyings → List (List KeyedEntry)
keyings_by keyings = of_three (map keyed_entry keyings.first.items) (map keyed_entry keyings.second.items) (map keyed_entry keyings.third.items)
