-- The first field of a keying's header: `paper`, or `paper 12/4` for the keying of batch 12 by clerk 4.
use Rattle.std.specs.Prelude.{ℕ, Bool, ◌&&◌, ◌==◌, nat_le, if◌then◌else◌, List, Option, Some, None, codes, bytes_eq}
use Rattle.std.specs.List.{before_first, after_first}
use Rattle.paper.specs.Digits.{plain_number_in}
use Rattle.keyfile.specs.declared.fault.Flaw.{Flaw}
use Rattle.keyfile.specs.declared.fault.Flaw.TheVariants.{Header, OtherKeying}

-- a space and a slash
abbrev pub is_space : ℕ → Bool
is_space b = b == 32

abbrev pub is_slash : ℕ → Bool
is_slash b = b == 47

-- a batch and a clerk, if both numbers are in range: 1 to 9999 and 1 to 999
abbrev pub in_range : Option ℕ → Option ℕ → Option (ℕ × ℕ)
in_range (Some batch) (Some clerk) = if nat_le batch 9999 && nat_le clerk 999 then Some (batch, clerk) else None
in_range (Some batch) None = None
in_range None clerk = None

-- the batch and the clerk in a text that consists of their numbers, separated by a slash
abbrev pub numbers_in : List ℕ → Option (ℕ × ℕ)
numbers_in text = in_range (plain_number_in (before_first is_slash text)) (plain_number_in (after_first is_slash text))

-- the batch and the clerk that a first field names if it consists of `paper`, a space and their numbers
abbrev pub named_in : List ℕ → Option (ℕ × ℕ)
named_in field = if bytes_eq (before_first is_space field) (codes "paper") then numbers_in (after_first is_space field) else None

-- what is wrong with a first field, given what it names: it names nothing, or it names another batch or clerk
abbrev pub flaw_of_named : ℕ → ℕ → Option (ℕ × ℕ) → Option Flaw
flaw_of_named batch clerk None = Some Header
flaw_of_named batch clerk (Some named) = if named.0 == batch && named.1 == clerk then None else Some (OtherKeying named.0 named.1)

-- what is wrong with a first field; `paper` alone is correct for any batch and clerk
abbrev pub first_field_flaw : ℕ → ℕ → List ℕ → Option Flaw
first_field_flaw batch clerk field = if bytes_eq field (codes "paper") then None else flaw_of_named batch clerk (named_in field)
