-- How twins are found: from the numbers of batches, grouped by the text of their papers.
use Rattle.std.specs.Prelude.{◌≡◌, ◌==◌, ℕ, Bool, false, not, if◌then◌else◌, List, [], length, map, find, Option, Some, None, option_map, String, Vec, string_bytes}
use Rattle.std.specs.List.{filter, filter_map}
use Rattle.std.specs.Option.{option_map_or}
use Rattle.std.specs.Str.{bytes_eq}
use Rattle.std.specs.HashMap.{HashMap, get_by_text}
use Rattle.register.specs.Offices.{BatchEntry, KeyedEntry, JudgedEntry, OfficeState, third_entry, third_at}
use Rattle.register.specs.Agreement.{agreed, is_open, keyings_now}
use Rattle.store.specs.declared.views.papers.Keyings.{Keyings}
use Rattle.store.specs.declared.overviews.piles.ReadBatch.{ReadBatch}
use Rattle.store.specs.Keyings.{keyings_by}
use Rattle.store.specs.Overviews.{BatchView, standing_by, batch_view, batch_view_with, pile_in}

-- the given keyings are those of a batch's current round, along with its third clerk
pub record KeyingsAre (s : OfficeState) (b : BatchEntry) (keyings : Keyings) : Type 0 where
  pub third_is : option_map third_entry keyings.third_clerk ≡ third_at s b.number
  pub they_are : keyings_by keyings ≡ keyings_now s b

-- the overview of a batch, without its twin, from its clerks, its keyings and the verdicts on its papers
abbrev pub view_by : BatchEntry → List (ℕ × Bool) → List (List KeyedEntry) → List JudgedEntry → BatchView
view_by b clerks keyings verdicts = record { batch = b; clerks = clerks; standing = standing_by keyings; doubtful_open = length (filter (is_open verdicts) (agreed keyings)); twin = None }

-- a batch's number; its papers as one text, if it is taken; and its overview, without its twin, if it belongs to the requested ward
pub record ReadView : Type 0 where
  pub number : ℕ
  pub pile : Option (List ℕ)
  pub overview : Option BatchView

abbrev pub read_view : ReadBatch → ReadView
read_view r = record { number = r.number; pile = option_map string_bytes r.pile; overview = option_map batch_view r.overview }

abbrev pub overview_in : OfficeState → ℕ → BatchEntry → Option BatchView
overview_in s ward b = if b.ward == ward then Some (batch_view_with s b None) else None

abbrev pub read_view_of : OfficeState → ℕ → BatchEntry → ReadView
read_view_of s ward b = record { number = b.number; pile = pile_in s b; overview = overview_in s ward b }

-- whether a pile is the given text
abbrev pub is_pile : List ℕ → Option (List ℕ) → Bool
is_pile text None = false
is_pile text (Some pile) = bytes_eq text pile

-- the numbers of the batches whose pile is the given text
abbrev pub numbers_with : List ReadView → List ℕ → List ℕ
numbers_with batches text = map (λ (r : ReadView). r.number) (filter (λ (r : ReadView). is_pile text r.pile) batches)

-- the numbers that a map has for a text
abbrev pub numbers_under : {Y A S : Type 0} → HashMap (String Y) (Vec ℕ A) S → List ℕ → List ℕ
numbers_under numbers text = option_map_or (λ group. group.items) (get_by_text numbers text) []

-- the first number with the same pile, other than the batch's own
abbrev pub twin_under : (List ℕ → List ℕ) → ℕ → Option (List ℕ) → Option ℕ
twin_under numbers number None = None
twin_under numbers number (Some pile) = find (λ n. not (n == number)) (numbers pile)

-- the overview of a batch, with its twin
abbrev pub paired : (List ℕ → List ℕ) → ReadView → Option BatchView
paired numbers r = option_map (λ (v : BatchView). record v { twin = twin_under numbers r.number r.pile }) r.overview

abbrev pub all_paired : (List ℕ → List ℕ) → List ReadView → List BatchView
all_paired numbers batches = filter_map (paired numbers) batches
