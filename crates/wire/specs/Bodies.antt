-- The body of a clerk's keying.
use Rattle.std.specs.Prelude.{◌&&◌, ◌∷◌, List, [], Option, Some, None, codes, bytes_eq, if◌then◌else◌, length, map, nat_le, option_map, option_and_then, string_bytes, take, ℕ}
use Rattle.std.specs.Str.{is_utf8}
use Rattle.serde_json.specs.Data.{Data, Items, Members, item, member, no_items, no_members}
use Rattle.serde_json.specs.Find.{as_array, as_number, as_object, as_str, as_u64}
use Rattle.serde_json.specs.Read.{read}
use Rattle.wire.specs.declared.body.KeyingBody.{KeyingBody}

-- the contents of a body: the id of the keying, its round, and the marks text of each paper
pub record KeyingEntry : Type 0 where
  pub id : List ℕ
  pub round : ℕ
  pub papers : List (List ℕ)

-- the contents of a parsed body
abbrev pub body_entry : KeyingBody → KeyingEntry
body_entry body = record { id = string_bytes body.id; round = body.round; papers = map string_bytes body.papers.items }

-- the texts of the values, if all of them are strings
abbrev pub texts_in : Items → Option (List (List ℕ))
texts_in no_items = Some []
texts_in (item first others) = option_and_then (λ text. option_map (λ texts. text ∷ texts) (texts_in others)) (as_str first)

-- the texts in a list of strings
abbrev pub list_in : Data → Option (List (List ℕ))
list_in value = option_and_then texts_in (as_array value)

-- a number that fits in 32 bits
abbrev pub round_in : Data → Option ℕ
round_in value = option_and_then (λ n. if nat_le n 4294967295 then Some n else None) (option_and_then as_u64 (as_number value))

-- the values of `id`, `papers` and `round`, if an object has exactly these members
abbrev pub key_members : Members → Option (Data × Data × Data)
key_members (member a id (member b papers (member c round no_members))) =
    if bytes_eq a (codes "id") && (bytes_eq b (codes "papers") && bytes_eq c (codes "round")) then Some (id, papers, round) else None
key_members (member a id (member b papers (member c round (member d other more)))) = None
key_members (member a id (member b papers no_members)) = None
key_members (member a id no_members) = None
key_members no_members = None

-- the keying made from three values
abbrev pub keying_from : Data × Data × Data → Option KeyingEntry
keying_from (id, papers, round) =
    option_and_then (λ i. option_and_then (λ ps. option_map (λ r. record { id = i; round = r; papers = ps }) (round_in round)) (list_in papers)) (as_str id)

-- the keying in a value
abbrev pub keying_in : Data → Option KeyingEntry
keying_in value = option_and_then keying_from (option_and_then key_members (as_object value))

-- the body of n bytes after a head, if that many bytes follow it
abbrev pub body_in : ℕ → List ℕ → Option (List ℕ)
body_in n behind = if nat_le n (length behind) then Some (take n behind) else None

-- the JSON of a text, as `serde_json` reads it
abbrev pub json_in : List ℕ → Option Data
json_in text = if is_utf8 text then read text else None

-- the keying in a body
abbrev pub keying_of : List ℕ → Option KeyingEntry
keying_of body = option_and_then keying_in (json_in body)
