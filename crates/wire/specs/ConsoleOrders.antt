-- An order sent by the officer's console, in the body of a request: its words, and the texts of the files it names.
use Rattle.std.specs.Prelude.{◌&&◌, ◌∷◌, List, [], Option, Some, None, codes, bytes_eq, if◌then◌else◌, length, map, nat_le, option_map, option_and_then, string_bytes, ℕ}
use Rattle.serde_json.specs.Data.{Data, Members, member, no_members}
use Rattle.serde_json.specs.Find.{as_object, as_str}
use Rattle.wire.specs.Bodies.{json_in, list_in}
use Rattle.wire.specs.declared.console_order.ConsoleFile.{ConsoleFile}
use Rattle.wire.specs.declared.console_order.ConsoleOrder.{ConsoleOrder}

-- a file that an order names, with its text
pub record ConsoleFileEntry : Type 0 where
  pub name : List ℕ
  pub text : List ℕ

-- an order: its words, as typed after the name of the database, and its files
pub record ConsoleOrderEntry : Type 0 where
  pub words : List (List ℕ)
  pub files : List ConsoleFileEntry

abbrev pub console_file_entry : ConsoleFile → ConsoleFileEntry
console_file_entry file = record { name = string_bytes file.name; text = string_bytes file.text }

abbrev pub console_order_entry : ConsoleOrder → ConsoleOrderEntry
console_order_entry order = record { words = map string_bytes order.words.items; files = map console_file_entry order.files.items }

-- the maximum number of words in an order
abbrev pub most_words : ℕ
most_words = 1000

-- the maximum number of files in an order
abbrev pub most_files : ℕ
most_files = 16

-- the members as files, each with its name and its text
abbrev pub files_of : Members → Option (List ConsoleFileEntry)
files_of no_members = Some []
files_of (member name value others) = option_and_then (λ text. option_map (λ files. record { name = name; text = text } ∷ files) (files_of others)) (as_str value)

-- the files, if there aren't too many
abbrev pub files_within : List ConsoleFileEntry → Option (List ConsoleFileEntry)
files_within files = if nat_le (length files) most_files then Some files else None

abbrev pub files_in : Data → Option (List ConsoleFileEntry)
files_in value = option_and_then files_within (option_and_then files_of (as_object value))

-- the words, if there is at least one and there aren't too many
abbrev pub words_within : List (List ℕ) → Option (List (List ℕ))
words_within words = if nat_le 1 (length words) && nat_le (length words) most_words then Some words else None

abbrev pub words_in : Data → Option (List (List ℕ))
words_in value = option_and_then words_within (list_in value)

-- the values of `files` and `words`, if an object has exactly these members
abbrev pub order_members : Members → Option (Data × Data)
order_members (member a files (member b words no_members)) = if bytes_eq a (codes "files") && bytes_eq b (codes "words") then Some (files, words) else None
order_members (member a files (member b words (member c other more))) = None
order_members (member a files no_members) = None
order_members no_members = None

-- the order made from two values
abbrev pub order_by : Data × Data → Option ConsoleOrderEntry
order_by (files, words) = option_and_then (λ fs. option_map (λ ws. record { words = ws; files = fs }) (words_in words)) (files_in files)

-- the order in a body
abbrev pub order_of : List ℕ → Option ConsoleOrderEntry
order_of body = option_and_then (λ value. option_and_then order_by (option_and_then order_members (as_object value))) (json_in body)
