-- An order as it is sent to the server, and its only encoding.
use Rattle.std.specs.Prelude.{ℕ, ◌<◌, ◌^◌, List, [], ◌∷◌, ◌++◌, length, map, option_map, Option, Some, None, IfSome}
use Rattle.std.specs.List.{flat_map, AllByRecursion}
use Rattle.std.specs.Int.{w32, w64, to_be_bytes}
use Rattle.order_protocol.specs.declared.order_message.MessagePart.{MessagePart}
use Rattle.order_protocol.specs.declared.order_message.OrderMessage.{OrderMessage}

-- either a word, without bytes; or the path of a file, with the file's bytes unless it couldn't be read
pub record MessagePartEntry : Type 0 where
  pub name : List ℕ
  pub bytes : Option (List ℕ)

-- An order as it is sent to the server. It contains the version of the program that sends it, and the device and inode numbers of the file that it is for. Then come
-- the words that were typed, the folder in which they were typed, and the files that the order names.
pub record OrderMessageEntry : Type 0 where
  pub version : List ℕ
  pub device : ℕ
  pub inode : ℕ
  pub folder : List ℕ
  pub words : List MessagePartEntry
  pub files : List MessagePartEntry

abbrev pub message_part_entry : MessagePart → MessagePartEntry
message_part_entry p = record { name = p.name.now; bytes = option_map (λ b. b.now) p.bytes }

abbrev pub message_part_entries : List MessagePart → List MessagePartEntry
message_part_entries ps = map message_part_entry ps

abbrev pub order_message_entry : OrderMessage → OrderMessageEntry
order_message_entry h = record {
  version = h.version.now;
  device = h.device;
  inode = h.inode;
  folder = h.folder.now;
  words = message_part_entries h.words.items;
  files = message_part_entries h.files.items;
}

-- the length in four bytes, followed by that many bytes
abbrev pub string : List ℕ → List ℕ
string bytes = to_be_bytes w32 (length bytes) ++ bytes

-- a flag, followed by the string if there is one
abbrev pub optional : Option (List ℕ) → List ℕ
optional None = 0 ∷ []
optional (Some bytes) = 1 ∷ string bytes

abbrev pub piece : MessagePartEntry → List ℕ
piece p = string p.name ++ optional p.bytes

-- the number of pieces, followed by the pieces
abbrev pub pieces : List MessagePartEntry → List ℕ
pieces ps = to_be_bytes w32 (length ps) ++ flat_map piece ps

abbrev pub encoding_of : OrderMessageEntry → List ℕ
encoding_of h = string h.version ++ (to_be_bytes w64 h.device ++ (to_be_bytes w64 h.inode ++ (string h.folder ++ (pieces h.words ++ pieces h.files))))

-- the piece has an encoding
pub record PieceFits (p : MessagePartEntry) : Type 0 where
  pub name : length p.name < 2 ^ 32
  pub bytes : IfSome p.bytes (λ b. length b < 2 ^ 32)

abbrev pub PiecesFit : List MessagePartEntry → Type 0
PiecesFit ps = (length ps < 2 ^ 32) × AllByRecursion PieceFits ps

pub record Fits (h : OrderMessageEntry) : Type 0 where
  pub version : length h.version < 2 ^ 32
  pub device : h.device < 2 ^ 64
  pub inode : h.inode < 2 ^ 64
  pub folder : length h.folder < 2 ^ 32
  pub words : PiecesFit h.words
  pub files : PiecesFit h.files
