-- Decoding from left to right, up to the first error.
use Rattle.std.specs.Prelude.{◌≡◌, ℕ, zero, suc, get_or, nat_le, option_map, List, [], ◌∷◌, length, take, drop, Option, Some, None, Result, Ok, Err, nat_lt, ◌==◌, if◌then◌else◌}
use Rattle.std.specs.Int.{Width, w32, w64, byte_len, from_be_bytes}
use Rattle.order_protocol.specs.Frames.{max_message}
use Rattle.order_protocol.specs.declared.frames.FrameHead.{FrameHead}
use Rattle.order_protocol.specs.declared.frames.FrameKind.{FrameKind}
use Rattle.order_protocol.specs.declared.frames.FrameKind.TheVariants as kinds
use Rattle.order_protocol.specs.declared.fault.FormatError.{FormatError}
use Rattle.order_protocol.specs.declared.fault.FormatError.TheVariants.{Short, Flag, Trailing}
use Rattle.order_protocol.specs.declared.fault.DecodeError.{DecodeError}
use Rattle.order_protocol.specs.declared.fault.DecodeError.TheVariants as errors
use Rattle.order_protocol.specs.Messages.{OrderMessageEntry, MessagePartEntry}

infixl 10 ◌>>=◌
abbrev pub ◌>>=◌ : {A B : Type 0} → Result A FormatError → (A → Result B FormatError) → Result B FormatError
(Ok x) >>= f = f x
(Err e) >>= f = Err e

-- What a function returned is the result of decoding, mapped by a view, unless an allocation failed.
abbrev pub Fails : {Y : Type 0} → DecodeError → Result Y FormatError → Type 0
Fails errors.Memory read = Unit {0}
Fails (errors.FormatError f) read = read ≡ Err f

abbrev pub Gives : {X Y : Type 0} → (X → Y) → Result X DecodeError → Result Y FormatError → Type 0
Gives view (Ok x) read = read ≡ Ok (view x)
Gives view (Err e) read = Fails e read

-- Reading a field yields its value and the bytes after it.
abbrev pub number_at : Width → List ℕ → Result (ℕ × List ℕ) FormatError
number_at w bytes = if nat_lt (length bytes) (byte_len w) then Err Short else Ok (from_be_bytes w (take (byte_len w) bytes), drop (byte_len w) bytes)

unfoldable pub string_at : List ℕ → Result (List ℕ × List ℕ) FormatError
string_at bytes = do
  n ← number_at w32 bytes
  if nat_lt (length n.1) n.0 then Err Short else Ok (take n.0 n.1, drop n.0 n.1)

unfoldable pub optional_at : List ℕ → Result (Option (List ℕ) × List ℕ) FormatError
optional_at [] = Err Short
optional_at (zero ∷ rest) = Ok (None, rest)
optional_at (suc zero ∷ rest) = do
  text ← string_at rest
  Ok (Some text.0, text.1)
optional_at (suc (suc b) ∷ rest) = Err Flag

unfoldable pub piece_at : List ℕ → Result (MessagePartEntry × List ℕ) FormatError
piece_at bytes = do
  name ← string_at bytes
  own ← optional_at name.1
  Ok (record { name = name.0; bytes = own.0 }, own.1)

unfoldable pub pieces_at : ℕ → List ℕ → Result (List MessagePartEntry × List ℕ) FormatError
pieces_at zero bytes = Ok ([], bytes)
pieces_at (suc n) bytes = do
  first ← piece_at bytes
  others ← pieces_at n first.1
  Ok (first.0 ∷ others.0, others.1)

-- the number of pieces, followed by the pieces
unfoldable pub list_at : List ℕ → Result (List MessagePartEntry × List ℕ) FormatError
list_at bytes = do
  n ← number_at w32 bytes
  pieces_at n.0 n.1

-- an order that consists of exactly the given bytes
unfoldable pub order_message_in : List ℕ → Result OrderMessageEntry FormatError
order_message_in bytes = do
  version ← string_at bytes
  device ← number_at w64 version.1
  inode ← number_at w64 device.1
  folder ← string_at inode.1
  words ← list_at folder.1
  files ← list_at words.1
  if length files.1 == 0 then Ok (record { version = version.0; device = device.0; inode = inode.0; folder = folder.0; words = words.0; files = files.0 }) else Err Trailing

-- the kind of frame for a byte, which is 1, 2 or 3
abbrev pub kind_in : ℕ → Option FrameKind
kind_in zero = None
kind_in (suc zero) = Some kinds.Output
kind_in (suc (suc zero)) = Some kinds.End
kind_in (suc (suc (suc zero))) = Some kinds.ErrorOutput
kind_in (suc (suc (suc (suc n)))) = None

-- the head of a frame, with its kind and length
abbrev pub head_in : List ℕ → Option FrameHead
head_in bytes = option_map (λ kind. record { kind = kind; len = from_be_bytes w32 (drop 1 bytes) }) (kind_in (get_or bytes 0 0))

-- the length of a message, unless it is too long
abbrev pub message_len_in : List ℕ → Option ℕ
message_len_in bytes = if nat_le (from_be_bytes w64 bytes) max_message then Some (from_be_bytes w64 bytes) else None
