-- The frames in which the output of an order is sent back, and how they are decoded, byte by byte.
use Rattle.std.specs.Prelude.{◌≡◌, ℕ, zero, suc, ◌+◌, ◌*◌, ◌==◌, List, [], ◌∷◌, ◌++◌, fold, if◌then◌else◌}
use Rattle.std.specs.Int.{w32, to_be_bytes}
use Rattle.std.specs.List.{flat_map}
use Rattle.order_protocol.specs.Messages.{string}
use Rattle.order_protocol.specs.declared.frames.FrameKind.{FrameKind}
use Rattle.order_protocol.specs.declared.frames.FrameKind.TheVariants as kinds

-- the maximum number of bytes in an order that is sent to the server: 32 MiB
abbrev pub max_message : ℕ
max_message = 33554432

-- the maximum number of bytes of the output, or of the error output, in one frame: 64 KiB
abbrev pub max_frame : ℕ
max_frame = 65536

-- bytes of the output; or the end, which consists of the status and bytes of the error output; or bytes of the error output before the end
pub data Frame : Type 0 where
  said : List ℕ → Frame
  over : ℕ → List ℕ → Frame
  said_err : List ℕ → Frame

-- the byte for a kind of frame
abbrev pub kind_byte : FrameKind → ℕ
kind_byte kinds.Output = 1
kind_byte kinds.End = 2
kind_byte kinds.ErrorOutput = 3

-- the head of a frame: its kind, and the number of bytes that follow
abbrev pub head_bytes : FrameKind → ℕ → List ℕ
head_bytes kind len = kind_byte kind ∷ to_be_bytes w32 len

abbrev pub frame_kind : Frame → FrameKind
frame_kind (said bytes) = kinds.Output
frame_kind (over status err) = kinds.End
frame_kind (said_err bytes) = kinds.ErrorOutput

-- the bytes after the head of a frame
abbrev pub own_bytes : Frame → List ℕ
own_bytes (said bytes) = bytes
own_bytes (over status err) = status ∷ err
own_bytes (said_err bytes) = bytes

abbrev pub frame_bytes : Frame → List ℕ
frame_bytes (said bytes) = 1 ∷ string bytes
frame_bytes (over status err) = 2 ∷ string (status ∷ err)
frame_bytes (said_err bytes) = 3 ∷ string bytes

-- frames, one after another
abbrev pub frames_bytes : List Frame → List ℕ
frames_bytes frames = flat_map frame_bytes frames

-- What the next byte is: the kind of a frame, a byte of its length, or one of the frame's own bytes. For a byte of a length, it contains the number that the earlier
-- bytes encode, and how many more are expected. For a frame's own bytes, it contains how many more are expected.
pub data DecoderState : Type 0 where
  at_kind : DecoderState
  in_length : ℕ → ℕ → ℕ → DecoderState
  in_bytes : ℕ → ℕ → DecoderState

-- what has been decoded so far: what the next byte is, the output, and the error output
pub record Decoded : Type 0 where
  pub place : DecoderState
  pub output : List ℕ
  pub error : List ℕ

abbrev pub nothing_decoded : Decoded
nothing_decoded = record { place = at_kind; output = []; error = [] }

-- the length of a frame is followed by its bytes, if it has any
abbrev pub behind_length : ℕ → ℕ → DecoderState
behind_length kind zero = at_kind
behind_length kind (suc n) = in_bytes kind (suc n)

-- the first byte of the end is its status, and is followed by bytes of the error output
abbrev pub behind_first : ℕ → ℕ
behind_first kind = if kind == 2 then 3 else kind

-- decodes another byte
abbrev pub decode_at : DecoderState → List ℕ → List ℕ → ℕ → Decoded
decode_at at_kind output error byte = record { place = in_length byte 0 4; output = output; error = error }
decode_at (in_length kind number zero) output error byte = record { place = at_kind; output = output; error = error }
decode_at (in_length kind number (suc zero)) output error byte = record { place = behind_length kind (number * 256 + byte); output = output; error = error }
decode_at (in_length kind number (suc (suc n))) output error byte = record { place = in_length kind (number * 256 + byte) (suc n); output = output; error = error }
decode_at (in_bytes kind zero) output error byte = record { place = at_kind; output = output; error = error }
decode_at (in_bytes kind (suc n)) output error byte = record {
  place = behind_length (behind_first kind) n;
  output = if kind == 1 then output ++ byte ∷ [] else output;
  error = if kind == 3 then error ++ byte ∷ [] else error;
}

abbrev pub decode : Decoded → ℕ → Decoded
decode decoded byte = decode_at decoded.place decoded.output decoded.error byte

-- the output that is contained in the bytes of frames
abbrev pub output_of : List ℕ → List ℕ
output_of bytes = (fold decode nothing_decoded bytes).output

-- the error output that is contained in the bytes of frames
abbrev pub error_output_of : List ℕ → List ℕ
error_output_of bytes = (fold decode nothing_decoded bytes).error

-- the frames in the given bytes are complete: the next byte is the kind of another frame
abbrev pub AreWhole : List ℕ → Type 0
AreWhole bytes = (fold decode nothing_decoded bytes).place ≡ at_kind

-- The new frames are complete, and they contain the given output and error output in addition to those of the old ones.
pub record SaysMore (old new out err : List ℕ) : Type 0 where
  pub whole : AreWhole new
  pub output : output_of new ≡ output_of old ++ out
  pub error : error_output_of new ≡ error_output_of old ++ err

-- Complete frames are followed by the last one, with the given status and the given bytes of the error output, and nothing follows it.
pub record IsOver (bytes : List ℕ) (status : ℕ) (err : List ℕ) : Type 0 where
  pub front : List ℕ
  pub whole : AreWhole front
  pub is : bytes ≡ front ++ frame_bytes (over status err)
