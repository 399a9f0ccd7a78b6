-- How much of an order's response is sent while the order is processed: the response consists of frames, and the stream has accepted a prefix of it.
use Rattle.std.specs.Prelude.{◌≡◌, ◌⊎◌, Bool, false, true, ◌&&◌, List, [], None, Option, Some, bytes_eq, if◌then◌else◌, length, nat_le, take, fold, ℕ}
use Rattle.connections.specs.Clients.{IsSent}
use Rattle.connections.specs.Streams.{Stream}
use Rattle.connections.specs.declared.client.PendingResponse.{PendingResponse}
use Rattle.order_protocol.specs.Frames.{AreWhole, IsOver, DecoderState, at_kind, error_output_of, decode, in_bytes, in_length, nothing_decoded, output_of}
use Rattle.server.specs.declared.frame_sink.FrameSink.{FrameSink}

-- The response consists of complete frames, none of them for the error output yet. The stream has accepted a prefix of it, of the given length, and nothing else.
pub record IsGoingOut {L : Type 0} (stream : Stream L) (now : L) (answer : PendingResponse) : Type 0 where
  pub whole : AreWhole answer.bytes.items
  pub quiet : error_output_of answer.bytes.items ≡ []
  pub told : IsSent stream now answer.bytes.items answer.sent

-- The response to an order is complete. Its frames contain all of the output that was written, and all of the error output. The last frame has the status; or an
-- allocation failed, and that frame is missing. The stream has accepted a prefix of the response.
pub record IsEnded {L : Type 0} (stream : Stream L) (said : List ℕ) (status : ℕ) (err : List ℕ) (now : L) (answer : PendingResponse) : Type 0 where
  pub told : IsSent stream now answer.bytes.items answer.sent
  pub is : said ≡ output_of answer.bytes.items
  pub end : (IsOver answer.bytes.items status [] × (error_output_of answer.bytes.items ≡ err)) ⊎ AreWhole answer.bytes.items

-- ---- the conditions above, as a test

-- the next byte is the kind byte of a frame
abbrev pub is_at_kind : DecoderState → Bool
is_at_kind at_kind = true
is_at_kind (in_length kind number left) = false
is_at_kind (in_bytes kind left) = false

-- a stream has accepted exactly the given bytes, if it is known what it has accepted
abbrev pub has_taken : Option (List ℕ) → List ℕ → Bool
has_taken None bytes = true
has_taken (Some taken) bytes = bytes_eq taken bytes

abbrev pub is_going_out : {L : Type 0} → Stream L → FrameSink L → Bool
is_going_out stream o =
    is_at_kind (fold decode nothing_decoded o.answer.bytes.items).place && (bytes_eq (error_output_of o.answer.bytes.items) [] && (nat_le o.answer.sent (length o.answer.bytes.items) && has_taken
    (stream.taken o.stream) (take o.answer.sent o.answer.bytes.items)))

-- the output written so far, as long as it is sent this way
abbrev pub said_through : {L : Type 0} → Stream L → FrameSink L → Option (List ℕ)
said_through stream o = if is_going_out stream o then Some (output_of o.answer.bytes.items) else None
