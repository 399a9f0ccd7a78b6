-- An open connection: what has been received from it, and what has been sent to it, since it was accepted.
use Rattle.std.specs.Prelude.{◌≡◌, ◌≤◌, ℕ, Bool, true, false, List, [], IsSomeAnd, Option, Some, None, Result, Ok, Err, length, slice_get, take}
use Rattle.std.specs.Io.KnownBytes.{Consumes}
use Rattle.std.specs.List.{All}
use Rattle.streams.specs.declared.streams.Broken.{Broken}
use Rattle.connections.specs.Streams.{HasTaken, Stream as LineEntry, one_more}
use Rattle.connections.specs.declared.client.PendingResponse.{PendingResponse}
use Rattle.connections.specs.declared.client.Client.{Client}
use Rattle.connections.specs.declared.client.Accepted.{Accepted}
use Rattle.connections.specs.declared.client.ReadProgress.{ReadProgress}
use Rattle.connections.specs.declared.client.ReadProgress.TheVariants.{Enough, Waits, Ended}
use Rattle.connections.specs.declared.client.ReceiveError.{ReceiveError}
use Rattle.connections.specs.declared.client.ReceiveError.TheVariants as lost
use Rattle.connections.specs.declared.stream.Received.{Received}
use Rattle.connections.specs.declared.stream.Received.TheVariants.{Bytes, Nothing, End}
use Rattle.connections.specs.declared.slice_source.SliceSource.{SliceSource}
use Rattle.connections.specs.declared.vec_sink.VecSink.{VecSink}

-- the number of bytes read at once
abbrev pub chunk : ℕ
chunk = 16384

-- If receiving fails, there is a cause: a call on the stream failed, or the buffer was full and couldn't grow. Otherwise no call failed.
abbrev pub IsCaused : {A : Type 0} → Result A ReceiveError → Option ℕ → Option ℕ → Type 0 → Type 0
IsCaused (Ok value) old new full = new ≡ old
IsCaused (Err lost.Stream) old new full = new ≡ one_more old
IsCaused (Err lost.Memory) old new full = (new ≡ old) × full

-- the number of idle calls after one read, after several reads, and after several writes; it is one higher if nothing more has arrived or is accepted
abbrev pub idle_after_once : Result Received ReceiveError → Option ℕ → Option ℕ
idle_after_once (Ok Nothing) idle = one_more idle
idle_after_once (Ok (Bytes n)) idle = idle
idle_after_once (Ok End) idle = idle
idle_after_once (Err why) idle = idle

abbrev pub idle_after_wait : Result ReadProgress ReceiveError → Option ℕ → Option ℕ
idle_after_wait (Ok Waits) idle = one_more idle
idle_after_wait (Ok Enough) idle = idle
idle_after_wait (Ok Ended) idle = idle
idle_after_wait (Err why) idle = idle

abbrev pub idle_after_put : Result Bool Broken → Option ℕ → Option ℕ
idle_after_put (Ok false) idle = one_more idle
idle_after_put (Ok true) idle = idle
idle_after_put (Err broken) idle = idle

-- the bytes still to be read
abbrev pub left_of : SliceSource → List ℕ
left_of g = g.bytes.now

-- the bytes written so far
abbrev pub written_in : VecSink → List ℕ
written_in w = w.bytes.items

-- the number of writes that failed
abbrev pub failed_writes : VecSink → ℕ
failed_writes w = w.failed

-- The bytes received are those that the stream has yielded since the connection was accepted, and nothing has been sent yet.
pub record IsReceived {L : Type 0} (stream : LineEntry L) (start now : L) (got : List ℕ) : Type 0 where
  pub gave : Consumes (stream.held start) (stream.held now) got
  pub untold : HasTaken (stream.taken now) []

-- A prefix of the response, of the given length, was sent, and nothing else.
pub record IsSent {L : Type 0} (stream : LineEntry L) (now : L) (answer : List ℕ) (sent : ℕ) : Type 0 where
  pub within : sent ≤ length answer
  pub took : HasTaken (stream.taken now) (take sent answer)

-- the response for a connection from which the given bytes were received: there is none yet, or it is being sent
abbrev pub IsServedSo : {L : Type 0} → LineEntry L → L → L → List ℕ → Option PendingResponse → Type 0
IsServedSo stream start now got None = IsReceived stream start now got
IsServedSo stream start now got (Some answer) = IsSent stream now answer.bytes.items answer.sent

-- A connection has just been accepted from the given listener, with the given stream, number and time: nothing has been read from it, and it has no response.
pub record IsNew {L : Type 0} (accepted : Accepted L) (number now : ℕ) (client : Client L) : Type 0 where
  pub at : client.listener ≡ accepted.listener
  pub over : client.stream ≡ accepted.stream
  pub numbered : client.number ≡ number
  pub since : client.since ≡ now
  pub unheard : client.got.items ≡ []
  pub unanswered : client.answer ≡ None
  pub all_read : client.unread_body_bytes ≡ 0

-- two values represent the same connection, whatever was read from its stream
abbrev pub IsSameButReceived : {L : Type 0} → Client L → Client L → Type 0
IsSameButReceived old new = (new.listener ≡ old.listener) × (new.number ≡ old.number) × (new.since ≡ old.since)

-- a connection whose stream was in the given state when the connection was accepted
abbrev pub IsOf : {L : Type 0} → LineEntry L → L → Client L → Type 0
IsOf stream start client = IsServedSo stream start client.stream client.got.items client.answer

-- each of the given connections has the stream that was accepted under its number
abbrev pub AllOf : {L : Type 0} → LineEntry L → List L → List (Client L) → Type 0
AllOf stream came clients = All (λ client. IsSomeAnd (slice_get came client.number) (λ start. IsOf stream start client)) clients
