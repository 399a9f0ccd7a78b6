-- What a stream yields and accepts, and what is received from it.
use Rattle.std.specs.Prelude.{◌≡◌, ◌<◌, ◌≤◌, ◌++◌, ◌+◌, ⊤, ℕ, zero, suc, List, Option, None, Some, Result, Ok, Err, length, option_map, take}
use Rattle.std.specs.Io.KnownBytes.{Consumes, IsAtEnd, Keeps, append_known}
use Rattle.streams.specs.declared.streams.Broken.{Broken}
use Rattle.connections.specs.declared.stream.Received.{Received}
use Rattle.connections.specs.declared.stream.Received.TheVariants.{Bytes, Nothing, End}

-- a read yielded bytes, at the start of the buffer; or none, because none have arrived yet or none will come
abbrev pub Gives : Option (List ℕ) → Option (List ℕ) → List ℕ → Result Received Broken → Type 0
Gives old new room (Ok (Bytes n)) = (0 < n) × (n ≤ length room) × Consumes old new (take n room)
Gives old new room (Ok Nothing) = Keeps old new
Gives old new room (Ok End) = IsAtEnd new × Keeps old new
Gives old new room (Err broken) = Keeps old new

-- the given bytes were appended to the accepted ones; if the accepted bytes aren't known, they stay unknown
abbrev pub Grows : Option (List ℕ) → Option (List ℕ) → List ℕ → Type 0
Grows old new bytes = new ≡ append_known old bytes

-- a write accepted a prefix of the bytes, of the given length
abbrev pub Takes : Option (List ℕ) → Option (List ℕ) → List ℕ → Result ℕ Broken → Type 0
Takes old new bytes (Ok n) = (n ≤ length bytes) × Grows old new (take n bytes)
Takes old new bytes (Err broken) = new ≡ old

-- a stream has accepted exactly the given bytes, if what it has accepted is known
abbrev pub HasTaken : Option (List ℕ) → List ℕ → Type 0
HasTaken None bytes = ⊤
HasTaken (Some taken) bytes = taken ≡ bytes

-- a known count is increased by one
abbrev pub one_more : Option ℕ → Option ℕ
one_more count = option_map (λ n. n + 1) count

-- the number of failed calls after another call
abbrev pub failed_after : {A : Type 0} → Result A Broken → Option ℕ → Option ℕ
failed_after (Ok value) failed = failed
failed_after (Err broken) failed = one_more failed

-- the number of idle calls after another read
abbrev pub idle_after_read : Result Received Broken → Option ℕ → Option ℕ
idle_after_read (Ok (Bytes n)) idle = idle
idle_after_read (Ok Nothing) idle = one_more idle
idle_after_read (Ok End) idle = idle
idle_after_read (Err broken) idle = idle

-- the number of idle calls after another write
abbrev pub idle_after_write : Result ℕ Broken → Option ℕ → Option ℕ
idle_after_write (Ok zero) idle = one_more idle
idle_after_write (Ok (suc n)) idle = idle
idle_after_write (Err broken) idle = idle

-- a count of failed calls isn't 0, if it is known
abbrev pub HasFailed : Option ℕ → Type 0
HasFailed None = ⊤
HasFailed (Some failed) = 0 < failed

-- what is known about a stream: the bytes still to come, the bytes accepted, and the number of calls that failed
pub record Stream (L : Type 0) : Type 0 where
  pub held : L → Option (List ℕ)
  pub taken : L → Option (List ℕ)
  pub failed : L → Option ℕ

abbrev pub stream_of : {L : Type 0} → (L → Option (List ℕ)) → (L → Option (List ℕ)) → (L → Option ℕ) → Stream L
stream_of held taken failed = record { held = held; taken = taken; failed = failed }

-- Bytes that a stream yielded were appended, and nothing was written to the stream.
pub record Receives {L : Type 0} (stream : Stream L) (old new : L) (before after : List ℕ) : Type 0 where
  pub more : List ℕ
  pub is : after ≡ before ++ more
  pub gave : Consumes (stream.held old) (stream.held new) more
  pub untold : stream.taken new ≡ stream.taken old

-- A stream accepted the bytes of a response from one position to another, and nothing was read from it.
pub record Delivers {L : Type 0} (stream : Stream L) (old new : L) (answer : List ℕ) (before after : ℕ) : Type 0 where
  pub within : before ≤ length answer → after ≤ length answer
  pub bytes : List ℕ
  pub is : take after answer ≡ take before answer ++ bytes
  pub took : Grows (stream.taken old) (stream.taken new) bytes
  pub unheard : Keeps (stream.held old) (stream.held new)
