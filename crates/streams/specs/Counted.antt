-- The parts of a stream that counts its failures, and the results that count as failures.
use Rattle.std.specs.Prelude.{ℕ, ◌==◌, ◌&&◌, nat_lt, if◌then◌else◌, Result, Ok, Err, Option, Some, None}
use Rattle.streams.specs.declared.counted.Counted.{Counted}

-- the underlying reader or writer of a stream
abbrev pub stream_of : {T : Type 0} → Counted T → T
stream_of s = s.stream

-- the number of failed calls to a stream
abbrev pub failed_calls : {T : Type 0} → Counted T → ℕ
failed_calls s = s.failed

-- how many of `len` bytes a writer accepted, given the result of a write; an error counts as a failure, and so does accepting
-- no bytes when there are any to accept
abbrev pub taken_of : {E : Type 0} → ℕ → Result ℕ E → Option ℕ
taken_of len (Err e) = None
taken_of len (Ok n) = if n == 0 && nat_lt 0 len then None else Some n

-- how many bytes a reader supplied, given the result of a read; an error counts as a failure
abbrev pub given_of : {E : Type 0} → Result ℕ E → Option ℕ
given_of (Err e) = None
given_of (Ok n) = Some n
