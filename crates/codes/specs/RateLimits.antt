-- The limit on wrong codes, for all clients together.
use Rattle.std.specs.Prelude.{◌+◌, ◌-◌, ◌&&◌, Bool, if◌then◌else◌, min, nat_le, nat_lt, ℕ}
use Rattle.codes.specs.declared.rate_limit.RateLimit.{RateLimit}

-- the number of wrong codes per minute at which the limit is reached
abbrev pub most_wrong : ℕ
most_wrong = 6000

-- a minute, in milliseconds
abbrev pub minute : ℕ
minute = 60000

-- the wrong codes in a minute: when the minute began, in milliseconds on some clock, and how many have been sent since then, up to the limit
pub record LimitEntry : Type 0 where
  pub since : ℕ
  pub count : ℕ

abbrev pub limit_entry : RateLimit → LimitEntry
limit_entry limit = record { since = limit.since; count = limit.count }

-- no wrong code has been sent
abbrev pub none_wrong : LimitEntry
none_wrong = record { since = 0; count = 0 }

-- whether the minute isn't over; a time before its beginning, after the clock was set back, counts as its beginning
abbrev pub is_current : LimitEntry → ℕ → Bool
is_current e now = nat_lt (now - e.since) minute

-- whether the limit is reached: that many wrong codes have been sent in the current minute
abbrev pub is_reached : LimitEntry → ℕ → Bool
is_reached e now = nat_le most_wrong e.count && is_current e now

-- another wrong code was sent, in the current minute or as the first one of a new minute
abbrev pub counted : ℕ → LimitEntry → LimitEntry
counted now e =
    if is_current e now then record { since = e.since; count = min (e.count + 1) most_wrong } else record { since = now; count = 1 }
