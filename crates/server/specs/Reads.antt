-- What the server keeps in memory: the cache of reads, the wrong codes that were sent, and the recorder.
use Rattle.std.specs.Prelude.{◌≡◌, ◌&&◌, Bool, false, List, [], None, Option, Some, if◌then◌else◌, map, ℕ}
use Rattle.std.specs.List.{All}
use Rattle.register.specs.Offices.{OfficeState}
use Rattle.office.specs.Values.{OfficeValue}
use Rattle.codes.specs.RateLimits.{LimitEntry, counted, is_reached, limit_entry, none_wrong}
use Rattle.wire.specs.Gates.{AuthenticationEntry}
use Rattle.wire.specs.Serving.{IsServed, reading_response}
use Rattle.wire.specs.Told.{IsTold}
use Rattle.wire.specs.declared.serving.Served.{Served}
use Rattle.wire.specs.declared.serving.Served.TheVariants.{Answered, ReadFailed, WriteFailed}
use Rattle.wire.specs.declared.target.Resource.{Resource}
use Rattle.server.specs.declared.read_cache.ReadCache.{ReadCache}
use Rattle.server.specs.declared.read_cache.CachedRead.{CachedRead}
use Rattle.server.specs.declared.server_state.ServerState.{ServerState}

-- a resource that was read, and the bytes of the response
pub record ReadEntry : Type 0 where
  pub what : Resource
  pub answer : List ℕ

abbrev pub read_entry : CachedRead → ReadEntry
read_entry k = record { what = k.what; answer = k.answer.items }

abbrev pub reads_in : ReadCache → List ReadEntry
reads_in kept = map read_entry kept.answers.items

-- The given bytes are exactly the response to a read in a given state.
pub record IsRead (s : OfficeState) (what : Resource) (answer : List ℕ) : Type 0 where
  pub status : ℕ
  pub told : IsServed (λ response. IsTold (reading_response s what) response) (Some []) (Some answer) (Answered status)

-- a response was written completely, and isn't a fault (503)
abbrev pub IsNoFault : Served → Type 0
IsNoFault (Answered status) = status ≡ 503 → ⊥
IsNoFault ReadFailed = ⊥
IsNoFault WriteFailed = ⊥

-- each cached response is correct in the given state
abbrev pub AreReadAt : OfficeState → List ReadEntry → Type 0
AreReadAt s reads = All (λ r. IsRead s r.what r.answer) reads

-- ---- wrong codes

-- whether a client must wait: its code is wrong, and the rate limit is reached
abbrev pub must_wait : Option AuthenticationEntry → ℕ → LimitEntry → Bool
must_wait None now limit = false
must_wait (Some authentication) now limit = authentication.is_wrong && is_reached limit now

-- the wrong codes sent so far, including this client's
abbrev pub limit_after : Option AuthenticationEntry → ℕ → LimitEntry → LimitEntry
limit_after None now limit = limit
limit_after (Some authentication) now limit = if authentication.is_wrong then counted now limit else limit

-- ---- what is kept in memory

-- the cached responses, the wrong codes sent so far, and the recorder
pub record MemoryEntry (R : Type 0) : Type 0 where
  pub reads : List ReadEntry
  pub limit : LimitEntry
  pub recorder : R

abbrev pub memory_entry : {R : Type 0} → ServerState R → MemoryEntry R
memory_entry kept = record { reads = reads_in kept.reads; limit = limit_entry kept.limit; recorder = kept.recorder }

-- an office that is served, together with the server's memory
pub record ServedOffice (S R : Type 0) : Type 0 where
  pub office : OfficeValue S
  pub kept : MemoryEntry R

abbrev pub served_office : {S R : Type 0} → OfficeValue S → MemoryEntry R → ServedOffice S R
served_office office kept = record { office = office; kept = kept }

-- an office with an empty cache and no wrong codes
abbrev pub with_none_kept : {S R : Type 0} → OfficeValue S → R → ServedOffice S R
with_none_kept office recorder = served_office office (record { reads = []; limit = none_wrong; recorder = recorder })
