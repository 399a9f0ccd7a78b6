-- The head of a request, at the start of the bytes sent by a client.
use Rattle.std.specs.Prelude.{◌≡◌, ◌<◌, ◌≤◌, List, ◌++◌, length, ℕ}
use Rattle.httparse.specs.Grammar.{IsRequestHead, MayBecomeRequest, RequestHead, print_request}

-- the maximum size of a head, in bytes
abbrev pub most_head_bytes : ℕ
most_head_bytes = 8192

-- the maximum number of header fields in a head
abbrev pub most_header_fields : ℕ
most_header_fields = 32

-- the bytes begin with a head that `httparse` accepts, within the limits on bytes and header fields; the rest follows it
pub record BeginsWith (bytes : List ℕ) (head : RequestHead) (behind : List ℕ) : Type 0 where
  pub is_head : IsRequestHead head
  pub parts : bytes ≡ print_request head ++ behind
  pub short : length (print_request head) ≤ most_head_bytes
  pub few : length head.fields ≤ most_header_fields

-- the bytes don't begin with such a head
abbrev pub HasNoHead : List ℕ → Type 0
HasNoHead bytes = (head : RequestHead) (behind : List ℕ) → ¬ (BeginsWith bytes head behind)

-- the bytes read so far contain no complete head, may still become one (according to `httparse`), and are fewer than a head may have
pub record IsHeadIncomplete (got : List ℕ) : Type 0 where
  pub none : HasNoHead got
  pub may : MayBecomeRequest got
  pub short : length got < most_head_bytes

-- the bytes begin with at most one head
abbrev pub HasOneHead : List ℕ → Type 0
HasOneHead bytes = (one two : RequestHead) (behind_one behind_two : List ℕ) → BeginsWith bytes one behind_one → BeginsWith bytes two behind_two → (one ≡ two) × (behind_one ≡ behind_two)
