-- The names in a file of ballots: one per line, in quotation marks, with an optional comment after it.
use Rattle.std.specs.Prelude.{ℕ, ◌==◌, ◌||◌, if◌then◌else◌, [], ◌∷◌, ◌++◌, fold, Result, Err, Ok, nat_lt, length}
use Rattle.std.specs.Str.{is_utf8}
use Rattle.checker.specs.Outcomes.{and_then}
use Rattle.checker.specs.ForeignComments.{skip_foreign}
use Rattle.checker.specs.Tokens.{Text, is_blank}
use Rattle.checker.specs.declared.names.Within.{Within}
use Rattle.checker.specs.declared.names.Within.TheVariants.{Before, Inside, Escaped, Behind, Comment, Beside}
use Rattle.checker.specs.declared.problem.BallotsFlaw.{BallotsFlaw}
use Rattle.checker.specs.declared.problem.BallotsFlaw.TheVariants.{LongName, NoName, NotUtf8, OpenQuote}

-- the maximum length of a name in bytes
abbrev pub max_name : ℕ
max_name = 1000

-- the name read so far, the comment after it, and the position of the next byte in its line
pub record Quoting : Type 0 where
  pub name : Text
  pub comment : Text
  pub within : Within

-- the same state, with another position for the next byte
abbrev pub moved_to : Within → Quoting → Quoting
moved_to within quoting = record { name = quoting.name; comment = quoting.comment; within = within }

-- bytes appended to the name
abbrev pub with_bytes : Quoting → Text → Quoting
with_bytes quoting bytes = record { name = quoting.name ++ bytes; comment = quoting.comment; within = Inside }

-- a byte appended to the comment
abbrev pub with_comment_byte : Quoting → ℕ → Quoting
with_comment_byte quoting byte = record { name = quoting.name; comment = quoting.comment ++ byte ∷ []; within = Comment }

-- a byte outside the name: the given sign moves to the next position, a blank changes nothing, and any other byte is an error
abbrev pub outside : ℕ → Within → Quoting → ℕ → Quoting
outside sign next quoting byte = if byte == sign then moved_to next quoting else (if is_blank byte then quoting else moved_to Beside quoting)

-- another byte: a quotation mark opens or closes the name; within the name, a backslash escapes a quotation mark or a backslash, and is literal
-- before any other byte; after the name, `#` begins a comment
abbrev pub quoting_at : Within → Quoting → ℕ → Quoting
quoting_at Before quoting byte = outside 34 Inside quoting byte
quoting_at Inside quoting byte =
    if byte == 34 then moved_to Behind quoting else (if byte == 92 then moved_to Escaped quoting else with_bytes quoting (byte ∷ []))
quoting_at Escaped quoting byte = if byte == 34 || byte == 92 then with_bytes quoting (byte ∷ []) else with_bytes quoting (92 ∷ byte ∷ [])
quoting_at Behind quoting byte = outside 35 Comment quoting byte
quoting_at Comment quoting byte = with_comment_byte quoting byte
quoting_at Beside quoting byte = quoting

abbrev pub with_byte : Quoting → ℕ → Quoting
with_byte quoting byte = quoting_at quoting.within quoting byte

-- a name if it is UTF-8 and not too long
abbrev pub as_text : Text → Result Text BallotsFlaw
as_text name = if nat_lt max_name (length name) then Err LongName else (if is_utf8 name then Ok name else Err NotUtf8)

-- the name in a line that has been read to its end
abbrev pub name_at : Within → Quoting → Result Text BallotsFlaw
name_at Before quoting = Err NoName
name_at Inside quoting = Err OpenQuote
name_at Escaped quoting = Err OpenQuote
name_at Behind quoting = as_text quoting.name
name_at Comment quoting = and_then (skip_foreign quoting.comment) (λ passed. as_text quoting.name)
name_at Beside quoting = Err NoName

abbrev pub name_of : Quoting → Result Text BallotsFlaw
name_of quoting = name_at quoting.within quoting

-- `"Ann"`: the name in a line
abbrev pub name_in : Text → Result Text BallotsFlaw
name_in line = name_of (fold with_byte (record { name = []; comment = []; within = Before }) line)
