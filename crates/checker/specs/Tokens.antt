-- Splitting a text into lines, and a line into words.
use Rattle.std.specs.Prelude.{ℕ, ◌==◌, ◌&&◌, ◌||◌, ◌++◌, Bool, List, [], ◌∷◌, if◌then◌else◌}
use Rattle.checker.specs.declared.tokens.LineKind.{LineKind}
use Rattle.checker.specs.declared.tokens.LineKind.TheVariants.{Empty, Comment, Content}
use Rattle.checker.specs.declared.tokens.Separator.{Separator}
use Rattle.checker.specs.declared.tokens.Separator.TheVariants.{LineFeed, Blank, Mark, Equals, Colon}

-- a sequence of bytes
abbrev pub Text : Type 0
Text = List ℕ

-- a space, a tab, or a carriage return, such as before a line feed
abbrev pub is_blank : ℕ → Bool
is_blank byte = byte == 32 || (byte == 9 || byte == 13)

-- Whether a byte separates two pieces. A line feed separates lines, and blanks separate words; in our own comments, so do colons and commas. An
-- equals sign separates the candidates who share a rank, and a colon separates the stage of a lot from its candidate.
abbrev pub parts : Separator → ℕ → Bool
parts LineFeed byte = byte == 10
parts Blank byte = is_blank byte
parts Mark byte = is_blank byte || (byte == 58 || byte == 44)
parts Equals byte = byte == 61
parts Colon byte = byte == 58

-- a word, if there is one
abbrev pub word : Text → List Text
word [] = []
word (byte ∷ bytes) = (byte ∷ bytes) ∷ []

-- a complete piece: a line, one of the candidates who share a rank, or a part of a lot may be empty, but an empty piece between two blanks isn't a word
abbrev pub piece : Separator → Text → List Text
piece LineFeed text = text ∷ []
piece Blank text = word text
piece Mark text = word text
piece Equals text = text ∷ []
piece Colon text = text ∷ []

-- the pieces of a text, given the bytes of the first piece so far
abbrev pub pieces_of : Separator → Text → Text → List Text
pieces_of separator begun [] = piece separator begun
pieces_of separator begun (byte ∷ bytes) =
    if parts separator byte then piece separator begun ++ pieces_of separator [] bytes else pieces_of separator (begun ++ byte ∷ []) bytes

-- a text without its leading byte order mark, if it has one
abbrev pub behind_byte_order_mark : Text → Text
behind_byte_order_mark (a ∷ b ∷ c ∷ text) = if a == 239 && (b == 187 && c == 191) then text else a ∷ b ∷ c ∷ text
behind_byte_order_mark text = text

-- the lines of a text; a leading byte order mark is skipped
abbrev pub lines_of : Text → List Text
lines_of text = pieces_of LineFeed [] (behind_byte_order_mark text)

-- the words of a line
abbrev pub words_of : Text → List Text
words_of line = pieces_of Blank [] line

-- the kind of a line: only blanks, a `#` after blanks, or something else
abbrev pub kind_of : Text → LineKind
kind_of [] = Empty
kind_of (byte ∷ bytes) = if is_blank byte then kind_of bytes else (if byte == 35 then Comment else Content)
