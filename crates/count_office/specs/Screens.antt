-- What is shown on a terminal for a text that may come from anyone.
use Rattle.std.specs.Prelude.{ℕ, List, [], ◌∷◌, ◌==◌, ◌||◌, ◌&&◌, nat_le, Bool, not, if◌then◌else◌}

-- a byte is in the given range, inclusive
abbrev pub is_from : ℕ → ℕ → ℕ → Bool
is_from low high b = nat_le low b && nat_le b high

-- an ASCII control character, except for a line feed, which ends a line, and a tab, which separates columns
abbrev pub controls : ℕ → Bool
controls b = (is_from 0 31 b && not (b == 9 || b == 10)) || b == 127

-- the last byte of a control character, given the two bytes before it. U+0080 to U+009F control a terminal. U+061C, U+200E, U+200F, U+202A to U+202E and U+2066 to
-- U+2069 control the direction of text
abbrev pub ends_steering : ℕ → ℕ → ℕ → Bool
ends_steering first second b =
    (second == 194 && is_from 128 159 b) || ((second == 216 && b == 156)
    || ((first == 226 && (second == 128 && (is_from 142 143 b || is_from 170 174 b))) || (first == 226 && (second == 129 && is_from 166 169 b))))

-- the byte that is shown on a terminal, given the two bytes before it: a question mark in place of a byte that controls the terminal
abbrev pub shown_byte : ℕ → ℕ → ℕ → ℕ
shown_byte first second b = if controls b || ends_steering first second b then 63 else b

-- bytes as they are shown on a terminal, given the two bytes before them
unfoldable pub masked : ℕ → ℕ → List ℕ → List ℕ
masked first second [] = []
masked first second (b ∷ bs) = shown_byte first second b ∷ masked second b bs

-- the last two bytes after the given bytes are appended to the given two
unfoldable pub last_two : ℕ → ℕ → List ℕ → ℕ × ℕ
last_two first second [] = (first, second)
last_two first second (b ∷ bs) = last_two second b bs
