-- An origin in the form that browsers send: a scheme, a host and its port.
use Rattle.std.specs.Prelude.{◌&&◌, ◌||◌, ◌==◌, ◌∷◌, Bool, List, [], None, Option, Some, bytes_eq, codes, drop, false, if◌then◌else◌, length, nat_eq, nat_le, nat_lt, not, true, ℕ}
use Rattle.std.specs.Char.{is_ascii_digit, is_ascii_lowercase}
use Rattle.std.specs.List.{list_all, prefix_len, starts_with}
use Rattle.origins.specs.declared.origin.Origin.{Origin}

-- whether a text consists of digits only, and has at least one
abbrev pub are_digits : List ℕ → Bool
are_digits text = nat_lt 0 (length text) && list_all is_ascii_digit text

-- ---- a host and its port

-- whether a text is what may follow a host: a colon and a port of 1 to 5 digits, or nothing
abbrev pub is_port_or_none : List ℕ → Bool
is_port_or_none [] = true
is_port_or_none (b ∷ bs) = (b == 58) && (nat_le (length bs) 5 && are_digits bs)

-- whether a text is the given one, with or without a port after it
abbrev pub is_with_port : List ℕ → List ℕ → Bool
is_with_port front text = starts_with nat_eq text front && is_port_or_none (drop (length front) text)

-- ---- the origin of pages behind a proxy

-- whether a byte may appear in a host as browsers send it: a lower-case letter, a digit, a hyphen, a dot or an underscore
abbrev pub is_host_byte : ℕ → Bool
is_host_byte b = is_ascii_lowercase b || (is_ascii_digit b || ((b == 45) || ((b == 46) || (b == 95))))

-- whether a text is a host of at least one byte, with or without a port after it; browsers leave out the default port of the scheme
abbrev pub is_authority : List ℕ → List ℕ → Bool
is_authority own_port text =
    nat_lt 0 (prefix_len is_host_byte text)
    && (is_port_or_none (drop (prefix_len is_host_byte text) text) && not (bytes_eq (drop (prefix_len is_host_byte text) text) own_port))

-- the part of an origin after its scheme
abbrev pub authority_of : List ℕ → List ℕ
authority_of text = if starts_with nat_eq text (codes "https://") then drop 8 text else drop 7 text

-- whether a text is an origin in the form that browsers send: a scheme, a host and its port, and nothing after them
abbrev pub is_origin : List ℕ → Bool
is_origin text =
    if starts_with nat_eq text (codes "https://") then is_authority (codes ":443") (drop 8 text) else
    (if starts_with nat_eq text (codes "http://") then is_authority (codes ":80") (drop 7 text) else false)

-- the text of an origin
abbrev pub origin_text : Origin → List ℕ
origin_text origin = origin.text.now

-- the origin in a text, if the text is one
abbrev pub origin_in : List ℕ → Option (List ℕ)
origin_in text = if is_origin text then Some text else None
