-- The origin of a request: which headers show that it was sent by a page from another site.
use Rattle.std.specs.Prelude.{◌&&◌, ◌||◌, Bool, List, None, Option, Some, bytes_eq, codes, false, if◌then◌else◌, nat_eq, not, option_map, ℕ}
use Rattle.std.specs.List.{list_any}
use Rattle.std.specs.Str.{str_eq_ignore_ascii_case}
use Rattle.origins.specs.Origins.{authority_of, is_with_port, origin_text}
use Rattle.origins.specs.declared.origin.Origin.{Origin}
use Rattle.wire.specs.Lengths.{NamedValue}

-- the text of the origin in the settings, if there is one
abbrev pub origin_setting : Option Origin → Option (List ℕ)
origin_setting origin = option_map origin_text origin

-- ---- headers of requests from pages on other sites

-- a value is the origin in the settings
abbrev pub is_set_origin : Option (List ℕ) → List ℕ → Bool
is_set_origin None value = false
is_set_origin (Some origin) value = bytes_eq value origin

-- a value is the host of the origin in the settings, with or without the origin's port
abbrev pub is_set_host : Option (List ℕ) → List ℕ → Bool
is_set_host None value = false
is_set_host (Some origin) value = is_with_port value (authority_of origin)

-- a value is the origin of a page served by this machine, or the origin in the settings
abbrev pub is_own_origin : Option (List ℕ) → List ℕ → Bool
is_own_origin given value = is_with_port (codes "http://127.0.0.1") value || (is_with_port (codes "http://localhost") value || is_set_origin given value)

-- the request was sent by a page from the same origin, or by the user directly
abbrev pub is_own_site : List ℕ → Bool
is_own_site value = bytes_eq value (codes "same-origin") || bytes_eq value (codes "none")

-- a value is a host name without a dot, which can't be a public name; 127.0.0.1; or the host of the origin in the settings
abbrev pub is_own_host : Option (List ℕ) → List ℕ → Bool
is_own_host given value = not (list_any (λ b. nat_eq b 46) value) || (is_with_port (codes "127.0.0.1") value || is_set_host given value)

-- a header shows that a page from another site sent the request, or that it was addressed to a foreign host name
abbrev pub is_foreign_header : Option (List ℕ) → NamedValue → Bool
is_foreign_header given field =
    if str_eq_ignore_ascii_case field.0 (codes "origin") then not (is_own_origin given field.1) else
    (if str_eq_ignore_ascii_case field.0 (codes "sec-fetch-site") then not (is_own_site field.1) else
    (str_eq_ignore_ascii_case field.0 (codes "host") && not (is_own_host given field.1)))

-- any of the headers is foreign in that sense
abbrev pub is_foreign : Option (List ℕ) → List NamedValue → Bool
is_foreign given fields = list_any (is_foreign_header given) fields
