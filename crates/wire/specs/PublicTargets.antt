-- The targets of what is shown in public.
use Rattle.std.specs.Prelude.{◌≡◌, ◌++◌, List, Option, Some, None, bytes_eq, codes, drop, if◌then◌else◌, nat_eq, option_map, ℕ}
use Rattle.std.specs.List.{starts_with}
use Rattle.wire.specs.Numbers.{number_in}
use Rattle.wire.specs.OfficeTargets.{after_digits, leading_number}
use Rattle.wire.specs.declared.public_target.PublicTarget.{PublicTarget}
use Rattle.wire.specs.declared.public_target.PublicTarget.TheVariants.{Index, Screen, Wards, Page}

-- the page of a ward, given everything after `/wards/`
abbrev pub page_after_prefix : List ℕ → Option PublicTarget
page_after_prefix behind = if bytes_eq (after_digits behind) (codes "/page") then option_map (λ ward. Page ward) (leading_number behind) else None

abbrev pub ward_page_by : List ℕ → Option PublicTarget
ward_page_by target = if starts_with nat_eq target (codes "/wards/") then page_after_prefix (drop 7 target) else None

-- what is shown in public at a target
abbrev pub public_by : List ℕ → Option PublicTarget
public_by target =
    if bytes_eq target (codes "/") then Some Index
    else (if bytes_eq target (codes "/screen") then Some Screen
    else (if bytes_eq target (codes "/screen/wards") then Some Wards else ward_page_by target))

-- ---- the targets in plain words

-- the target of something that is shown in public: its path, with the number, if any, written in 1 to 5 digits, without leading zeros
abbrev pub IsPublicTarget : PublicTarget → List ℕ → Type 0
IsPublicTarget Index target = target ≡ codes "/"
IsPublicTarget Screen target = target ≡ codes "/screen"
IsPublicTarget Wards target = target ≡ codes "/screen/wards"
IsPublicTarget (Page ward) target = (w : List ℕ) × (target ≡ codes "/wards/" ++ (w ++ codes "/page")) × (number_in w ≡ Some ward)
