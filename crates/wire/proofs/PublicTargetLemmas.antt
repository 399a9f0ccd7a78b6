-- A target names something that is shown in public if and only if the target is its path.
use Rattle.std.proofs.Common.{◌≡◌, ◌∙◌, ◌-◌, ◌++◌, ℕ, Bool, true, false, List, Option, Some, None, ap, arith, codes, drop, length, refl, subst, sym, take}
use Rattle.std.specs.Prelude.{bytes_eq, if◌then◌else◌, nat_eq, option_map}
use Rattle.std.specs.Char.{is_ascii_digit}
use Rattle.std.specs.List.{prefix_len, starts_with}
use Rattle.std.proofs.lemmas.List.{length-drop, take-append-drop, take_all}
use Rattle.std.proofs.lemmas.Slice.Eq.{bytes_eq-Decides}
use Rattle.wire.specs.Numbers.{number_in}
use Rattle.wire.specs.OfficeTargets.{after_digits, leading_number}
use Rattle.wire.specs.PublicTargets.{IsPublicTarget, page_after_prefix, public_by, ward_page_by}
use Rattle.wire.specs.Targets.{named_by, routed_by}
use Rattle.wire.specs.declared.public_target.PublicTarget.{PublicTarget}
use Rattle.wire.specs.declared.public_target.PublicTarget.TheVariants.{Index, Screen, Wards, Page}
use Rattle.wire.specs.declared.target.Target.TheVariants.{Public}
use Rattle.wire.proofs.OfficeTargetLemmas.{begun, number-first, rest-behind}

-- ---- a ward's page, by the word at the start of the target

-- what follows the first n bytes of a target
tail-of : (n : ℕ) (target : List ℕ) → take (length target - n) (drop n target) ≡ drop n target
tail-of n target = take_all (length target - n) (drop n target) (omega (arith, length-drop n target))

pub of-page : (target : List ℕ) (r : Option PublicTarget) → starts_with nat_eq target (codes "/wards/") ≡ true → r ≡ page_after_prefix (take (length target - 7) (drop 7 target))
    → r ≡ ward_page_by target
of-page target r begins is = is ∙ ap page_after_prefix (tail-of 7 target) ∙ sym (rw begins refl)

-- ---- a target of something that is shown in public names it

page-numbered : (part : List ℕ) (n : ℕ) → number_in part ≡ Some n → page_after_prefix (part ++ codes "/page") ≡ Some (Page n)
page-numbered part n own = rw (number-first part (codes "/page") n own refl, rest-behind part (codes "/page") n own refl) refl

pub public-named : (target : List ℕ) (what : PublicTarget) → IsPublicTarget what target → named_by target ≡ Some (Public what)
public-named target Index is = ap named_by is
public-named target Screen is = ap named_by is
public-named target Wards is = ap named_by is
public-named target (Page n) (part, is, own) = ap named_by is ∙ rw (page-numbered part n own) refl

-- neither a sheet nor a declaration is a page
no-page : (part rest : List ℕ) (n : ℕ) → number_in part ≡ Some n → prefix_len is_ascii_digit rest ≡ 0 → bytes_eq rest (codes "/page") ≡ false → page_after_prefix (part ++ rest) ≡ None
no-page part rest n own none other = rw (number-first part rest n own none, rest-behind part rest n own none, other) refl

pub sheet-routed : (part : List ℕ) (n : ℕ) → number_in part ≡ Some n → named_by (codes "/wards/" ++ (part ++ codes "/sheet")) ≡ routed_by (codes "/wards/" ++ (part ++ codes "/sheet"))
sheet-routed part n own = rw (no-page part (codes "/sheet") n own refl refl) refl

pub declaration-routed : (part : List ℕ) (n : ℕ) → number_in part ≡ Some n → named_by (codes "/wards/" ++ (part ++ codes "/result")) ≡ routed_by (codes "/wards/" ++ (part ++ codes "/result"))
declaration-routed part n own = rw (no-page part (codes "/result") n own refl refl) refl

-- ---- and no other target does

-- what a successful comparison with a text shows: the target is this text, and names what it should
same-text : (text word target : List ℕ) (one what : PublicTarget) → (text ≡ word → IsPublicTarget one target) → bytes_eq text word ≡ true → Some one ≡ Some what → IsPublicTarget what target
same-text text word target one what own same named =
    let is : one ≡ what = cc in
    subst (λ w. IsPublicTarget w target) is (own ((bytes_eq-Decides text word).0 same))

module _ (target behind : List ℕ) (what : PublicTarget) where
  abbrev digits : ℕ
  digits = prefix_len is_ascii_digit behind

  page-own : target ≡ codes "/wards/" ++ behind → page_after_prefix behind ≡ Some what → IsPublicTarget what target
  page-own is named = by (bytes_eq (after_digits behind) (codes "/page")) refl named
    where
      numbered : (number : Option ℕ) → leading_number behind ≡ number → after_digits behind ≡ codes "/page" → option_map (λ ward. Page ward) number ≡ Some what
          → IsPublicTarget what target
      numbered None found rest named = let no : ⊥ = cc in absurd no
      numbered (Some n) found rest named =
          let same : Page n ≡ what = cc in
          subst (λ w. IsPublicTarget w target) same (
            take digits behind,
            is ∙ ap (λ b. codes "/wards/" ++ b) (sym (take-append-drop digits behind)) ∙ ap (λ r. codes "/wards/" ++ (take digits behind ++ r)) rest,
            found,
          )

      by : (b : Bool) → bytes_eq (after_digits behind) (codes "/page") ≡ b → (if b then option_map (λ ward. Page ward) (leading_number behind) else None) ≡ Some what
          → IsPublicTarget what target
      by true same named = numbered (leading_number behind) refl ((bytes_eq-Decides (after_digits behind) (codes "/page")).0 same) named
      by false other named = let no : ⊥ = cc in absurd no

pub public-own : (target : List ℕ) (what : PublicTarget) → public_by target ≡ Some what → IsPublicTarget what target
public-own target what named = index (bytes_eq target (codes "/")) refl named
  where
    pages : (b : Bool) → starts_with nat_eq target (codes "/wards/") ≡ b → (if b then page_after_prefix (drop 7 target) else None) ≡ Some what → IsPublicTarget what target
    pages true begins named = page-own target (drop 7 target) what (begun target (codes "/wards/") begins) named
    pages false other named = let no : ⊥ = cc in absurd no

    wards : (b : Bool) → bytes_eq target (codes "/screen/wards") ≡ b → (if b then Some Wards else ward_page_by target) ≡ Some what → IsPublicTarget what target
    wards true same named = same-text target (codes "/screen/wards") target Wards what (λ e. e) same named
    wards false other named = pages (starts_with nat_eq target (codes "/wards/")) refl named

    screen : (b : Bool) → bytes_eq target (codes "/screen") ≡ b
        → (if b then Some Screen else (if bytes_eq target (codes "/screen/wards") then Some Wards else ward_page_by target)) ≡ Some what → IsPublicTarget what target
    screen true same named = same-text target (codes "/screen") target Screen what (λ e. e) same named
    screen false other named = wards (bytes_eq target (codes "/screen/wards")) refl named

    index : (b : Bool) → bytes_eq target (codes "/") ≡ b
        → (if b then Some Index else (if bytes_eq target (codes "/screen") then Some Screen
        else (if bytes_eq target (codes "/screen/wards") then Some Wards else ward_page_by target))) ≡ Some what
        → IsPublicTarget what target
    index true same named = same-text target (codes "/") target Index what (λ e. e) same named
    index false other named = screen (bytes_eq target (codes "/screen")) refl named
