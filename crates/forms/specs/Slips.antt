-- The slips of clerks, to be cut out. Each has the clerk's number and code, and the address of the clerk's page.
use Rattle.std.specs.Prelude.{ℕ, List, ◌++◌, codes}
use Rattle.std.specs.Fmt.{decimal}
use Rattle.std.specs.List.{flat_map}
use Rattle.forms.specs.Pages.{Text, escaped, escaped_ascii, page}
use Rattle.forms.specs.declared.slips.Slip.{Slip}

-- a clerk's number and code, and the origin of the keying pages
pub record SlipEntry : Type 0 where
  pub clerk : ℕ
  pub code : Text
  pub origin : Text

abbrev pub slip_entry : Slip → SlipEntry
slip_entry s = record { clerk = s.clerk; code = s.code.now; origin = s.origin.now }

-- the part of a slip with the clerk's number and code
unfoldable pub slip_head : SlipEntry → Text
slip_head s =
    codes "<div class=\"slip\">\n<p class=\"large\">Clerk " ++ (decimal s.clerk ++ (codes "</p>\n<p>Code <span class=\"code\">" ++ (escaped_ascii s.code ++ codes "</span></p>\n")))

-- the part of a slip with the address of the clerk's page
unfoldable pub slip_address : SlipEntry → Text
slip_address s = codes "<p>Address <bdi>" ++ (escaped s.origin ++ (codes "/clerks/" ++ (decimal s.clerk ++ codes "/</bdi></p>\n")))

-- the slip of a clerk
unfoldable pub slip : SlipEntry → Text
slip s =
    slip_head s ++ (slip_address s ++ codes "<p>Sign in: the name is your number, the password your code. Show this slip to nobody, and give it back when you leave.</p>\n</div>\n")

-- the slips of clerks, one after another
unfoldable pub all_slips : List SlipEntry → Text
all_slips slips = flat_map slip slips

unfoldable pub slips_body : List SlipEntry → Text
slips_body slips = codes "<div class=\"slips\">\n" ++ (all_slips slips ++ codes "</div>\n")

-- the page with the slips of clerks
unfoldable pub slips_page : List SlipEntry → Text
slips_page slips = page (codes "Slips of clerks") (slips_body slips)
