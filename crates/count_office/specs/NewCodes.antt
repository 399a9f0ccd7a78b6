-- New codes: their file, what the order that makes them prints, and what the order for slips prints.
use Rattle.std.specs.Prelude.{◌≡◌, ◌⊎◌, ◌+◌, ◌-◌, Bool, true, false, List, None, Ok, Option, Some, ℕ}
use Rattle.codes.specs.Files.{CodeEntry, codes_in, office_in}
use Rattle.codes.specs.Making.{ClerksEntry, IsMadeFor, IsMadeWithOffice}
use Rattle.codes.specs.declared.fault.CodesError.{CodesError}
use Rattle.codes.specs.declared.fault.CodesFault.TheVariants.{NoClerks}
use Rattle.desk.specs.Forms.{slips_form}
use Rattle.desk.specs.Pages.{Page, codes_and_office_made_page, codes_made_page, codes_page, printed}
use Rattle.count_office.specs.Serving.{untaken}

-- a text is a file of new codes for the given clerks and, if requested, for the office
abbrev pub IsFileOfNewCodes : List ℕ → Bool → List ℕ → Type 0
IsFileOfNewCodes clerks false text = IsMadeFor clerks text × (office_in text ≡ None)
IsFileOfNewCodes clerks true text = IsMadeWithOffice clerks text

-- the page saying that codes were made for the given number of clerks, and whether one was made for the office
abbrev pub made_page : Bool → ℕ → Page
made_page false count = codes_made_page count
made_page true count = codes_and_office_made_page count

-- What the order for new codes prints: that codes were made for all the clerks that it names, and whether one was made for the office; or why there are no codes. If
-- the order names no clerks, that is the reason.
abbrev pub IsPageOfNewCodes : Option ClerksEntry → Bool → Page → Type 0
IsPageOfNewCodes None with_office page = page ≡ codes_page NoClerks
IsPageOfNewCodes (Some clerks) with_office page = (page ≡ made_page with_office (clerks.last + 1 - clerks.first)) ⊎ ((why : CodesError) × (page ≡ untaken why))

-- what the order for slips prints, given the origin of the keying pages: the slips for the clerks of a file of codes, or why there are none
abbrev pub IsPageOfSlips : List ℕ → Page → Type 0
IsPageOfSlips origin page =
    ((text : List ℕ) × (entries : List CodeEntry) × (codes_in text ≡ Ok entries) × (page ≡ printed (slips_form origin entries))) ⊎ ((why : CodesError) × (page ≡ untaken why))
