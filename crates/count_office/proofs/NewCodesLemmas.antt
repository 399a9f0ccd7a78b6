-- What the orders for new codes and for slips print.
use Rattle.std.proofs.Common.{◌≡◌, ◌+◌, ◌-◌, Bool, List, [], None, Ok, Option, Some, ap, inl, inr, refl, subst, ℕ}
use Rattle.codes.specs.Files.{CodeEntry, codes_in}
use Rattle.codes.specs.Making.{ClerksEntry}
use Rattle.codes.specs.declared.fault.CodesError.{CodesError}
use Rattle.codes.specs.declared.fault.CodesError.TheVariants as codes_error
use Rattle.codes.specs.declared.fault.CodesFault.TheVariants.{NoClerks}
use Rattle.desk.specs.Forms.{slips_form}
use Rattle.desk.specs.Pages.{Outputs, Page, Shows, Tells, codes_page, printed}
use Rattle.count_office.specs.NewCodes.{IsPageOfNewCodes, IsPageOfSlips, made_page}
use Rattle.count_office.specs.Serving.{untaken}

-- the page that was printed is the order's, if it is one of the pages that the order may print
pub told_as : (old new : Outputs) (status : ℕ) (named : Option ClerksEntry) (with_office : Bool) (page : Page) → Shows old new page status → IsPageOfNewCodes named with_office page
    → Tells old new status (λ _ page. IsPageOfNewCodes named with_office page)
told_as old new status named with_office page shown is = record { page = page; cut = shown.0; shown = shown.1; is = is }

-- the reason why there are no codes is printed only to the error output
pub untaken_silent : (why : CodesError) → (untaken why).out ≡ []
untaken_silent codes_error.Memory = refl
untaken_silent (codes_error.Fault fault) = refl

-- no clerks are named
pub none_named : (named : Option ClerksEntry) (with_office : Bool) → None ≡ named → IsPageOfNewCodes named with_office (codes_page NoClerks)
none_named named with_office is = subst (λ (n : Option ClerksEntry). IsPageOfNewCodes n with_office (codes_page NoClerks)) is refl

-- codes were made for all of the clerks named
pub made_for : (named : Option ClerksEntry) (clerks : ClerksEntry) (with_office : Bool) (count : ℕ) → Some clerks ≡ named → count ≡ clerks.last + 1 - clerks.first
    → IsPageOfNewCodes named with_office (made_page with_office count)
made_for named clerks with_office count is counted =
    subst (λ (n : Option ClerksEntry). IsPageOfNewCodes n with_office (made_page with_office count)) is (inl (ap (made_page with_office) counted))

-- clerks are named, but there are no codes for them
pub unmade_for : (named : Option ClerksEntry) (clerks : ClerksEntry) (with_office : Bool) (why : CodesError) → Some clerks ≡ named → IsPageOfNewCodes named with_office (untaken why)
unmade_for named clerks with_office why is = subst (λ (n : Option ClerksEntry). IsPageOfNewCodes n with_office (untaken why)) is (inr (why, refl))

-- a page that was shown is printed, if it is one of the order for slips
pub slips_told : (old new : Outputs) (status : ℕ) (origin : List ℕ) (page : Page) → Shows old new page status → IsPageOfSlips origin page
    → Tells old new status (λ _ page. IsPageOfSlips origin page)
slips_told old new status origin page shown is = record { page = page; cut = shown.0; shown = shown.1; is = is }

-- the slips for the clerks of a file of codes are a page of that order
pub slips_printed : (origin text page : List ℕ) → ((entries : List CodeEntry) × (codes_in text ≡ Ok entries) × (page ≡ slips_form origin entries)) → IsPageOfSlips origin (printed page)
slips_printed origin text page found = inl (text, found.0, found.1, ap printed found.2)
