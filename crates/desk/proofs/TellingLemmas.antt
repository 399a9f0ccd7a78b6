-- Pages that are printed one after another, and how much of them was written.
use Rattle.std.proofs.Common.{◌≡◌, ◌≢◌, ◌∙◌, ℕ, true, false, true≢false, Bool, [], ◌++◌, refl, sym, ap, subst, arith, eqb-true}
use Rattle.std.specs.Prelude.{◌==◌}
use Rattle.std.proofs.KnownBytes.{Appends-nil}
use Rattle.std.proofs.lemmas.List.{append_assoc}
use Rattle.clap.specs.Words.{Text}
use Rattle.desk.specs.Pages.{Cut, uncut, cut_behind, cut_error, IsShown, IsWhole, Outputs, Page, below, cut_below, empty_page, goes_on, combined_status}
use Rattle.desk.proofs.PageLemmas.{below_last, broken_ends}

-- the pages so far were written completely, one after another, with the given combined status
pub record ToldSo (old new : Outputs) (status : ℕ) (P : Page → Type 0) : Type 0 where
  pub said : Page
  pub shown : IsWhole old new said status
  pub is : P said

pub nothing_told : (old : Outputs) → IsWhole old old empty_page 0
nothing_told old = record { out = Appends-nil old.out; out_failed = refl; err = Appends-nil old.err; err_failed = refl; ends = refl }

pub told_all : (old new : Outputs) (said : Page) (status : ℕ) → IsWhole old new said status → IsWhole old new (below said empty_page) status
told_all old new said status all = subst (λ page. IsWhole old new page status) (sym (below_last said)) all

-- ---- the statuses after which the sequence continues

-- the sequence doesn't continue after the status of a fault
pub not_after_fault : (keep : Bool) (status : ℕ) → status ≡ 3 → goes_on keep status ≡ false
not_after_fault true status three = rw three refl
not_after_fault false status three = rw three refl

-- if the sequence continues after each of two statuses, it also continues after their combined status
pub goes_after_both : (keep : Bool) (a b : ℕ) → goes_on keep a ≡ true → goes_on keep b ≡ true → goes_on keep (combined_status a b) ≡ true
goes_after_both keep a b first last = by (b == 0) refl
  where
    by : (t : Bool) → (b == 0) ≡ t → goes_on keep (combined_status a b) ≡ true
    by true e = let same : combined_status a b ≡ a = rw e refl in ap (goes_on keep) same ∙ first
    by false e = let same : combined_status a b ≡ b = rw e refl in ap (goes_on keep) same ∙ last

pub goes_after_last : (keep : Bool) (a b : ℕ) → goes_on keep (combined_status a b) ≡ true → goes_on keep b ≡ true
goes_after_last keep a b both = by (b == 0) refl
  where
    by : (t : Bool) → (b == 0) ≡ t → goes_on keep b ≡ true
    by true e = rw e refl
    by false e = let same : combined_status a b ≡ b = rw e refl in ap (goes_on keep) (sym same) ∙ both

-- the sequence continues after status 0
pub goes_after_zero : (keep : Bool) (status : ℕ) → status ≡ 0 → goes_on keep status ≡ true
goes_after_zero keep status zero = rw zero refl

-- if the combined status of two pages is 0, so is the status of the second one
pub zero_last : (a b : ℕ) → combined_status a b ≡ 0 → b ≡ 0
zero_last a b both = by (b == 0) refl
  where
    by : (t : Bool) → (b == 0) ≡ t → b ≡ 0
    by true e = eqb-true b 0 e
    by false e = let same : combined_status a b ≡ b = rw e refl in sym same ∙ both

-- if the sequence doesn't continue, the status is nonzero
pub stops_by : (keep : Bool) (status : ℕ) → goes_on keep status ≡ false → status ≢ 0
stops_by keep status stops zero = true≢false (sym (goes_after_zero keep status zero) ∙ stops)

-- ---- how much of a page was written

-- a status after which the sequence continues is that of a page that was written completely
pub shown_goes : (keep : Bool) (cut : Cut) (old new : Outputs) (page : Page) (status : ℕ) → IsShown cut old new page status → goes_on keep status ≡ true → (cut ≡ uncut) × (page.status ≡ status)
shown_goes keep uncut old new page status all goes = (refl, sym all.ends)
shown_goes keep (cut_behind took) old new page status broken goes = absurd (true≢false (sym goes ∙ not_after_fault keep status (broken_ends broken)))
shown_goes keep cut_error old new page status broken goes = absurd (true≢false (sym goes ∙ not_after_fault keep status broken.ends))

pub shown_zero : (cut : Cut) (old new : Outputs) (page : Page) (status : ℕ) → IsShown cut old new page status → status ≡ 0 → (cut ≡ uncut) × (page.status ≡ 0)
shown_zero uncut old new page status all zero = (refl, sym all.ends ∙ zero)
shown_zero (cut_behind took) old new page status broken zero = let three : status ≡ 3 = broken_ends broken in absurd (omega arith)
shown_zero cut_error old new page status broken zero = let three : status ≡ 3 = broken.ends in absurd (omega arith)

-- a page that was printed with a status after which the sequence continues was written completely
pub shown_whole : (keep : Bool) (cut : Cut) (old new : Outputs) (page : Page) (status : ℕ) → IsShown cut old new page status → goes_on keep status ≡ true → IsWhole old new page status
shown_whole keep uncut old new page status all goes = all
shown_whole keep (cut_behind took) old new page status broken goes = absurd (true≢false (sym goes ∙ not_after_fault keep status (broken_ends broken)))
shown_whole keep cut_error old new page status broken goes = absurd (true≢false (sym goes ∙ not_after_fault keep status broken.ends))

-- any other status belongs to a page after which the sequence doesn't continue, or to an output that failed
pub shown_stops : (keep : Bool) (cut : Cut) (old new : Outputs) (page : Page) (status : ℕ) → IsShown cut old new page status → goes_on keep status ≡ false → goes_on keep page.status ≡ true
    → cut ≢ uncut
shown_stops keep uncut old new page status all stops goes is = true≢false (sym goes ∙ (ap (goes_on keep) (sym all.ends) ∙ stops))
shown_stops keep (cut_behind took) old new page status broken stops goes is = absurd (cc is)
shown_stops keep cut_error old new page status broken stops goes is = absurd (cc is)

-- the same holds for a nonzero status
pub shown_else : (cut : Cut) (old new : Outputs) (page : Page) (status : ℕ) → IsShown cut old new page status → status ≢ 0 → page.status ≡ 0 → cut ≢ uncut
shown_else uncut old new page status all ends zero is = ends (all.ends ∙ zero)
shown_else (cut_behind took) old new page status shown ends zero is = absurd (cc is)
shown_else cut_error old new page status shown ends zero is = absurd (cc is)

-- ---- cuts

-- a cut after an empty text, and a cut after two texts
pub cut_none : (cut : Cut) → cut ≡ cut_below [] cut
cut_none uncut = refl
cut_none (cut_behind took) = refl
cut_none cut_error = refl

pub cut_joined : (above text : Text) (cut : Cut) → cut_below (above ++ text) cut ≡ cut_below above (cut_below text cut)
cut_joined above text uncut = refl
cut_joined above text (cut_behind took) = ap cut_behind (append_assoc above text took)
cut_joined above text cut_error = refl

-- if no output failed overall, none failed after the text
pub whole_below : (text : Text) (cut later : Cut) → cut ≡ cut_below text later → cut ≡ uncut → later ≡ uncut
whole_below text cut uncut is whole = refl
whole_below text cut (cut_behind took) is whole = let bad : cut_behind (text ++ took) ≡ uncut = sym is ∙ whole in absurd (cc bad)
whole_below text cut cut_error is whole = let bad : cut_error ≡ uncut = sym is ∙ whole in absurd (cc bad)
