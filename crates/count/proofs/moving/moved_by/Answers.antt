-- Parts of the proof of `moved_by` that are done by hand.
use Rattle.std.proofs.Common.{◌≡◌, ◌∙◌, ℕ, ◌-◌, ap, sym, subst, reverse, arith}
use Rattle.count.specs.Law.Contest.{Contest, History, newest_votes}
use Rattle.count.specs.Inside.Holdings.{total_passed}
use Rattle.count.specs.declared.parcel.TransferRule.{TransferRule}
use Rattle.count.specs.declared.parcel.TransferRule.TheVariants.{AsReceived, Share}
use Rattle.count.specs.Law.Places.{surplus_of}
use Rattle.count.specs.Law.Elected.{is_continuing}
use Rattle.count.proofs.ParcelTotals.{total_passed-same}
use Rattle.count.specs.Advance.{IsDue}
use Rattle.count.specs.Books.{contest_of}
use Rattle.count.specs.Inside.BookInvariants.{IsMovedBy}
use Rattle.count.specs.declared.stages.Action.{Action}
use Rattle.count.proofs.MoveLemmas.{IsLawful, surplus-lawful, under-way}
use Rattle.count.proofs.TransferLemmas.{moved-surplus, moved-exclude, moved-last}
use Rattle.count.proofs.moving.moved_by.Goals as goal
use Rattle.count.proofs.moving.moved_by.Goals.{In-Surplus, In-Exclude, In-ExcludeLast}

owed : (c : In-Surplus) → IsLawful (contest_of c.args.terms.now c.args.papers.now) (reverse c.args.stages.now) c.in-Surplus.c
owed c =
    let contest : Contest = contest_of c.args.terms.now c.args.papers.now in
    surplus-lawful contest (reverse c.args.stages.now) c.in-Surplus.c c.requires.book.fair c.requires.book.right
    (subst (IsDue contest (reverse c.args.stages.now)) c.in-Surplus.is c.requires.due)

pub newest_votes-requires-clause-some : goal.newest_votes-requires-clause-some
newest_votes-requires-clause-some c = (owed (goal.at.newest_votes-requires-clause-some c).In-Surplus).column.0

pub newest_votes-requires-clause-few : goal.newest_votes-requires-clause-few
newest_votes-requires-clause-few c = (owed (goal.at.newest_votes-requires-clause-few c).In-Surplus).column.1

pub surplus_rule-rule-requires-clause-above : goal.surplus_rule-rule-requires-clause-above
surplus_rule-rule-requires-clause-above c = omega (arith, c.newest_votes.ensures, (owed (goal.at.surplus_rule-rule-requires-clause-above c).In-Surplus).above)

pub surplus_rule-rule-requires-clause-few : goal.surplus_rule-rule-requires-clause-few
surplus_rule-rule-requires-clause-few c = omega (arith, c.newest_votes.ensures, (owed (goal.at.surplus_rule-rule-requires-clause-few c).In-Surplus).few)

pub returns-in_ok-moved-in-Surplus-clause-moved : goal.returns-in_ok-moved-in-Surplus-clause-moved
returns-in_ok-moved-in-Surplus-clause-moved c =
    let contest : Contest = contest_of c.args.terms.now c.args.papers.now in
    let before : History = reverse c.args.stages.now in
    let way = under-way contest before c.args.holdings.now c.args.action.now c.requires.book c.requires.due (λ e. let no_first = sym e ∙ c.in-Surplus.is in cc) in
    let rule : c.surplus_rule-rule.result ≡ Share (surplus_of contest before c.in-Surplus.c) (newest_votes before c.in-Surplus.c) =
    c.surplus_rule-rule.ensures.is ∙ ap (λ (v : ℕ). Share (v - c.args.terms.now.quota) v) c.newest_votes.ensures in
    subst (λ (a : Action). IsMovedBy contest before a c.args.holdings.now c.in_ok-moved-in-Surplus.moved.items) (sym c.in-Surplus.is)
    (moved-surplus contest before c.in-Surplus.c c.args.holdings.now c.in_ok-moved-in-Surplus.moved.items way.rankings way.hold (λ f.
    c.in_ok-moved-in-Surplus.ensures f
    ∙ total_passed-same f c.in-Surplus.c _ (is_continuing contest before) c.surplus_rule-rule.result c.args.holdings.now c.standing.ensures.is
    ∙ ap (λ (r : TransferRule). total_passed f c.in-Surplus.c (is_continuing contest before) r c.args.holdings.now) rule))

pub returns-in_ok-moved-in-Exclude-clause-moved : goal.returns-in_ok-moved-in-Exclude-clause-moved
returns-in_ok-moved-in-Exclude-clause-moved c =
    let contest : Contest = contest_of c.args.terms.now c.args.papers.now in
    let before : History = reverse c.args.stages.now in
    let way = under-way contest before c.args.holdings.now c.args.action.now c.requires.book c.requires.due (λ e. let no_first = sym e ∙ c.in-Exclude.is in cc) in
    subst (λ (a : Action). IsMovedBy contest before a c.args.holdings.now c.in_ok-moved-in-Exclude.moved.items) (sym c.in-Exclude.is)
    (moved-exclude contest before c.in-Exclude.c c.args.holdings.now c.in_ok-moved-in-Exclude.moved.items way.rankings way.hold (λ f.
    c.in_ok-moved-in-Exclude.ensures f
    ∙ total_passed-same f c.in-Exclude.c _ (is_continuing contest before) AsReceived c.args.holdings.now c.standing-in-Exclude.ensures.is))

pub returns-in-ExcludeLast-clause-moved : goal.returns-in-ExcludeLast-clause-moved
returns-in-ExcludeLast-clause-moved c =
    let contest : Contest = contest_of c.args.terms.now c.args.papers.now in
    let before : History = reverse c.args.stages.now in
    let way = under-way contest before c.args.holdings.now c.args.action.now c.requires.book c.requires.due (λ e. let no_first = sym e ∙ c.in-ExcludeLast.is in cc) in
    subst (λ (a : Action). IsMovedBy contest before a c.args.holdings.now c.new.result.items) (sym c.in-ExcludeLast.is)
    (moved-last contest before c.in-ExcludeLast.field-0 c.args.holdings.now c.new.result.items way.hold c.new.ensures.items)
