-- Proof that `transferred` meets its contract.
use Rattle.std.proofs.Common.{rules, ◌≡◌, ◌+◌, ap, ◌∙◌, sym, subst, length, List, arith}
use Rattle.std.proofs.lemmas.Result.{IfOk-weaker}
use Rattle.std.proofs.lemmas.List.Sorted.{IsPermutation-refl}
use Rattle.std.specs.List.Sorted.{IsPermutation}
use Rattle.count.specs.Bundles.{Bundle, papers_of}
use Rattle.count.specs.Law.Contest.{Contest, History, newest_votes}
use Rattle.count.specs.Law.Places.{surplus_of}
use Rattle.sheet.proofs.SurplusLemmas.{all_are, number_here, surplus_is}
use Rattle.sheet.proofs.surpluses.transferred.Goals as goal

pub returns-clause-is : goal.returns-clause-is
returns-clause-is c =
    let contest = c.args.book.now.contest in
    let old : History = c.args.book.now.history in
    let bundles : List Bundle = c.args.bundles.now in
    let votes : c.newest_votes-votes.result ≡ newest_votes old c.args.c =
    c.newest_votes-votes.ensures ∙ ap (λ (h : History). newest_votes h c.args.c) c.stages-stages.ensures.is in
    let surplus : c.from_units.result ≡ surplus_of contest old c.args.c =
    omega (arith, c.from_units.ensures, c.saturating_sub.ensures, c.units.ensures, c.units-2.ensures, votes, c.requires.quota) in
    let of = surplus_is contest old c.args.c (length c.stages-stages.result.now + 1) _ _ _ _ (number_here c.stages-stages.result.now old c.stages-stages.ensures.is) surplus votes
    c.from_units-2.ensures c.from_units-3.ensures in
    let alike : IsPermutation (papers_of bundles) contest.papers = subst (IsPermutation (papers_of bundles)) (sym c.requires.papers) (IsPermutation-refl (papers_of bundles)) in
    let here = c.places.ensures.bundles bundles c.len.ensures.bundles alike in
    let later = c.places-2.ensures.bundles bundles c.len.ensures.bundles (subst (λ (k : Contest). IsPermutation (papers_of bundles) k.papers) (sym c.advance.ensures.same) alike) in
    IfOk-weaker c.all_placed.result _ _
    (λ groups is. is ∙ all_are contest c.advance.new.book.contest old c.advance.new.book.history _ c.args.c c.args.lot bundles c.args.book.now.bundles c.advance.new.book.bundles _ _ of
    c.advance.ensures.same c.requires.due c.in_ok-advance.ensures.ok here later (search rules) c.places-2.ensures.places)
    c.all_placed.ensures
