-- Proof that `add_from_ballots` meets its contract.
use Rattle.std.proofs.Common.{rules, IsSome, subst, ap, ◌∙◌, map}
use Rattle.count.specs.Bundles.{papers_of}
use Rattle.count.specs.Law.Contest.{contest_for, IsContest}
use Rattle.register.specs.Marks.{columns_of}
use Rattle.register.specs.Offices.{WardEntry, ward_entry, candidate_entry}
use Rattle.register.proofs.BundledLemmas.{fair-alike}
use Rattle.rowcheck.specs.Walks.Counts.{IsOnBundlesOf}
use Rattle.rowcheck.proofs.StagesDoneLemmas.{made-count}
use Rattle.rowcheck.proofs.counts.add_from_ballots.Goals as goal

pub returns-in_default-clause-is : goal.returns-in_default-clause-is
returns-in_default-clause-is c e made fair =
    let can : IsContest (contest_for c.columns_of-columns.result c.args.ward.now.seats (papers_of c.args.ballots.now.papers)) =
    fair-alike e c.columns_of-columns.result c.args.ward.now.seats c.args.ballots.now.papers (c.columns_of-columns.ensures.is ∙ ap columns_of made.candidates_are)
    (ap (λ (w : WardEntry). w.seats) made.ward_is)
    made.ballots_are.papers_held fair in
    let some = subst IsSome c.in_default.is (c.in_ok-book.ensures.some can) in
    absurd (cc)

pub returns-clause-added : goal.returns-clause-added
returns-clause-added c e made fair contested right =
    let ward = ward_entry c.args.ward.now in
    let candidates = map candidate_entry c.args.candidates.now in
    let counts : IsOnBundlesOf e ward c.args.lots.now c.in-Some.book.contest =
    made-count e ward candidates c.args.ballots.now c.args.lots.now c.columns_of-columns.result c.in-Some.book.contest made fair c.columns_of-columns.ensures.is (search rules) in
    c.in_ok-add_stages.ensures e (record {
      contested = contested;
      ward_is = made.ward_is;
      columns_are = c.columns_of-columns.ensures.is ∙ ap columns_of made.candidates_are;
      bundles_are = made.ballots_are.papers_held;
      contest_is = c.in_ok-count_done.ensures.same ∙ counts.contest_is;
      stages_are = c.in_ok-count_done.ensures.counted e counts c.if-not-branch.false;
    })
