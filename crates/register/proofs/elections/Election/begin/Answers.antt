-- Proof that `Election::begin` meets its contract.
use Rattle.std.proofs.Common.{◌≡◌, [], map, ap, refl, sym, ◌∙◌, subst}
use Rattle.count.specs.StoredCounts.{IsStoredCountOf}
use Rattle.count.specs.Law.Count.{stages_to}
use Rattle.register.specs.Offices.{WardEntry, candidate_entry}
use Rattle.register.specs.Marks.{columns_of}
use Rattle.register.specs.Elections.{ElectionEntry, contest_of, stages_of}
use Rattle.register.proofs.elections.Election.begin.Goals as goal

none_done : (e : ElectionEntry) → e.ward.done ≡ 0 → stages_of e ≡ []
unfolding stages_to
none_done e none = ap (stages_to (contest_of e) e.lots) none

pub returns-clause-is : goal.returns-clause-is
returns-clause-is c = λ e is none fair.
    let columns : c.columns_of-columns.result ≡ columns_of e.candidates =
    c.columns_of-columns.ensures.is ∙ ap (λ cs. columns_of (map candidate_entry cs)) c.deref.ensures.value ∙ ap columns_of is.candidates_are in
    let seats : e.ward.seats ≡ c.args.self.ward.seats = ap (λ (w : WardEntry). w.seats) (sym is.ward_is) in (
      record { kept = c.in_ok-kept.kept; lots = c.args.self.lots },
      refl,
      record {
        kept_is = subst (λ h. IsStoredCountOf (contest_of e) h c.in_ok-kept.kept) (sym (none_done e none)) (c.in_ok-kept.ensures.is (contest_of e) fair (sym columns) seats is.ballots_are.papers_held);
        lots_are = is.lots_are;
      },
    )

pub returns-clause-rejected : goal.returns-clause-rejected
returns-clause-rejected c = λ e is. is.ballots_are.rejected_are
