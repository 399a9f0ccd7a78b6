-- The papers that a page names as passing on, stage by stage.
use Rattle.std.proofs.Common.{◌≡◌, ℕ, zero, suc, List, ◌++◌, append-nil, length, Option, Some, None, refl, sym, ap, ◌∙◌}
use Rattle.count.specs.Bundles.{Bundle, papers_of}
use Rattle.count.specs.Law.Contest.{Contest, History, contest_for}
use Rattle.count.specs.Law.Count.{stages_to, with_stage}
use Rattle.count.specs.Law.Due.{next_action}
use Rattle.count.specs.declared.stages.Action.{Action}
use Rattle.count.proofs.Law.CountLemmas.{stages_only}
use Rattle.sheet.specs.Surpluses.{passed_by, passed_next, passed_to}
use Rattle.sheet_laws.specs.SurplusLaw.{AreOfEachSurplus, passed_at}

passed_more : (contest : Contest) (bundles : List Bundle) (before : History) (o : Option Action) →
    passed_at contest bundles before ++ passed_by contest before bundles o ≡ passed_at contest bundles (with_stage contest before o)
passed_more contest bundles before None = append-nil (passed_at contest bundles before)
passed_more contest bundles before (Some action) = refl

passed_stages : (contest : Contest) (lots : List (ℕ × ℕ)) (bundles : List Bundle) (k : ℕ) → passed_to contest lots bundles k ≡ passed_at contest bundles (stages_to contest lots k)
unfolding stages_to
passed_stages contest lots bundles zero = refl
passed_stages contest lots bundles (suc k) =
    let before = stages_to contest lots k in
    ap (λ l. l ++ passed_next contest lots bundles before) (passed_stages contest lots bundles k) ∙ passed_more contest bundles before (next_action contest lots before)

-- the groups of a page are those of each stage that transfers a surplus
pub of_each_surplus : AreOfEachSurplus
of_each_surplus candidates seats bundles lots stages right =
    let contest = contest_for candidates seats (papers_of bundles) in
    passed_stages contest lots bundles (length stages) ∙ ap (passed_at contest bundles) (sym (stages_only contest lots stages right))
