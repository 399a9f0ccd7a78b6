-- Proof that `add_preference` meets its contract.
use Rattle.std.proofs.Common.{◌≡◌, false, subst, sym}
use Rattle.std.specs.Prelude.{◌==◌}
use Rattle.std.specs.List.{list_any}
use Rattle.paper.specs.Ranking.{IsRanking}
use Rattle.checker.proofs.RankLemmas.{ranking_more}
use Rattle.checker.proofs.ranked_paper.RankedPaper.add_preference.Goals as goal

pub invariant_of-self-2 : goal.invariant_of-self-2
invariant_of-self-2 c =
    let none : list_any (λ d. d == c.args.c) c.self.inside.preferences.items ≡ false =
    subst (λ paper. list_any (λ d. d == c.args.c) paper.preferences ≡ false) (sym c.self.view_is) c.requires.is_new in
    subst IsRanking (sym c.in_ok-push.ensures.items) (ranking_more c.self.inside.preferences.items c.args.c c.self.invariant c.requires.some c.requires.few none)
