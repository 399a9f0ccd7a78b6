use Rattle.std.proofs.Common.{rules, subst, ◌∙◌, sym}
use Rattle.std.specs.List.Sorted.{IsNonDecreasingBy}
use Rattle.std.specs.Ordering.{is_lt, is_le, ordering_index}
use Rattle.std.proofs.lemmas.List.Sorted.{IsPartitionPoint-from_clause, IsNonDecreasingBy-drop}
use Rattle.rowcheck.proofs.BisectionLemmas.{lower_passes, upper_passes, run_is}
use Rattle.rowcheck.proofs.key_ranges.run_of.Goals as goal

pub returns : goal.returns
returns g c =
    let back = c.split_at.ensures.back in
    let rises : IsNonDecreasingBy (λ x. ordering_index (g.T.Row.compared x c.args.key.now)) c.args.rows.now = c.requires in
    let later : IsNonDecreasingBy (λ x. ordering_index (g.T.Row.compared x c.args.key.now)) c.split_at.result.1.now =
    subst (λ xs. IsNonDecreasingBy (λ x. ordering_index (g.T.Row.compared x c.args.key.now)) xs) (sym back)
    (IsNonDecreasingBy-drop (λ x. ordering_index (g.T.Row.compared x c.args.key.now)) c.partition_point-before.result c.args.rows.now rises) in
    c.split_at-2.ensures.front
    ∙ run_is (λ x. g.T.Row.compared x c.args.key.now) c.args.rows.now
    c.partition_point-before.result c.partition_point-run.result c.split_at.result.1.now c.partition_point-before.ensures.bound c.partition_point-run.ensures.bound back
    (IsPartitionPoint-from_clause (λ x. is_lt (g.T.Row.compared x c.args.key.now)) c.args.rows.now c.partition_point-before.result c.partition_point-before.ensures.partitioned
    (lower_passes (λ x. g.T.Row.compared x c.args.key.now) c.args.rows.now rises) (λ a r f' k. search rules))
    (IsPartitionPoint-from_clause (λ x. is_le (g.T.Row.compared x c.args.key.now)) c.split_at.result.1.now c.partition_point-run.result c.partition_point-run.ensures.partitioned
    (upper_passes (λ x. g.T.Row.compared x c.args.key.now) c.split_at.result.1.now later) (λ a r f' k. search rules))
