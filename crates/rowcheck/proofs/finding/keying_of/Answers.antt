use Rattle.std.proofs.Common.{◌==◌, ◌&&◌}
use Rattle.std.specs.Ordering.{nat_cmp, on, then_cmp, ordering_then, is_eq}
use Rattle.register.specs.declared.keyings.KeyedPaper.{KeyedPaper}
use Rattle.register.specs.Offices.{KeyedEntry, keyed_entry, keyed_cmp}
use Rattle.rowcheck.proofs.FindingLemmas.{entries_found, follows, follows_then, stand_in_order, three_equal}
use Rattle.rowcheck.proofs.finding.keying_of.Goals as goal

pub run_of-requires : goal.run_of-requires
run_of-requires c =
    rw c.deref.ensures.value (
    stand_in_order keyed_entry keyed_cmp (λ (x : KeyedEntry). ordering_then (nat_cmp x.batch c.args.batch) (ordering_then (nat_cmp x.round c.args.round) (nat_cmp x.clerk c.args.clerk)))
    (follows_then (λ (x : KeyedEntry). x.batch) c.args.batch (then_cmp (on (λ (x : KeyedEntry). x.round) nat_cmp)
    (then_cmp (on (λ (x : KeyedEntry). x.clerk) nat_cmp) (on (λ (x : KeyedEntry). x.paper) nat_cmp))) (λ (x : KeyedEntry). ordering_then (nat_cmp x.round c.args.round) (nat_cmp x.clerk c.args.clerk))
    (follows_then (λ (x : KeyedEntry). x.round) c.args.round (then_cmp (on (λ (x : KeyedEntry). x.clerk) nat_cmp) (on (λ (x : KeyedEntry). x.paper) nat_cmp))
    (λ (x : KeyedEntry). nat_cmp x.clerk c.args.clerk) (follows (λ (x : KeyedEntry). x.clerk) c.args.clerk (on (λ (x : KeyedEntry). x.paper) nat_cmp))))
    c.args.rows.now.keyings.items c.requires.keyings
    )

pub returns : goal.returns
returns c =
    rw (c.run_of.ensures, c.deref.ensures.value) (
    entries_found keyed_entry (λ (x : KeyedEntry). (x.batch == c.args.batch) && ((x.round == c.args.round) && (x.clerk == c.args.clerk)))
    (λ (x : KeyedPaper). is_eq (ordering_then (nat_cmp x.batch c.args.batch) (ordering_then (nat_cmp x.round c.args.round) (nat_cmp x.clerk c.args.clerk))))
    (λ x. three_equal x.batch c.args.batch x.round c.args.round x.clerk c.args.clerk)
    c.args.rows.now.keyings.items
    )
