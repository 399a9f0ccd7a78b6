-- Proof that `copy_rest` meets its contract.
use Rattle.std.proofs.Common.{refl, rules, ◌∙◌}
use Rattle.std.proofs.lemmas.Result.{err_from_is_err_and}
use Rattle.sqlite.specs.Held.{state}
use Rattle.tables.proofs.ReadLemmas.{only_reads_itself, only_reads_then}
use Rattle.tables.proofs.CopyingLemmas.{next_given, all_shown, copy_fails}
use Rattle.tables.proofs.reading.copy_rest.Goals as goal

pub rows-init : goal.rows-init
rows-init g c = record {
  same_reference = refl;
  outside = λ outside. outside;
  reads = only_reads_itself (state g.S.Store c.args.rows.now.conn.now);
  given = λ clean sql params given. given;
}

pub rows-preserved : goal.rows-preserved
rows-preserved g c =
    let inv = c.rows.invariant in
    let step = c.copy_next.ensures in
    record {
      same_reference = search rules;
      outside = λ outside. step.outside (inv.outside outside);
      reads = only_reads_then _ _ _ inv.reads step.reads;
      given = λ clean sql params given.
          next_given g.S.Store c.rows.rows.conn.now c.rows.rows.conn.now c.copy_next.new.rows.conn.now c.rows.found.items c.copy_next.new.found.items sql params
          (inv.given (step.reads.clean clean) sql params given) (rw c.if-not-branch.false at (c.in_ok-copy_next.ensures.copies clean));
    }

pub returns-in_err-copy_next-clause-same_reference : goal.returns-in_err-copy_next-clause-same_reference
returns-in_err-copy_next-clause-same_reference g c = c.copy_next.ensures.same_reference ∙ c.rows.invariant.same_reference

pub returns-in_err-copy_next-clause-fails : goal.returns-in_err-copy_next-clause-fails
returns-in_err-copy_next-clause-fails g c clean sql params given =
    let inv = c.rows.invariant in
    let step = c.copy_next.ensures in
    let p = err_from_is_err_and c.from_residual.result c.from_residual.ensures.1 in
    rw (p.1, p.2) (copy_fails g.S.Store c.args.rows.now.conn.now c.rows.rows.conn.now c.copy_next.new.rows.conn.now c.rows.found.items c.copy_next.new.found.items sql params
    (inv.given (step.reads.clean clean) sql params given) inv.reads step.reads _ (c.in_err-copy_next.ensures.fails clean))

pub returns-in_err-copy_next-clause-cause : goal.returns-in_err-copy_next-clause-cause
returns-in_err-copy_next-clause-cause g c =
    let p = err_from_is_err_and c.from_residual.result c.from_residual.ensures.1 in
    rw (p.1, p.2) c.in_err-copy_next.ensures.cause

pub returns-in_err-copy_next-clause-reads : goal.returns-in_err-copy_next-clause-reads
returns-in_err-copy_next-clause-reads g c = only_reads_then _ _ _ c.rows.invariant.reads c.copy_next.ensures.reads

pub returns-in_err-copy_next-clause-outside : goal.returns-in_err-copy_next-clause-outside
returns-in_err-copy_next-clause-outside g c outside = c.copy_next.ensures.outside (c.rows.invariant.outside outside)

pub returns-then-not-branch-clause-same_reference : goal.returns-then-not-branch-clause-same_reference
returns-then-not-branch-clause-same_reference g c = c.copy_next.ensures.same_reference ∙ c.rows.invariant.same_reference

pub returns-then-not-branch-clause-shows : goal.returns-then-not-branch-clause-shows
returns-then-not-branch-clause-shows g c clean sql params given =
    let inv = c.rows.invariant in
    let step = c.copy_next.ensures in
    let before = step.reads.clean clean in
    all_shown g.S.Store c.args.rows.now.conn.now c.rows.rows.conn.now c.copy_next.new.rows.conn.now c.rows.found.items c.copy_next.new.found.items sql params
    (inv.given before sql params given) inv.reads step.reads before (step.reads.was_open clean (c.in_ok-copy_next.ensures.opens clean))
    (rw c.if-not-branch.true at (c.in_ok-copy_next.ensures.copies clean))

pub returns-then-not-branch-clause-reads : goal.returns-then-not-branch-clause-reads
returns-then-not-branch-clause-reads g c = only_reads_then _ _ _ c.rows.invariant.reads c.copy_next.ensures.reads

pub returns-then-not-branch-clause-outside : goal.returns-then-not-branch-clause-outside
returns-then-not-branch-clause-outside g c outside = c.copy_next.ensures.outside (c.rows.invariant.outside outside)

pub returns-clause-same_reference : goal.returns-clause-same_reference
returns-clause-same_reference g c = c.rows.invariant.same_reference

pub returns-clause-reads : goal.returns-clause-reads
returns-clause-reads g c = c.rows.invariant.reads

pub returns-clause-outside : goal.returns-clause-outside
returns-clause-outside g c = c.rows.invariant.outside
