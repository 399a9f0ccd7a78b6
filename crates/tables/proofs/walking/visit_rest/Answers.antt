-- Proof that `visit_rest` meets its contract.
use Rattle.std.proofs.Common.{refl, rules, ◌∙◌}
use Rattle.std.proofs.lemmas.Result.{err_from_is_err_and}
use Rattle.sqlite.specs.Held.{state}
use Rattle.tables.proofs.ReadLemmas.{only_reads_itself, only_reads_then}
use Rattle.tables.proofs.WalkLemmas.{none_walked, next_walked, all_walked, walk_fails, walk_cause}
use Rattle.tables.proofs.walking.visit_rest.Goals as goal

pub rows-init : goal.rows-init
rows-init g c = record {
  same_reference = refl;
  outside = λ outside. outside;
  reads = only_reads_itself (state g.S.Store c.args.rows.now.conn.now);
  walked = λ clean. none_walked g.S.Store g.E.Entries.TABLE g.E.Entries.row_of g.V.Visitor.HasVisited c.args.rows.now.conn.now c.args.visitor.now;
}

pub rows-preserved : goal.rows-preserved
rows-preserved g c =
    let inv = c.rows.invariant in
    let step = c.visit_next.ensures in
    record {
      same_reference = search rules;
      outside = λ outside. step.outside (inv.outside outside);
      reads = only_reads_then _ _ _ inv.reads step.reads;
      walked = λ clean.
          next_walked g.S.Store g.E.Entries.TABLE g.E.Entries.row_of g.V.Visitor.HasVisited
          c.args.rows.now.conn.now c.rows.rows.conn.now c.visit_next.new.rows.conn.now c.args.visitor.now c.rows.visitor c.visit_next.new.visitor
          (inv.walked (step.reads.clean clean)) (rw c.if-not-branch.false at (c.in_ok-visit_next.ensures.visits clean));
    }

pub returns-in_err-visit_next-clause-same_reference : goal.returns-in_err-visit_next-clause-same_reference
returns-in_err-visit_next-clause-same_reference g c = c.visit_next.ensures.same_reference ∙ c.rows.invariant.same_reference

pub returns-in_err-visit_next-clause-cause : goal.returns-in_err-visit_next-clause-cause
returns-in_err-visit_next-clause-cause g c clean key low begun contents rests kinds all =
    let inv = c.rows.invariant in
    let step = c.visit_next.ensures in
    let p = err_from_is_err_and c.from_residual.result c.from_residual.ensures.1 in
    rw (p.1, p.2) (walk_fails g.S.Store g.E.Entries.TABLE g.E.Entries.row_of g.V.Visitor.HasVisited key low contents
    c.args.rows.now.conn.now c.args.visitor.now begun rests g.E.Entries.is_row g.V.Visitor.Stops
    c.rows.rows.conn.now c.visit_next.new.rows.conn.now c.rows.visitor (inv.walked (step.reads.clean clean)) inv.reads step.reads clean all _ kinds (c.in_err-visit_next.ensures.cause clean))

pub returns-in_err-visit_next-clause-cause_alone : goal.returns-in_err-visit_next-clause-cause_alone
returns-in_err-visit_next-clause-cause_alone g c clean key low begun contents rests all =
    let inv = c.rows.invariant in
    let step = c.visit_next.ensures in
    let p = err_from_is_err_and c.from_residual.result c.from_residual.ensures.1 in
    rw (p.1, p.2) (walk_cause g.S.Store g.E.Entries.TABLE g.E.Entries.row_of g.V.Visitor.HasVisited key low contents
    c.args.rows.now.conn.now c.args.visitor.now begun rests g.E.Entries.is_row g.V.Visitor.Stops
    c.rows.rows.conn.now c.visit_next.new.rows.conn.now c.rows.visitor (inv.walked (step.reads.clean clean)) inv.reads step.reads clean all _ (c.in_err-visit_next.ensures.cause clean))

pub returns-in_err-visit_next-clause-reads : goal.returns-in_err-visit_next-clause-reads
returns-in_err-visit_next-clause-reads g c = only_reads_then _ _ _ c.rows.invariant.reads c.visit_next.ensures.reads

pub returns-in_err-visit_next-clause-outside : goal.returns-in_err-visit_next-clause-outside
returns-in_err-visit_next-clause-outside g c outside = c.visit_next.ensures.outside (c.rows.invariant.outside outside)

pub returns-then-not-branch-clause-same_reference : goal.returns-then-not-branch-clause-same_reference
returns-then-not-branch-clause-same_reference g c = c.visit_next.ensures.same_reference ∙ c.rows.invariant.same_reference

pub returns-then-not-branch-clause-finds : goal.returns-then-not-branch-clause-finds
returns-then-not-branch-clause-finds g c clean key low begun contents rests =
    let inv = c.rows.invariant in
    let step = c.visit_next.ensures in
    let before = step.reads.clean clean in
    all_walked g.S.Store g.E.Entries.TABLE g.E.Entries.row_of g.V.Visitor.HasVisited key low contents
    c.args.rows.now.conn.now c.args.visitor.now begun rests c.rows.rows.conn.now c.visit_next.new.rows.conn.now c.rows.visitor
    c.visit_next.new.visitor (inv.walked before) inv.reads before (step.reads.was_open clean (c.in_ok-visit_next.ensures.opens clean))
    (rw c.if-not-branch.true at (c.in_ok-visit_next.ensures.visits clean))

pub returns-then-not-branch-clause-reads : goal.returns-then-not-branch-clause-reads
returns-then-not-branch-clause-reads g c = only_reads_then _ _ _ c.rows.invariant.reads c.visit_next.ensures.reads

pub returns-then-not-branch-clause-outside : goal.returns-then-not-branch-clause-outside
returns-then-not-branch-clause-outside g c outside = c.visit_next.ensures.outside (c.rows.invariant.outside outside)

pub returns-clause-same_reference : goal.returns-clause-same_reference
returns-clause-same_reference g c = c.rows.invariant.same_reference

pub returns-clause-reads : goal.returns-clause-reads
returns-clause-reads g c = c.rows.invariant.reads

pub returns-clause-outside : goal.returns-clause-outside
returns-clause-outside g c = c.rows.invariant.outside
