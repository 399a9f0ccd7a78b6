-- The state a query leaves the connection in, under any schema.
use Rattle.std.proofs.Common.{◌≡◌, ◌⊎◌, inl, inr, ℕ, List, Option, None, Some, Ok, Err, Result, OnOk, IfOk, IfErr, IsTrue, refl, sym, subst, ◌∙◌, arith}
use Rattle.sqlite.specs.declared.error.Error.{Error}
use Rattle.sqlite.specs.Order.{Row}
use Rattle.sqlite.specs.Tree.{Trees}
use Rattle.sqlite.specs.Effect.{Database}
use Rattle.sqlite.specs.Clock.{timed}
use Rattle.sqlite_schema.specs.declared.command.Returning.{Returning}
use Rattle.sqlite.specs.State.{State, HasCleanDisk, Shown, ShowsRows, IsUnchanged, IsRolledBack, IsNotRun, FailsToQuery, FailsToShow, Survives, CommitsShowing}
use Rattle.tables.specs.Contents.{Contents, IsOffice, RestsAt, Rests}
use Rattle.tables.specs.Reading.{OnlyReads, IsQuery}

pub shown_same : (sql : List ℕ) (params : Row) (old new : State) (rows : List Row) → IsQuery sql → Shown sql params old new rows → IsUnchanged old new
unfolding Shown
shown_same sql params old new rows query h =
    let full = timed params h.0.formats h.1.now in
    (subst (ShowsRows old new sql h.0 full rows) (query old.now.schema h.0 h.1.is) h.2).3

-- a query that fails has changed nothing, or has rolled back a transaction
failed_query : (sql : List ℕ) (params : Row) (old new : State) (e : Error) → IsQuery sql → FailsToQuery sql params old new e → IsUnchanged old new ⊎ IsRolledBack old new
unfolding FailsToQuery IsNotRun
failed_query sql params old new e query (inl (inl same)) = inl same.1
failed_query sql params old new e query (inl (inr failed)) = inr failed.3
failed_query sql params old new e query (inr h) = go h.0.returning (query old.now.schema h.0 h.1.is) h.2
  where
    go : (o : Option Returning) → o ≡ None → FailsToShow old new sql h.0 (timed params h.0.formats h.1.now) e o → IsUnchanged old new ⊎ IsRolledBack old new
    go None is h = inl h.3
    go (Some what) is h = absurd cc

left : {X : Type 0} (sql : List ℕ) (params : Row) (old new : State) (rows : X → List Row) (r : Result X Error) → IsQuery sql
    → IfOk r (λ x. Shown sql params old new (rows x)) → IfErr r (FailsToQuery sql params old new) → IsUnchanged old new ⊎ IsRolledBack old new
left sql params old new rows (Ok x) query shown failed = inl (shown_same sql params old new (rows x) query shown)
left sql params old new rows (Err e) query shown failed = failed_query sql params old new e query failed

pub never_commits : (sql : List ℕ) (params : Row) (s : State) (trees : Trees) → IsQuery sql → CommitsShowing sql params s trees → ⊥
unfolding CommitsShowing
never_commits sql params s trees query h = absurd (let some = rw (query s.now.schema h.0 h.1.is) at h.2 in cc)

-- a step that leaves a connection as it was or rolls back, and that commits nothing, only reads
pub reads_left : (Commits : Trees → Type 0) (old new : State) → ((trees : Trees) → Commits trees → ⊥) → (HasCleanDisk new → IsUnchanged old new ⊎ IsRolledBack old new)
    → Survives old new Commits → OnlyReads old new
reads_left Commits old new never which survives = record {
  limit = survives.limit;
  counts = survives.counts;
  closes = survives.closes;
  clean = λ honest. let low = survives.clean in omega (arith, low, honest);
  was_open = λ honest is_open. elim (which honest) [
    | inl same ↦ same.0.was_open
    | inr undone ↦ undone.was_open is_open
  ];
  rests = λ honest is_open db at. elim (which honest) [
    | inl same ↦ record { is_open = is_open; outside = same.0.mode ∙ at.outside; now = same.0.now_is ∙ at.now; committed = same.0.committed_is ∙ at.committed }
    | inr undone ↦ let both = undone.undone is_open in record { is_open = is_open; outside = undone.autocommit; now = both.0 ∙ at.committed; committed = both.1 ∙ at.committed }
  ];
  leaves = λ honest trees may. elim (survives.crash honest trees may) [
    | inl was ↦ was
    | inr made ↦ absurd (never trees made)
  ];
  unwritten = λ honest. elim (which honest) [
    | inl same ↦ same.1
    | inr undone ↦ undone.counts
  ];
}

pub only_reads : {X : Type 0} (sql : List ℕ) (params : Row) (old new : State) (rows : X → List Row) (r : Result X Error) → IsQuery sql
    → (HasCleanDisk new → IfOk r (λ x. Shown sql params old new (rows x))) → (HasCleanDisk new → IfErr r (FailsToQuery sql params old new)) → Survives old new (CommitsShowing sql params old)
    → OnlyReads old new
only_reads sql params old new rows r query shown failed survives =
    reads_left (CommitsShowing sql params old) old new (λ trees. never_commits sql params old trees query) (λ honest. left sql params old new rows r query (shown honest) (failed honest)) survives

-- a query that succeeds leaves the connection open
pub query_opens : {X : Type 0} (sql : List ℕ) (params : Row) (old new : State) (rows : X → List Row) (r : Result X Error) → IsQuery sql → IfOk r (λ x. Shown sql params old new (rows x))
    → OnOk r (IsTrue new.is_open)
query_opens sql params old new rows (Ok x) query shown = (shown_same sql params old new (rows x) query shown).0.is_open
query_opens sql params old new rows (Err e) query shown = tt

-- ---- one read after another

pub only_reads_then : (a b c : State) → OnlyReads a b → OnlyReads b c → OnlyReads a c
only_reads_then a b c first second = record {
  limit = second.limit ∙ first.limit;
  counts = omega (arith, first.counts, second.counts);
  closes = λ honest was. elim (first.closes (second.clean honest) was) [
    | inl still ↦ elim (second.closes honest still) [ inl last ↦ inl last | inr fault ↦ inr (omega (arith, first.counts, fault)) ]
    | inr fault ↦ inr (omega (arith, second.counts, fault))
  ];
  clean = λ honest. first.clean (second.clean honest);
  was_open = λ honest is_open. first.was_open (second.clean honest) (second.was_open honest is_open);
  rests = λ honest is_open db at. second.rests honest is_open db (first.rests (second.clean honest) (second.was_open honest is_open) db at);
  leaves = λ honest trees may. first.leaves (second.clean honest) trees (second.leaves honest trees may);
  unwritten = λ honest.
      let before = first.unwritten (second.clean honest) in
      let after = second.unwritten honest in
      record { changes = after.changes ∙ before.changes; last_rowid = after.last_rowid ∙ before.last_rowid };
}

pub only_reads_itself : (a : State) → OnlyReads a a
only_reads_itself a =
    record {
      limit = refl;
      counts = omega arith;
      closes = λ h was. inl was;
      clean = λ h. h;
      was_open = λ h is_open. is_open;
      rests = λ h is_open db at. at;
      leaves = λ h trees may. may;
      unwritten = λ h. record { changes = refl; last_rowid = refl };
    }

-- ---- an office between two transactions

pub rests_at : (c : Contents) (s : State) → Rests c s → RestsAt s.now s
rests_at c s rests = record { is_open = rests.is_open; outside = rests.outside; now = refl; committed = sym rests.settled }

pub rests_from : (db : Database) (s : State) (c : Contents) → IsOffice c db → RestsAt db s → Rests c s
rests_from db s c office at = record { is_open = at.is_open; outside = at.outside; settled = at.now ∙ sym at.committed; office = subst (IsOffice c) (sym at.now) office }

-- a read keeps the office, if the connection is still open
pub rests_read : (c : Contents) (old new : State) → OnlyReads old new → HasCleanDisk new → IsTrue new.is_open → Rests c old → Rests c new
rests_read c old new reads honest is_open rests = rests_from old.now new c rests.office (reads.rests honest is_open old.now (rests_at c old rests))
