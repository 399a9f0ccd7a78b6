-- Proof that `walk_beginning` meets its contract.
use Rattle.std.proofs.Common.{◌≡◌, ◌⊎◌, inl, length, true, rules}
use Rattle.std.specs.List.{AllByRecursion}
use Rattle.std.proofs.lemmas.Result.{err_from_is_err_and}
use Rattle.sqlite.specs.Held.{state}
use Rattle.sqlite.specs.Values.{bound}
use Rattle.sqlite.specs.State.{HasCleanDisk}
use Rattle.tables.specs.declared.fault.Fault.TheVariants.{Memory, Store}
use Rattle.tables.specs.Texts.{select_text}
use Rattle.tables.specs.Rows.{begins_key, begins_with}
use Rattle.tables.specs.Reading.{OnlyReads, FailsBy}
use Rattle.tables.specs.Walking.{TakesFound}
use Rattle.tables.proofs.ListLemmas.{mapped_length}
use Rattle.tables.proofs.Queries.{selects_query}
use Rattle.tables.proofs.WalkLemmas.{refused_reads, refused_fails, walk_reads, walk_tells, walk_fails_later}
use Rattle.tables.proofs.walking.walk_beginning.Goals as goal

pub returns-in_err-rows-clause-cause : goal.returns-in_err-rows-clause-cause
returns-in_err-rows-clause-cause g c clean contents rests kinds all =
    let held = rw (c.select_text.ensures, c.TABLE.ensures, c.in_err-rows.was) at c.query.follows.holds-at-none in
    let p = err_from_is_err_and c.from_residual.result c.from_residual.ensures.1 in
    rw (p.1, p.2) (inl (refused_fails g.S.Store g.E.Entries.TABLE (length c.args.key.now) (bound c.args.key.now)
    (mapped_length _ c.args.key.now) c.requires.key kinds contents c.args.conn.now c.query.follows.lender-at-none c.in_err-rows.field-0.0 clean rests (held.err clean)))

pub returns-in_err-rows-clause-reads : goal.returns-in_err-rows-clause-reads
returns-in_err-rows-clause-reads g c =
    let held = rw (c.select_text.ensures, c.TABLE.ensures, c.in_err-rows.was) at c.query.follows.holds-at-none in
    refused_reads (select_text g.E.Entries.TABLE (length c.args.key.now)) (bound c.args.key.now) (state g.S.Store c.args.conn.now)
    (state g.S.Store c.query.follows.lender-at-none) c.in_err-rows.field-0.0
    (selects_query g.E.Entries.TABLE (length c.args.key.now) c.requires.key) held.err held.survives

pub returns-in_err-visit_rest-clause-cause : goal.returns-in_err-visit_rest-clause-cause
returns-in_err-visit_rest-clause-cause g c clean contents rests kinds all =
    let t = g.E.Entries.TABLE in
    let n = length c.args.key.now in
    let key = bound c.args.key.now in
    let begins = rw (c.select_text.ensures, c.TABLE.ensures) at c.in_ok-rows.ensures.begun in
    let survives = rw (c.select_text.ensures, c.TABLE.ensures) at c.in_ok-rows.ensures.survives in
    let last = c.visit_rest.new.rows.conn.now in
    let f = c.in_err-visit_rest.field-0.0 in
    let stops = g.V.Visitor.Stops in
    let honest : HasCleanDisk (state g.S.Store last) = search rules in
    let p = err_from_is_err_and c.from_residual-in_err-visit_rest.result c.from_residual-in_err-visit_rest.ensures.1 in
    let late : FailsBy (state g.S.Store c.in_ok-rows.rows.conn.now) (state g.S.Store last) f ⊎ stops f =
    walk_tells g.S.Store t n key (mapped_length _ c.args.key.now) c.requires.key c.args.conn.now c.in_ok-rows.rows.conn.now last begins survives c.visit_rest.ensures.reads
    (λ k d. begins_key t k ≡ true → AllByRecursion g.E.Entries.is_row (d t) → FailsBy (state g.S.Store c.in_ok-rows.rows.conn.now) (state g.S.Store last) f ⊎ stops f) contents honest rests
    (c.in_err-visit_rest.ensures.cause honest) kinds all in
    let told : FailsBy (state g.S.Store c.args.conn.now) (state g.S.Store last) f ⊎ stops f =
    walk_fails_later g.S.Store t n key (mapped_length _ c.args.key.now) c.requires.key c.args.conn.now c.in_ok-rows.rows.conn.now last begins survives c.visit_rest.ensures.reads stops f honest late
    in
    rw (p.1, p.2) (search rules)

pub returns-in_err-visit_rest-clause-cause_alone : goal.returns-in_err-visit_rest-clause-cause_alone
returns-in_err-visit_rest-clause-cause_alone g c clean contents rests all =
    let t = g.E.Entries.TABLE in
    let n = length c.args.key.now in
    let key = bound c.args.key.now in
    let begins = rw (c.select_text.ensures, c.TABLE.ensures) at c.in_ok-rows.ensures.begun in
    let survives = rw (c.select_text.ensures, c.TABLE.ensures) at c.in_ok-rows.ensures.survives in
    let last = c.visit_rest.new.rows.conn.now in
    let f = c.in_err-visit_rest.field-0.0 in
    let stops = g.V.Visitor.Stops in
    let honest : HasCleanDisk (state g.S.Store last) = search rules in
    let p = err_from_is_err_and c.from_residual-in_err-visit_rest.result c.from_residual-in_err-visit_rest.ensures.1 in
    rw (p.1, p.2) (walk_tells g.S.Store t n key (mapped_length _ c.args.key.now) c.requires.key c.args.conn.now c.in_ok-rows.rows.conn.now last begins survives c.visit_rest.ensures.reads
    (λ k d. AllByRecursion g.E.Entries.is_row (d t) → (f ≡ Memory) ⊎ ((f ≡ Store) ⊎ stops f)) contents honest rests (c.in_err-visit_rest.ensures.cause_alone honest) all)

pub returns-in_err-visit_rest-clause-reads : goal.returns-in_err-visit_rest-clause-reads
returns-in_err-visit_rest-clause-reads g c =
    let t = g.E.Entries.TABLE in
    let n = length c.args.key.now in
    let key = bound c.args.key.now in
    let begins = rw (c.select_text.ensures, c.TABLE.ensures) at c.in_ok-rows.ensures.begun in
    let survives = rw (c.select_text.ensures, c.TABLE.ensures) at c.in_ok-rows.ensures.survives in
    let last = c.visit_rest.new.rows.conn.now in
    let told : OnlyReads (state g.S.Store c.args.conn.now) (state g.S.Store last) =
    walk_reads g.S.Store t n key (mapped_length _ c.args.key.now) c.requires.key c.args.conn.now c.in_ok-rows.rows.conn.now last begins survives c.visit_rest.ensures.reads
    in
    search rules

pub returns-clause-finds : goal.returns-clause-finds
returns-clause-finds g c clean contents rests =
    let t = g.E.Entries.TABLE in
    let n = length c.args.key.now in
    let key = bound c.args.key.now in
    let begins = rw (c.select_text.ensures, c.TABLE.ensures) at c.in_ok-rows.ensures.begun in
    let survives = rw (c.select_text.ensures, c.TABLE.ensures) at c.in_ok-rows.ensures.survives in
    let last = c.visit_rest.new.rows.conn.now in
    let honest : HasCleanDisk (state g.S.Store last) = search rules in
    walk_tells g.S.Store t n key (mapped_length _ c.args.key.now) c.requires.key c.args.conn.now c.in_ok-rows.rows.conn.now last begins survives c.visit_rest.ensures.reads
    (λ k d. TakesFound g.V.Visitor.HasVisited g.E.Entries.row_of t (begins_with k) d c.args.visitor c.visit_rest.new.visitor) contents honest rests (c.in_ok-visit_rest.ensures.finds honest)

pub returns-clause-reads : goal.returns-clause-reads
returns-clause-reads g c =
    let t = g.E.Entries.TABLE in
    let n = length c.args.key.now in
    let key = bound c.args.key.now in
    let begins = rw (c.select_text.ensures, c.TABLE.ensures) at c.in_ok-rows.ensures.begun in
    let survives = rw (c.select_text.ensures, c.TABLE.ensures) at c.in_ok-rows.ensures.survives in
    let last = c.visit_rest.new.rows.conn.now in
    let told : OnlyReads (state g.S.Store c.args.conn.now) (state g.S.Store last) =
    walk_reads g.S.Store t n key (mapped_length _ c.args.key.now) c.requires.key c.args.conn.now c.in_ok-rows.rows.conn.now last begins survives c.visit_rest.ensures.reads
    in
    search rules
