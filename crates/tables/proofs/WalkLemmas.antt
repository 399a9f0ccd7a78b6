-- What is known while rows are read one at a time.
use Rattle.std.proofs.Common.{◌≡◌, ◌⊎◌, inl, inr, ℕ, ◌≤◌, List, [], ◌∷◌, ◌++◌, map, length, append-nil, append_assoc, true, false, None, Some, Ok, Err, Result, OnOk, IfErr, IsTrue, refl}
use Rattle.std.proofs.Common.{sym, ap, subst, ◌∙◌, arith}
use Rattle.std.specs.List.{AllByRecursion}
use Rattle.std.proofs.lemmas.List.{map-append}
use Rattle.std.proofs.lemmas.List.Sorted.{IsPermutation-sym}
use Rattle.sqlite_rules.specs.Lists.{Has}
use Rattle.sqlite_rules.proofs.ListLemmas.{all_has, has_filtered}
use Rattle.sqlite_trees.specs.declared.store.Store.{Ghosts}
use Rattle.sqlite_resolve.specs.declared.compiled.Compiled.{Compiled}
use Rattle.sqlite_resolve.specs.declared.error.CompileError.{CompileError}
use Rattle.sqlite.specs.declared.error.Error.{Error}
use Rattle.sqlite.specs.Order.{Row}
use Rattle.sqlite.specs.Clock.{timed}
use Rattle.sqlite.specs.Listing.{understood}
use Rattle.sqlite.specs.Given.{Returns, HasGiven, HasBegun, Advances, FailsToAdvance}
use Rattle.sqlite.specs.Held.{Held, state}
use Rattle.sqlite.specs.State.{State, HasCleanDisk, IsUnchanged, IsRolledBack, Fails, FailsToQuery, Survives, CommitsShowing}
use Rattle.sqlite.proofs.Callers.{EndsIn, command_of, given_begin, begins_shown}
use Rattle.tables.specs.declared.fault.Fault.{Fault}
use Rattle.tables.specs.declared.fault.Fault.TheVariants.{Memory, Store}
use Rattle.tables.specs.declared.table.Table.{Table}
use Rattle.tables.specs.Texts.{select_text}
use Rattle.tables.specs.Schema.{shape}
use Rattle.tables.specs.Rows.{at, column_places, begins_key, begins_with}
use Rattle.tables.specs.Contents.{Contents, Rests, RestsIfOpen}
use Rattle.tables.specs.Reading.{IsQuery, OnlyReads, FailsBy}
use Rattle.tables.specs.Faults.{fault_of}
use Rattle.tables.specs.Walking.{TakesFound, Visits, FailsToVisit}
use Rattle.tables.proofs.ListLemmas.{permuted_has, front_has, last_has}
use Rattle.tables.proofs.SelectLemmas.{tests_agree}
use Rattle.tables.proofs.Queries.{selects, selects_query}
use Rattle.tables.proofs.ReadLemmas.{reads_left, never_commits, only_reads, only_reads_then, rests_read}
use Rattle.tables.proofs.ListingLemmas.{begins_to, office_of, if_found}
use Rattle.tables.proofs.QueriedRowsLemmas.{found_as}
use Rattle.tables.proofs.FaultLemmas.{query_cause}
use Rattle.tables.proofs.CauseLemmas.{fails_later, key_fails}

-- ---- the state a step leaves the connection in

-- another row, no more rows, or an error
pub step_reads : {X : Type 0} (old new : State) (r : Result X Error) → (HasCleanDisk new → OnOk r (IsUnchanged old new))
    → (HasCleanDisk new → IfErr r (λ e. Fails old new ⊥ e ⊎ IsUnchanged old new)) → Survives old new (λ _. ⊥) → OnlyReads old new
step_reads {X} old new r same kept survives = reads_left (λ _. ⊥) old new (λ trees none. none) (λ clean. go r (same clean) (kept clean)) survives
  where
    go : (q : Result X Error) → OnOk q (IsUnchanged old new) → IfErr q (λ e. Fails old new ⊥ e ⊎ IsUnchanged old new) → IsUnchanged old new ⊎ IsRolledBack old new
    go (Ok x) as_it_was left = inl as_it_was
    go (Err e) none (inl failed) = inr failed.3
    go (Err e) none (inr as_it_was) = inl as_it_was

-- ---- how a query begins

never_returns : (r : Result Compiled CompileError) → ((c : Compiled) → r ≡ Ok c → c.returning ≡ None) → ¬ Returns r
never_returns (Ok c) none some = absurd (let it = rw (none c refl) at some in cc)
never_returns (Err e) none some = some

pub begun_query : {S : Type 0} (g : Ghosts S) (sql : List ℕ) (params : Row) (old new : Held S) → IsQuery sql → HasBegun g sql params old new
    → HasGiven g sql params new [] × IsUnchanged (state g old) (state g new)
begun_query g sql params old new query (inl begun) = begun
begun_query g sql params old new query (inr wrote) = absurd (never_returns (understood old.schema sql) (query old.schema) wrote.0)

pub begun_reads : {S : Type 0} (g : Ghosts S) (sql : List ℕ) (params : Row) (old new : Held S) → IsQuery sql → (HasCleanDisk (state g new) → HasBegun g sql params old new)
    → Survives (state g old) (state g new) (CommitsShowing sql params (state g old)) → OnlyReads (state g old) (state g new)
begun_reads g sql params old new query begun survives =
    reads_left (CommitsShowing sql params (state g old)) (state g old) (state g new) (λ trees. never_commits sql params (state g old) trees query)
    (λ clean. inl (begun_query g sql params old new query (begun clean)).1) survives

pub refused_reads : (sql : List ℕ) (params : Row) (old new : State) (e : Error) → IsQuery sql → (HasCleanDisk new → FailsToQuery sql params old new e)
    → Survives old new (CommitsShowing sql params old) → OnlyReads old new
refused_reads sql params old new e query failed survives = only_reads sql params old new (λ (rows : List Row). rows) (Err e) query (λ clean. tt) failed survives

-- ---- rows returned so far

still_open : (s : State) → IsTrue s.is_open → IsUnchanged s s
still_open s is_open = (record { was_open = is_open; is_open = is_open; now_is = refl; committed_is = refl; mode = refl }, record { changes = refl; last_rowid = refl }, refl)

module _ {S : Type 0} (g : Ghosts S) (t : Table) (key : Row) (low : length key ≤ (shape t).key) (c : Contents) where
  abbrev sql : List ℕ
  sql = select_text t (length key)

  -- a returned row is one of the table's rows
  given_there : (h : Held S) → Rests c (state g h) → (rows : List Row) → HasGiven g sql key h rows → (row : Row) → Has rows row → Has (c t) row
  given_there h rests rows given row there =
      let begins = begins_to t h.schema (office_of c (state g h) rests).begins in
      let it = (selects t (length key) low).select begins.rest begins.others begins.views in
      let whole = begins_shown sql key (state g h) (state g h) rows (given_begin g sql key h rows given) (still_open (state g h) rests.is_open)
      (λ k db statement source. subst (λ command. EndsIn command db (timed key k.formats statement.now)) (sym (ap command_of (sym statement.is ∙ ap (λ s. understood s sql) begins.is) ∙ it.is)) tt) in
      let found =
      if_found t sql _ (selects t (length key) low) key (begins_with key) (tests_agree 0 (length key) key) {F = Error} c (state g h) (state g h) (λ rows. rows) (Ok (rows ++ whole.0)) rests whole.1
      in
      (has_filtered (begins_with key) (c t) row (permuted_has row (rows ++ whole.0) _ (IsPermutation-sym _ _ found.same) (front_has rows whole.0 row there))).0

-- ---- a walk from its start to a row

-- the given rows have been returned, and their entries consumed
pub record HasWalked {S V X : Type 0} (g : Ghosts S) (t : Table) (row_of : X → Row) (HasVisited : V → List X → Type 0) (start now : Held S) (was is : V) : Type 0 where
  pub given : List Row
  pub found : List X
  pub gives : (sql : List ℕ) (params : Row) → HasGiven g sql params start [] → HasGiven g sql params now given
  pub same : map (at (column_places t)) given ≡ map row_of found
  pub taken : (before : List X) → HasVisited was before → HasVisited is (before ++ found)

module _ {S V X : Type 0} (g : Ghosts S) (t : Table) (row_of : X → Row) (HasVisited : V → List X → Type 0) where
  pub none_walked : (start : Held S) (was : V) → HasWalked g t row_of HasVisited start start was was
  none_walked start was = record { given = []; found = []; gives = λ sql params h. h; same = refl; taken = λ before h. subst (HasVisited was) (sym (append-nil before)) h }

  pub next_walked : (start now next : Held S) (was is will : V) → HasWalked g t row_of HasVisited start now was is → Visits g t row_of HasVisited now next is will true
      → HasWalked g t row_of HasVisited start next was will
  next_walked start now next was is will walked step = record {
    given = walked.given ++ step.0 ∷ [];
    found = walked.found ++ step.1 ∷ [];
    gives = λ sql params h. step.2 sql params walked.given (walked.gives sql params h);
    same =
        map-append (at (column_places t)) walked.given (step.0 ∷ []) ∙ ap (λ l. l ++ at (column_places t) step.0 ∷ []) walked.same ∙ ap (λ r. map row_of walked.found ++ r ∷ []) step.3
        ∙ sym (map-append row_of walked.found (step.1 ∷ []));
    taken = λ before h. subst (HasVisited will) (append_assoc before walked.found (step.1 ∷ [])) (step.4 (before ++ walked.found) (walked.taken before h));
  }

  module _ (key : Row) (low : length key ≤ (shape t).key) (c : Contents) (start : Held S) (was : V) (begun : HasGiven g (select_text t (length key)) key start [])
      (rests : RestsIfOpen c (state g start)) where
    rests_now : (now : Held S) → OnlyReads (state g start) (state g now) → HasCleanDisk (state g now) → RestsIfOpen c (state g now)
    rests_now now first clean is_open = rests_read c (state g start) (state g now) first clean is_open (rests (first.was_open clean is_open))

    -- if no rows remain, all entries have been consumed
    pub all_walked : (now last : Held S) (is will : V) → HasWalked g t row_of HasVisited start now was is → OnlyReads (state g start) (state g now) → HasCleanDisk (state g now)
        → IsTrue (state g now).is_open
        → Visits g t row_of HasVisited now last is will false → TakesFound HasVisited row_of t (begins_with key) c was will
    all_walked now last is will walked first clean is_open end =
        let at_now = rests_now now first clean is_open in
        let shown = end.0 (select_text t (length key)) key walked.given (walked.gives (select_text t (length key)) key begun) in
        let finds =
        if_found t (select_text t (length key)) _ (selects t (length key) low) key (begins_with key) (tests_agree 0 (length key) key) {F = Error} c (state g now) (state g last) (λ rows. rows)
        (Ok walked.given) at_now shown
        in (
          walked.found,
          found_as t (begins_with key) c walked.given (map row_of walked.found) finds walked.same (state g now) at_now,
          subst
              (λ v. (before : List X) → HasVisited was before → HasVisited v (before ++ walked.found)) (sym end.1) walked.taken,
        )

    module _ (IsRow : Row → Type 0) (Stops : Fault → Type 0) (now next : Held S) (is : V) (walked : HasWalked g t row_of HasVisited start now was is) (first : OnlyReads (state g start) (state g now))
        (second : OnlyReads (state g now) (state g next)) (clean : HasCleanDisk (state g next)) (all : AllByRecursion IsRow (c t)) (f : Fault)
      where
        told : (e : Error) → FailsToAdvance g now next e → FailsToQuery (select_text t (length key)) key (state g now) (state g next) e
        told e failed = failed (select_text t (length key)) key walked.given (walked.gives (select_text t (length key)) key begun)

        -- every returned row represents an entry
        never_other : IsTrue (state g next).is_open → (row : Row) → Advances g now next (Some row) → ¬ IsRow row → ⊥
        never_other is_open row more other =
            let at_next = rests_read c (state g now) (state g next) second clean is_open (rests_now now first (second.clean clean) (second.was_open clean is_open)) in
            let given = more (select_text t (length key)) key walked.given (walked.gives (select_text t (length key)) key begun) in
            other (all_has IsRow (c t) row all (given_there g t key low c next at_next (walked.given ++ row ∷ []) given row (last_has walked.given row)))

        pub walk_fails : begins_key t key ≡ true → FailsToVisit g IsRow Stops now next f → FailsBy (state g start) (state g next) f ⊎ Stops f
        walk_fails kinds (inl tells) =
            inl (fails_later (state g start) (state g now) (state g next) f first second clean
            (key_fails {X = ℕ} t (length key) key refl low kinds c (state g now) (state g next) (Err f) clean (rests_now now first (second.clean clean)) (tells.0, tells.1, λ _. told tells.0 tells.2)))
        walk_fails kinds (inr (inl (inl memory))) = inl (inl memory)
        walk_fails kinds (inr (inl (inr stops))) = inr stops
        walk_fails kinds (inr (inr wrong)) = absurd (never_other wrong.1 wrong.2 wrong.3 wrong.4)

        pub walk_cause : FailsToVisit g IsRow Stops now next f → (f ≡ Memory) ⊎ ((f ≡ Store) ⊎ Stops f)
        walk_cause (inl tells) =
            elim (query_cause (select_text t (length key)) key (state g now) (state g next) f (tells.0, tells.1, λ _. told tells.0 tells.2)) [ inl memory ↦ inl memory | inr store ↦ inr (inl store) ]
        walk_cause (inr (inl (inl memory))) = inl memory
        walk_cause (inr (inl (inr stops))) = inr (inr stops)
        walk_cause (inr (inr wrong)) = absurd (never_other wrong.1 wrong.2 wrong.3 wrong.4)

-- ---- a whole walk

-- why a query fails to begin
pub refused_fails : {S : Type 0} (g : Ghosts S) (t : Table) (n : ℕ) (key : Row) → length key ≡ n → n ≤ (shape t).key → begins_key t key ≡ true → (c : Contents) (old new : Held S) (e : Error)
    → HasCleanDisk (state g new)
    → RestsIfOpen c (state g old) → FailsToQuery (select_text t n) key (state g old) (state g new) e → FailsBy (state g old) (state g new) (fault_of e)
refused_fails g t n key many low kinds c old new e clean rests failed = key_fails {X = ℕ} t n key many low kinds c (state g old) (state g new) (Err (fault_of e)) clean rests (e, refl, λ _. failed)

module _ {S : Type 0} (g : Ghosts S) (t : Table) (n : ℕ) (key : Row) (many : length key ≡ n) (low : n ≤ (shape t).key) (old begun last : Held S)
    (begins : HasCleanDisk (state g begun) → HasBegun g (select_text t n) key old begun)
    (survives : Survives (state g old) (state g begun) (CommitsShowing (select_text t n) key (state g old))) (rest : OnlyReads (state g begun) (state g last))
  where
    begin : OnlyReads (state g old) (state g begun)
    begin = begun_reads g (select_text t n) key old begun (selects_query t n low) begins survives

    pub walk_reads : OnlyReads (state g old) (state g last)
    walk_reads = only_reads_then (state g old) (state g begun) (state g last) begin rest

    -- what is proved for any walk from its first row is true for the given key and contents
    pub walk_tells : (P : Row → Contents → Type 0) (c : Contents) → HasCleanDisk (state g last) → RestsIfOpen c (state g old)
        → ((k : Row) → length k ≤ (shape t).key → HasGiven g (select_text t (length k)) k begun [] → (d : Contents) → RestsIfOpen d (state g begun) → P k d) → P key c
    walk_tells P c clean rests told =
        let before = rest.clean clean in
        told key (omega (arith, many, low)) (subst (λ m. HasGiven g (select_text t m) key begun []) (sym many)
        (begun_query g (select_text t n) key old begun (selects_query t n low) (begins before)).0) c
        (λ is_open. rests_read c (state g old) (state g begun) begin before is_open (rests (begin.was_open before is_open)))

    pub walk_fails_later : (Stops : Fault → Type 0) (f : Fault) → HasCleanDisk (state g last) → FailsBy (state g begun) (state g last) f ⊎ Stops f → FailsBy (state g old) (state g last) f ⊎ Stops f
    walk_fails_later Stops f clean (inl fails) = inl (fails_later (state g old) (state g begun) (state g last) f begin rest clean fails)
    walk_fails_later Stops f clean (inr stops) = inr stops
