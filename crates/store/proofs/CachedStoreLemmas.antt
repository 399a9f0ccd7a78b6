-- The cache stays correct.
use Rattle.std.proofs.Common.{◌≡◌, Bool, true, Option, Some, None, [], IfSome, IsTrue, MatchOption, OnOk, Result, Ok, Err, refl, sym, subst}
use Rattle.std.specs.Global.{Vec}
use Rattle.std.specs.Option.{IsSomeAnd}
use Rattle.std.specs.List.{AllByRecursion}
use Rattle.sqlite.specs.Tree.{Trees}
use Rattle.sqlite.specs.Effect.{Database}
use Rattle.sqlite.specs.State.{State, HasCleanDisk}
use Rattle.register.specs.declared.decision.Change.{Change}
use Rattle.register.specs.Offices.{OfficeState, ReceiptEntry, receipt_entry}
use Rattle.register.specs.StateConditions.{IsState}
use Rattle.register.specs.Effects.{effect_entry, change_entry, with_change}
use Rattle.register.specs.Tabulated.{IsTabulated}
use Rattle.tables.specs.declared.table.Table.TheVariants.{Office}
use Rattle.tables.specs.Contents.{IsOffice, RestsAt}
use Rattle.tables.specs.Presence.{IsOurs}
use Rattle.tables.specs.Reading.{OnlyReads}
use Rattle.tables.specs.Schema.{IsOfficeSchema}
use Rattle.tables.proofs.ListingLemmas.{begins_to}
use Rattle.store.specs.declared.batch_cache.CachedBatch.{CachedBatch}
use Rattle.store.specs.Loads.{LoadsAt}
use Rattle.store.specs.Memories.{AreKnown, IsKnown, IsTied, Remembers, StaysKnown}
use Rattle.store.specs.StateTables.{tables_of, HoldsState, IsAt}
use Rattle.store.proofs.KeepLemmas.{is_at_read, rests_is_at}
use Rattle.store.proofs.StateLemmas.{one_state}
use Rattle.tables.specs.declared.fault.Fault.{Fault}

-- a read keeps the cache correct
pub tied_read : (old new : State) (memory : Option (Vec CachedBatch)) → IsTied old memory → OnlyReads old new → IsTied new memory
tied_read old new None tied reads = tt
tied_read old new (Some known) tied reads = λ clean is_open.
    let it = tied (reads.clean clean) (reads.was_open clean is_open) in
    record { state = it.state; at = is_at_read it.state old new reads clean it.at; known = it.known }

-- a read that refreshes the cache keeps it correct
pub tied_renewed : (old new : State) (before after : Vec CachedBatch) → (HasCleanDisk old → IsTrue old.is_open → Remembers old before.items) → OnlyReads old new
    → StaysKnown old new before.items after.items → HasCleanDisk new → IsTrue new.is_open → Remembers new after.items
tied_renewed old new before after tied reads stays clean is_open =
    let it = tied (reads.clean clean) (reads.was_open clean is_open) in
    record { state = it.state; at = is_at_read it.state old new reads clean it.at; known = stays clean it.state it.at it.known }

-- an open connection keeps only one state
pub one_kept_state : (s t : OfficeState) (st : State) → IsTrue st.is_open → IsAt s st → IsAt t st → s ≡ t
one_kept_state s t st is_open first second =
    one_state st.now s t (record { is = first.is; office = (first.rests is_open).office }) (record { is = second.is; office = (second.rests is_open).office })

-- the result of a read with the cache is true of the state the store keeps
pub loads_known : {X : Type 0} {P : OfficeState → X → Type 0} {old new : State} {r : Result X Fault} (before : Vec CachedBatch) → (HasCleanDisk old → IsTrue old.is_open → Remembers old before.items)
    → LoadsAt old new r (λ s x. AreKnown s before.items → P s x) → LoadsAt old new r P
loads_known {X = X} {P = P} {old = old} {new = new} {r = Ok x} before tied loads =
    record {
      shows = λ clean s at.
          let was = loads.reads.was_open clean (loads.opens clean) in
          let it = tied (loads.reads.clean clean) was in
          loads.shows clean s at (subst (λ (t : OfficeState). AreKnown t before.items) (one_kept_state it.state s old was it.at at) it.known);
      cause = loads.cause;
      opens = loads.opens;
      reads = loads.reads;
      keeps = loads.keeps;
    }
loads_known {r = Err f} before tied loads = record { shows = λ clean s at. tt; cause = loads.cause; opens = loads.opens; reads = loads.reads; keeps = loads.keeps }

-- a new cache is correct
pub tied_new : (conn st : State) (memory : Option (Vec CachedBatch)) (remembers : Bool) → IfSome memory (λ known. (remembers ≡ true) × (known.items ≡ [])) → OnlyReads conn st
    → (remembers ≡ true → IsOfficeSchema conn.now.schema) → (remembers ≡ true → IsTrue conn.is_open → RestsAt conn.now conn)
    → (HasCleanDisk st → (db : Database) → IsOurs db.schema → RestsAt db conn → (s : OfficeState) × HoldsState db s × IsAt s st) → IsTied st memory
tied_new conn st None remembers new reads schema rests opened = tt
tied_new conn st (Some known) remembers new reads schema rests opened = λ clean is_open.
    let ours : IsOurs conn.now.schema = record { office = λ _. begins_to Office conn.now.schema (schema new.0); every = λ _. schema new.0 } in
    let found = opened clean conn.now ours (rests new.0 (reads.was_open clean is_open)) in
    record { state = found.0; at = found.2; known = subst (AllByRecursion (IsKnown found.0)) (sym new.1) tt }

-- after a change, the entries that remain in the cache are correct
pub tied_changed : (change : Change) (old new : State) (before after : Option (Vec CachedBatch))
    → MatchOption before (after ≡ None) (λ b. IsSomeAnd after
    (λ a. (s : OfficeState) (r : ReceiptEntry) → AreKnown s b.items → AreKnown (with_change (record { effect = effect_entry change.effect; receipt = r }) s) a.items))
    → IsTied old before → (HasCleanDisk old → IsTrue old.is_open)
    → (HasCleanDisk old → IsTrue old.is_open → (s : OfficeState) → IsAt s old → IsTabulated s change × IsState (with_change (change_entry change) s))
    → (HasCleanDisk new → HasCleanDisk old)
    → (HasCleanDisk new → IsTrue old.is_open → (s : OfficeState) → IsAt s old → IsTabulated s change → IsState (with_change (change_entry change) s) → IsAt (with_change (change_entry change) s) new)
    → IsTied new after
tied_changed change old new before None forgot tied opened leads was done = tt
tied_changed change old new None (Some after) forgot tied opened leads was done = absurd cc
tied_changed change old new (Some before) (Some after) forgot tied opened leads was done = λ clean is_open.
    let it = tied (was clean) (opened (was clean)) in
    let fits = leads (was clean) (opened (was clean)) it.state it.at in
    record {
      state = with_change (change_entry change) it.state;
      at = done clean (opened (was clean)) it.state it.at fits.0 fits.1;
      known = forgot it.state (receipt_entry change.receipt) it.known;
    }

-- the state a store keeps after a read is the one it kept before
pub kept_before : (old new : State) → ((trees : Trees) → IsTrue old.is_open → old.may_leave trees → trees ≡ old.committed.trees) → (IsTrue old.is_open → RestsAt old.now old) → OnlyReads old new
    → HasCleanDisk new → IsTrue new.is_open → (s : OfficeState) → IsAt s new → IsAt s old
kept_before old new settled rests reads clean is_open s at =
    let was = reads.was_open clean is_open in
    let before = rests was in
    let after = reads.rests clean is_open old.now before in
    rests_is_at s old settled at.is
    (record { is_open = was; outside = before.outside; settled = sym before.committed; office = subst (IsOffice (tables_of s)) after.now (at.rests is_open).office })
