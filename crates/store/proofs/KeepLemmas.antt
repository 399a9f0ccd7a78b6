-- A store that keeps a state.
use Rattle.std.proofs.Common.{◌≡◌, ◌⊎◌, inl, inr, IsTrue, refl, subst, ◌∙◌, arith, Result, Ok, Err, OnOk}
use Rattle.std.proofs.lemmas.List.Sorted.{IsPermutation-refl, IsPermutation-map}
use Rattle.sqlite.specs.Tree.{Trees}
use Rattle.sqlite.specs.Effect.{Database}
use Rattle.sqlite.specs.State.{State, HasCleanDisk, Survives}
use Rattle.register.specs.Offices.{OfficeState}
use Rattle.register.specs.StateConditions.{IsState}
use Rattle.register.specs.declared.decision.Change.{Change}
use Rattle.register.specs.Effects.{change_entry, with_change}
use Rattle.register.specs.Tabulated.{TabulationEntries, tabulation_of, SameTabulation, addition_entries, with_addition, IsTabulated}
use Rattle.tables.specs.declared.table.Table.TheVariants.{Office, Ward, Candidate, Batch, Keying, Verdict, Lot, Receipt, Bundle, Vote, Third}
use Rattle.tables.specs.Contents.{Contents, SameContents, Stores, Rests, RestsAt}
use Rattle.tables.specs.Reading.{OnlyReads}
use Rattle.store.specs.EntryRows.{row_of_placed, row_of_figure}
use Rattle.store.specs.StateTables.{tables_of, tables_with, ChangesTo, HoldsState, IsAt, LeavesState, KeepsConnection}
use Rattle.tables.proofs.StopLemmas.{rests_leaves}
use Rattle.tables.proofs.ReadLemmas.{rests_read, rests_from}
use Rattle.tables.proofs.SameLemmas.{rests_same, stores_same}

-- a connection that rests at the tables of a state keeps that state
pub rests_is_at : (s : OfficeState) (st : State) → ((trees : Trees) → IsTrue st.is_open → st.may_leave trees → trees ≡ st.committed.trees) → IsState s → Rests (tables_of s) st → IsAt s st
rests_is_at s st settled is rests = record {
  is = is;
  rests = λ _. rests;
  leaves = λ trees may. let it = rests_leaves (tables_of s) st settled rests trees may in (s, refl, record { is = is; stores = subst (λ (c : Contents). Stores c trees) it.1 it.2 });
}

-- a read keeps the state
pub is_at_read : (s : OfficeState) (old new : State) → OnlyReads old new → HasCleanDisk new → IsAt s old → IsAt s new
is_at_read s old new reads honest at = record {
  is = at.is;
  rests = λ is_open. rests_read (tables_of s) old new reads honest is_open (at.rests (reads.was_open honest is_open));
  leaves = λ trees may. at.leaves trees (reads.leaves honest trees may);
}

-- ---- changes

-- the tables of a state with its tabulation in a different order
same_tables : (s : OfficeState) (t u : TabulationEntries) → SameTabulation t u → SameContents (tables_with s t) (tables_with s u)
unfolding tables_with
same_tables s t u same Office = IsPermutation-refl _
same_tables s t u same Ward = IsPermutation-refl _
same_tables s t u same Candidate = IsPermutation-refl _
same_tables s t u same Batch = IsPermutation-refl _
same_tables s t u same Keying = IsPermutation-refl _
same_tables s t u same Verdict = IsPermutation-refl _
same_tables s t u same Lot = IsPermutation-refl _
same_tables s t u same Receipt = IsPermutation-refl _
same_tables s t u same Bundle = IsPermutation-map row_of_placed t.bundles u.bundles same.bundles
same_tables s t u same Vote = IsPermutation-map row_of_figure t.figures u.figures same.figures
same_tables s t u same Third = IsPermutation-refl _

-- the tables of a state after a change, with the change's addition to the tabulation
abbrev pub changed_tables : Change → OfficeState → Contents
changed_tables change s = tables_with (with_change (change_entry change) s) (with_addition (addition_entries change.addition) (tabulation_of s))

pub changes_to : (change : Change) (s : OfficeState) → ChangesTo (change_entry change) (addition_entries change.addition) (tables_of s) (changed_tables change s)
changes_to change s = record { old = s; from = refl; to = refl }

-- if the addition is correct, they are the tables of the state after the change
changed_same : (change : Change) (s : OfficeState) → IsTabulated s change → SameContents (changed_tables change s) (tables_of (with_change (change_entry change) s))
unfolding tables_of
changed_same change s tabulated = same_tables (with_change (change_entry change) s) _ _ tabulated

-- a connection keeps the state after the change if it rests at the changed tables
pub if_change_is_at : {X E : Type 0} (r : Result X E) (change : Change) (s : OfficeState) (st : State) → ((trees : Trees) → IsTrue st.is_open → st.may_leave trees → trees ≡ st.committed.trees)
    → IsTabulated s change → IsState (with_change (change_entry change) s) → OnOk r (Rests (changed_tables change s) st) → OnOk r (IsAt (with_change (change_entry change) s) st)
if_change_is_at (Ok x) change s st settled tabulated is rests = rests_is_at (with_change (change_entry change) s) st settled is (rests_same _ _ st (changed_same change s tabulated) rests)
if_change_is_at (Err e) change s st settled tabulated is rests = tt

-- a stop during a change leaves the old tables or the new ones
pub change_stops : (change : Change) (s : OfficeState) (old new : State) → HasCleanDisk new → IsAt s old → IsTabulated s change → Survives old new (Stores (changed_tables change s))
    → (trees : Trees) → new.may_leave trees → Stores (tables_of s) trees ⊎ Stores (tables_of (with_change (change_entry change) s)) trees
change_stops change s old new honest at tabulated survives trees may = elim (survives.crash honest trees may) [
  | inl was ↦ let it = at.leaves trees was in inl (subst (λ (x : OfficeState). Stores (tables_of x) trees) it.1 it.2.stores)
  | inr made ↦ inr (stores_same _ _ trees (changed_same change s tabulated) made)
]

-- a stop during a change leaves the old state or the new one
pub change_leaves : (change : Change) (s : OfficeState) (old new : State) → HasCleanDisk new → IsAt s old → IsTabulated s change
    → IsState (with_change (change_entry change) s) → Survives old new (Stores (changed_tables change s))
    → LeavesState new (λ x. (x ≡ s) ⊎ (x ≡ with_change (change_entry change) s))
change_leaves change s old new honest at tabulated after survives trees may = elim (survives.crash honest trees may) [
  | inl was ↦ let it = at.leaves trees was in (it.0, inl it.1, it.2)
  | inr made ↦ (with_change (change_entry change) s, inr refl, record { is = after; stores = stores_same _ _ trees (changed_same change s tabulated) made })
]

-- a connection that has only read from a database with a given state keeps that state
pub opened_is_at : (db : Database) (old new : State) → ((trees : Trees) → IsTrue new.is_open → new.may_leave trees → trees ≡ new.committed.trees)
    → HasCleanDisk new → IsTrue new.is_open → OnlyReads old new → RestsAt db old → (s : OfficeState) × HoldsState db s → (s : OfficeState) × HoldsState db s × IsAt s new
opened_is_at db old new settled honest is_open reads at found =
    (found.0, found.1, rests_is_at found.0 new settled found.1.is (rests_from db new (tables_of found.0) found.1.office (reads.rests honest is_open db at)))

-- ---- the effect of each call on the connection

pub survives_connection : (old new : State) (P : Trees → Type 0) → Survives old new P → KeepsConnection old new
survives_connection old new P h = record { limit = h.limit; counts = h.counts; closes = h.closes }

pub reads_connection : (old new : State) → OnlyReads old new → KeepsConnection old new
reads_connection old new h = record { limit = h.limit; counts = h.counts; closes = h.closes }

pub connection_itself : (a : State) → KeepsConnection a a
connection_itself a = record { limit = refl; counts = omega arith; closes = λ honest was. inl was }

pub connection_then : (a b c : State) → (HasCleanDisk c → HasCleanDisk b) → KeepsConnection a b → KeepsConnection b c → KeepsConnection a c
connection_then a b c clean first second = record {
  limit = second.limit ∙ first.limit;
  counts = omega (arith, first.counts, second.counts);
  closes = λ honest was. elim (first.closes (clean honest) was) [
    | inl still ↦ elim (second.closes honest still) [ inl last ↦ inl last | inr fault ↦ inr (omega (arith, first.counts, fault)) ]
    | inr fault ↦ inr (omega (arith, second.counts, fault))
  ];
}
