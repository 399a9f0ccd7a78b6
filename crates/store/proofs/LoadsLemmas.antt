-- Loads, one after another.
use Rattle.std.proofs.Common.{◌≡◌, ◌⊎◌, inl, inr, ℕ, ◌+◌, ◌<◌, ◌≤◌, Bool, true, List, [], ◌∷◌, ◌++◌, map, filter, length}
use Rattle.std.proofs.Common.{take, get_or, Option, option_map, IfSome, Result, Ok, Err, IfOk, IfErr, OnOk, IsTrue, sym, ap, subst, ◌∙◌, arith}
use Rattle.std.proofs.lemmas.List.{take_more, take_all}
use Rattle.std.specs.Option.{option_to_list}
use Rattle.std.specs.List.{AllByRecursion}
use Rattle.std.specs.Result.{IsErrAnd}
use Rattle.sqlite.specs.Order.{Row}
use Rattle.sqlite.specs.State.{State, HasCleanDisk}
use Rattle.register.specs.declared.batches.Batch.{Batch}
use Rattle.register.specs.Offices.{OfficeState}
use Rattle.register.specs.StateConditions.{IsState}
use Rattle.tables.specs.declared.fault.Fault.{Fault}
use Rattle.tables.specs.declared.fault.Fault.TheVariants.{Memory}
use Rattle.tables.specs.declared.table.Table.{Table}
use Rattle.tables.specs.Contents.{Contents, RestsIfOpen}
use Rattle.tables.specs.Reading.{OnlyReads, FailsBy, Finds}
use Rattle.tables.specs.Walking.{TakesFound}
use Rattle.tables.proofs.ListLemmas.{get_mapped, mapped_length}
use Rattle.tables.proofs.ReadLemmas.{only_reads_then, only_reads_itself}
use Rattle.tables.proofs.CauseLemmas.{fails_later}
use Rattle.store.specs.StateTables.{tables_of}
use Rattle.store.specs.Loads.{LoadsAt}
use Rattle.store.proofs.KeepLemmas.{is_at_read}
use Rattle.store.proofs.RowLemmas.{if_entry_told, if_entries_told}

-- ---- one query

-- a query for the entry with a given key, if the row with that key is that of the state's entry
pub loads_entry : {V X : Type 0} {old new : State} {r : Result (Option V) Fault} {kinds : Bool} (t : Table) (test : Row → Bool) (IsRow : Row → Type 0)
    (entry : V → X) (row : X → Row) (back : Row → X) → ((x : X) → back (row x) ≡ x) → (there : OfficeState → Option X)
    → ((s : OfficeState) → IsState s → filter test (tables_of s t) ≡ option_to_list (option_map row (there s))) → ((s : OfficeState) → IsState s → IfSome (option_map row (there s)) IsRow)
    → (HasCleanDisk new → (c : Contents) → RestsIfOpen c old → (x : Option Row) → filter test (c t) ≡ option_to_list x → IfOk r (λ v. option_map (λ u. row (entry u)) v ≡ x))
    → (HasCleanDisk new → (c : Contents) → RestsIfOpen c old → (x : Option Row) → filter test (c t) ≡ option_to_list x → kinds ≡ true → IfSome x IsRow → IfErr r (FailsBy old new))
    → kinds ≡ true → (HasCleanDisk new → OnOk r (IsTrue new.is_open)) → OnlyReads old new
    → LoadsAt old new r (λ s v. option_map entry v ≡ there s)
loads_entry {old = old} {new = new} {r = r} t test IsRow entry row back returns there is fits told fails kinds opens reads = record {
  shows = λ clean s at. if_entry_told entry row back returns r (there s) (told clean (tables_of s) at.rests (option_map row (there s)) (is s at.is));
  cause = λ clean s at. fails clean (tables_of s) at.rests (option_map row (there s)) (is s at.is) kinds (fits s at.is);
  opens = opens;
  reads = reads;
  keeps = λ clean s at. is_at_read s old new reads clean at;
}

-- a query for all entries that pass a test
pub loads_entries : {V X W : Type 0} {old new : State} {r : Result W Fault} {t : Table} {test : Row → Bool} {IsRow : Row → Type 0} {kinds : Bool}
    (items : W → List V) (entry : V → X) (row : X → Row) (back : Row → X) → ((x : X) → back (row x) ≡ x) → (there : OfficeState → List X)
    → ((s : OfficeState) → IsState s → (rows : List Row) → Finds t test (tables_of s) rows → rows ≡ map row (there s)) → ((s : OfficeState) → IsState s → AllByRecursion IsRow (tables_of s t))
    → (HasCleanDisk new → (c : Contents) → RestsIfOpen c old → IfOk r (λ w. Finds t test c (map (λ u. row (entry u)) (items w))))
    → (HasCleanDisk new → (c : Contents) → RestsIfOpen c old → kinds ≡ true → AllByRecursion IsRow (c t) → IfErr r (FailsBy old new))
    → kinds ≡ true → (HasCleanDisk new → OnOk r (IsTrue new.is_open)) → OnlyReads old new
    → LoadsAt old new r (λ s w. map entry (items w) ≡ there s)
loads_entries {old = old} {new = new} {r = r} {t = t} {test = test} items entry row back returns there is fits told fails kinds opens reads = record {
  shows = λ clean s at. if_entries_told items entry row back returns r (there s) (Finds t test (tables_of s)) (is s at.is) (told clean (tables_of s) at.rests);
  cause = λ clean s at. fails clean (tables_of s) at.rests kinds (fits s at.is);
  opens = opens;
  reads = reads;
  keeps = λ clean s at. is_at_read s old new reads clean at;
}

-- ---- one read after another

-- nothing has been read yet
pub loads_none : {X : Type 0} {P : OfficeState → X → Type 0} {st : State} {x : X} → (HasCleanDisk st → IsTrue st.is_open) → ((s : OfficeState) → IsState s → P s x) → LoadsAt st st (Ok x) P
loads_none {st = st} is_open told = record { shows = λ clean s at. told s at.is; cause = λ clean s at. tt; opens = is_open; reads = only_reads_itself st; keeps = λ clean s at. at }

-- the result of a read, restated
pub loads_as : {X Y : Type 0} {P : OfficeState → X → Type 0} {Q : OfficeState → Y → Type 0} {old new : State} {x : X} {y : Y} → LoadsAt old new (Ok x) P
    → ((s : OfficeState) → IsState s → P s x → Q s y) → LoadsAt old new (Ok y) Q
loads_as one told = record { shows = λ clean s at. told s at.is (one.shows clean s at); cause = λ clean s at. tt; opens = one.opens; reads = one.reads; keeps = one.keeps }

-- the same statement for a read that may have failed
pub loads_told : {X : Type 0} {P Q : OfficeState → X → Type 0} {old new : State} {r : Result X Fault} → LoadsAt old new r P → ((s : OfficeState) (x : X) → P s x → Q s x) → LoadsAt old new r Q
loads_told {r = Ok x} one told = record { shows = λ clean s at. told s x (one.shows clean s at); cause = λ clean s at. tt; opens = one.opens; reads = one.reads; keeps = one.keeps }
loads_told {r = Err f} one told = record { shows = λ clean s at. tt; cause = one.cause; opens = one.opens; reads = one.reads; keeps = one.keeps }

-- one read, followed by another
pub loads_both : {X Y : Type 0} {P : OfficeState → X → Type 0} {Q : OfficeState → Y → Type 0} {old mid new : State} {x : X} {y : Y} → LoadsAt old mid (Ok x) P
    → LoadsAt mid new (Ok y) Q → LoadsAt old new (Ok y) (λ s v. P s x × Q s v)
loads_both {old = old} {mid = mid} {new = new} one two = record {
  shows = λ clean s at.
      let before = two.reads.clean clean in
      (one.shows before s at, two.shows clean s (one.keeps before s at));
  cause = λ clean s at. tt;
  opens = two.opens;
  reads = only_reads_then old mid new one.reads two.reads;
  keeps = λ clean s at. two.keeps clean s (one.keeps (two.reads.clean clean) s at);
}

-- a failure that is passed on
pub loads_failed : {X Y : Type 0} {P : OfficeState → X → Type 0} {Q : OfficeState → Y → Type 0} {old new : State} {f : Fault} {r : Result Y Fault}
    → IsErrAnd r (λ e. e ≡ f) → LoadsAt old new (Err f) P → LoadsAt old new r Q
loads_failed {r = Ok y} is failed = absurd is
loads_failed {old = old} {new = new} {r = Err e} is failed = record {
  shows = λ clean s at. tt;
  cause = λ clean s at. subst (FailsBy old new) (sym is) (failed.cause clean s at);
  opens = λ clean. tt;
  reads = failed.reads;
  keeps = failed.keeps;
}

-- a failure of a read that follows another, passed on
pub loads_cut : {X Y Z : Type 0} {P : OfficeState → X → Type 0} {Q : OfficeState → Y → Type 0} {R : OfficeState → Z → Type 0} {old mid new : State} {x : X} {f : Fault} {r : Result Z Fault}
    → IsErrAnd r (λ e. e ≡ f) → LoadsAt old mid (Ok x) P → LoadsAt mid new (Err f) Q → LoadsAt old new r R
loads_cut {r = Ok z} is one failed = absurd is
loads_cut {old = old} {mid = mid} {new = new} {f = f} {r = Err e} is one failed = record {
  shows = λ clean s at. tt;
  cause = λ clean s at.
      let sooner = one.keeps (failed.reads.clean clean) s at in
      subst (FailsBy old new) (sym is) (fails_later old mid new f one.reads failed.reads clean (failed.cause clean s sooner));
  opens = λ clean. tt;
  reads = only_reads_then old mid new one.reads failed.reads;
  keeps = λ clean s at. failed.keeps clean s (one.keeps (failed.reads.clean clean) s at);
}

-- an allocation that fails after a read
pub loads_stopped : {X Y : Type 0} {P : OfficeState → X → Type 0} {Q : OfficeState → Y → Type 0} {old new : State} {x : X} {f : Fault} {r : Result Y Fault}
    → IsErrAnd r (λ e. e ≡ f) → LoadsAt old new (Ok x) P → ((s : OfficeState) → IsState s → P s x → f ≡ Memory) → LoadsAt old new r Q
loads_stopped {r = Ok y} is one memory = absurd is
loads_stopped {old = old} {new = new} {r = Err e} is one memory = record {
  shows = λ clean s at. tt;
  cause = λ clean s at. subst (FailsBy old new) (sym is) (inl (memory s at.is (one.shows clean s at)));
  opens = λ clean. tt;
  reads = one.reads;
  keeps = one.keeps;
}

-- ---- a loop of reads

-- a default batch, for an index past the end of a list
abbrev pub no_batch : Batch
no_batch = record { number = 0; ward = 0; size = 0; first_clerk = 0; second_clerk = 0; round = 0 }

-- the entries of the first elements and of the next one
pub entries_more : {A B : Type 0} (entry : A → B) (xs : List A) (k : ℕ) (none : A) → k < length xs → take (k + 1) (map entry xs) ≡ take k (map entry xs) ++ entry (get_or xs k none) ∷ []
entries_more {B = B} entry xs k none within =
    let x = entry (get_or xs k none) in
    take_more (map entry xs) k x (omega (arith, mapped_length entry xs, within)) ∙ ap (λ (y : B). take k (map entry xs) ++ y ∷ []) (get_mapped entry xs k x none within)

-- the entries of all elements
pub entries_all : {A B : Type 0} (entry : A → B) (xs : List A) (k : ℕ) → length xs ≤ k → take k (map entry xs) ≡ map entry xs
entries_all entry xs k past = take_all k (map entry xs) (omega (arith, mapped_length entry xs, past))

-- ---- rows consumed one after another

-- a walk through the entries that pass a test consumes those of the state, in order
pub loads_walked : {V E X : Type 0} {old new : State} {v visitor : V} {t : Table} {test : Row → Bool} (HasVisited : V → List E → Type 0) (entry : E → X) (row : X → Row) (back : Row → X)
    → ((x : X) → back (row x) ≡ x) → (there : OfficeState → List X)
    → ((s : OfficeState) → IsState s → (rows : List Row) → Finds t test (tables_of s) rows → rows ≡ map row (there s))
    → (HasCleanDisk new → (c : Contents) → RestsIfOpen c old → TakesFound HasVisited (λ e. row (entry e)) t test c visitor v)
    → (HasCleanDisk new → IsTrue new.is_open) → OnlyReads old new
    → HasVisited visitor [] → LoadsAt old new (Ok v) (λ s u. (found : List E) × (map entry found ≡ there s) × HasVisited u found)
loads_walked {V} {E} {X} {old} {new} {v} {visitor} {t} {test} HasVisited entry row back returns there is told opens reads none = record {
  shows = λ clean s at. taken s at.is (told clean (tables_of s) at.rests);
  cause = λ clean s at. tt;
  opens = opens;
  reads = reads;
  keeps = λ clean s at. is_at_read s old new reads clean at;
}
  where
    taken : (s : OfficeState) → IsState s → TakesFound HasVisited (λ e. row (entry e)) t test (tables_of s) visitor v → (found : List E) × (map entry found ≡ there s) × HasVisited v found
    taken s state (found, finds, takes) = (
      found,
      if_entries_told {W = List E} {F = Fault} (λ es. es) entry row back returns (Ok found) (there s)
          (Finds t test (tables_of s)) (is s state) finds,
      takes [] none,
    )

-- a walk that fails, or that stops because an allocation fails
pub loads_unwalked : {X : Type 0} {P : OfficeState → X → Type 0} {old new : State} {f : Fault} {t : Table} {IsRow : Row → Type 0} {kinds : Bool}
    → ((s : OfficeState) → IsState s → AllByRecursion IsRow (tables_of s t))
    → (HasCleanDisk new → (c : Contents) → RestsIfOpen c old → kinds ≡ true → AllByRecursion IsRow (c t) → FailsBy old new f ⊎ (f ≡ Memory))
    → kinds ≡ true → OnlyReads old new → LoadsAt old new (Err f) P
loads_unwalked {old = old} {new = new} {f = f} fits fails kinds reads = record {
  shows = λ clean s at. tt;
  cause = λ clean s at. caused (fails clean (tables_of s) at.rests kinds (fits s at.is));
  opens = λ clean. tt;
  reads = reads;
  keeps = λ clean s at. is_at_read s old new reads clean at;
}
  where
    caused : FailsBy old new f ⊎ (f ≡ Memory) → FailsBy old new f
    caused (inl failed) = failed
    caused (inr memory) = inl memory
