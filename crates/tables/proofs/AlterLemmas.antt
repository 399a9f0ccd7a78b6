-- Writes, one after another.
use Rattle.std.proofs.Common.{◌≡◌, ◌⊎◌, inl, ℕ, List, Result, Ok, Err, IsTrue, refl, sym, subst, ◌∙◌, arith}
use Rattle.std.specs.Borrow.{MutBor}
use Rattle.std.specs.Result.{IsErrAnd}
use Rattle.sqlite_trees.specs.declared.store.Store.{Ghosts}
use Rattle.sqlite.specs.Order.{Row}
use Rattle.sqlite.specs.Held.{Held, state}
use Rattle.sqlite.specs.State.{State, HasCleanDisk, KeepsCommit, Survives, ExecutesInside}
use Rattle.sqlite.proofs.InsideLemmas.{keeps_then}
use Rattle.sqlite.proofs.StateLemmas.{survives_then}
use Rattle.tables.specs.declared.fault.Fault.{Fault}
use Rattle.tables.specs.declared.fault.Fault.TheVariants.{Memory, Store}
use Rattle.tables.specs.Contents.{Contents, SameContents, Sees}
use Rattle.tables.specs.Writing.{Alters, RunsStatement}
use Rattle.tables.proofs.FaultLemmas.{statement_cause}
use Rattle.tables.proofs.SameLemmas.{sees_same}

keeps_itself : (a : State) → KeepsCommit a a
keeps_itself a = record { was_open = λ h. h; committed = λ h. refl }

survives_itself : (a : State) → Survives a a (λ _. ⊥)
survives_itself a = record {
  clean = omega arith;
  shield = λ h. h;
  counts = omega arith;
  limit = refl;
  closes = λ clean h. inl h;
  crash = λ clean trees may. inl may;
}

-- two steps that commit nothing, one after the other, commit nothing
survives_twice : (a b c : State) → Survives a b (λ _. ⊥) → Survives b c (λ _. ⊥) → Survives a c (λ _. ⊥)
survives_twice a b c one two = survives_then a b c (λ _. ⊥) (λ _. ⊥) (λ _. ⊥) (λ clean trees none. none) (λ clean trees none. none) one two

-- ---- one statement

-- a statement that writes, and how it changes what the connection sees
pub executed : {S X V : Type 0} {store : Ghosts S} {before after : MutBor (Held S)} {sql : List ℕ} {params : Row} {r : Result V Fault} {Takes Gives : X → State → Type 0}
    → RunsStatement store before after sql params r
    → ((x : X) → Takes x (state store before.now)
    → IsTrue (state store before.now).in_transaction × ((count : ℕ) → ExecutesInside 0 sql params (state store before.now) (state store after.now) (Ok count) → Gives x (state store after.now)))
    → Alters store before after r Takes Gives
executed {r = Ok v} ran made = record {
  same_reference = ran.same_reference;
  writes = λ clean x takes. let it = made x takes in let done = ran.runs clean it.0 in it.1 done.0 done.1;
  keeps = ran.keeps;
  survives = ran.survives;
  cause = tt;
}
executed {store = store} {before = before} {after = after} {sql = sql} {params = params} {r = Err f} ran made = record {
  same_reference = ran.same_reference;
  writes = λ clean x takes. tt;
  keeps = ran.keeps;
  survives = ran.survives;
  cause = statement_cause sql params (state store before.now) (state store after.now) f ran.told;
}

-- ---- one write after another

-- nothing has been written yet
pub alters_none : {S X V : Type 0} {store : Ghosts S} {conn : MutBor (Held S)} {v : V} {Takes Gives : X → State → Type 0}
    → ((x : X) → Takes x (state store conn.now) → Gives x (state store conn.now)) → Alters store conn conn (Ok v) Takes Gives
alters_none {store = store} {conn = conn} told = record {
  same_reference = refl;
  writes = λ clean. told;
  keeps = λ clean. keeps_itself (state store conn.now);
  survives = survives_itself (state store conn.now);
  cause = tt;
}

-- a write, restated with a stronger requirement and a weaker result
pub alters_told : {S X Y V : Type 0} {store : Ghosts S} {before after : MutBor (Held S)} {r : Result V Fault} {Takes Gives : X → State → Type 0} {From To : Y → State → Type 0}
    → Alters store before after r Takes Gives
    → ((y : Y) → From y (state store before.now) → (x : X) × Takes x (state store before.now) × (Gives x (state store after.now) → To y (state store after.now))) → Alters store before after r From To
alters_told {r = Ok v} one told = record {
  same_reference = one.same_reference;
  writes = λ clean y from. let it = told y from in it.2 (one.writes clean it.0 it.1);
  keeps = one.keeps;
  survives = one.survives;
  cause = tt;
}
alters_told {r = Err f} one told = record { same_reference = one.same_reference; writes = λ clean y from. tt; keeps = one.keeps; survives = one.survives; cause = one.cause }

-- the same statement for a write to contents that equal others up to the order of rows
pub alters_same : {S X V : Type 0} {store : Ghosts S} {before after : MutBor (Held S)} {r : Result V Fault} {f : Contents → Contents} {from to : X → Contents}
    → Alters store before after r Sees (λ c. Sees (f c))
    → ((x : X) → SameContents (f (from x)) (to x)) → Alters store before after r (λ x. Sees (from x)) (λ x. Sees (to x))
alters_same {store = store} {after = after} {f = f} {from = from} {to = to} one same = alters_told one
    (λ x sees. (from x, sees, λ given. sees_same (f (from x)) (to x) (state store after.now) (same x) given))

-- one write, followed by another
pub alters_both : {S X Y V W : Type 0} {store : Ghosts S} {a b c : MutBor (Held S)} {v : V} {r : Result W Fault} {From Mid To : X → State → Type 0} {Takes Gives : Y → State → Type 0}
    → Alters store a b (Ok v) From Mid
    → Alters store b c r Takes Gives → ((x : X) → From x (state store a.now) → Mid x (state store b.now)
    → (y : Y) × Takes y (state store b.now) × (Gives y (state store c.now) → To x (state store c.now))) → Alters store a c r From To
alters_both {store = store} {a = a} {b = b} {c = c} {r = Ok w} one two told =
    let before : HasCleanDisk (state store c.now) → HasCleanDisk (state store b.now) = λ clean. let low = two.survives.clean in omega (arith, low, clean) in
    record {
      same_reference = two.same_reference ∙ one.same_reference;
      writes = λ clean x from. let it = told x from (one.writes (before clean) x from) in it.2 (two.writes clean it.0 it.1);
      keeps = λ clean. keeps_then (state store a.now) (state store b.now) (state store c.now) (one.keeps (before clean)) (two.keeps clean);
      survives = survives_twice (state store a.now) (state store b.now) (state store c.now) one.survives two.survives;
      cause = tt;
    }
alters_both {store = store} {a = a} {b = b} {c = c} {r = Err f} one two told =
    let before : HasCleanDisk (state store c.now) → HasCleanDisk (state store b.now) = λ clean. let low = two.survives.clean in omega (arith, low, clean) in
    record {
      same_reference = two.same_reference ∙ one.same_reference;
      writes = λ clean x from. tt;
      keeps = λ clean. keeps_then (state store a.now) (state store b.now) (state store c.now) (one.keeps (before clean)) (two.keeps clean);
      survives = survives_twice (state store a.now) (state store b.now) (state store c.now) one.survives two.survives;
      cause = two.cause;
    }

-- the same statement for a write to contents
pub alters_sees : {S X V W : Type 0} {store : Ghosts S} {a b c : MutBor (Held S)} {v : V} {r : Result W Fault} {From : X → State → Type 0} {at : X → Contents} {f : Contents → Contents}
    → Alters store a b (Ok v) From (λ x. Sees (at x))
    → Alters store b c r Sees (λ rows. Sees (f rows)) → Alters store a c r From (λ x. Sees (f (at x)))
alters_sees {at = at} one two = alters_both one two (λ x from sees. (at x, sees, λ given. given))

-- the same statement, without the result of the two writes
pub alters_after : {S X Y V W : Type 0} {store : Ghosts S} {a b c : MutBor (Held S)} {v : V} {w : W} {From Mid : X → State → Type 0} {Takes Gives : Y → State → Type 0}
    → Alters store a b (Ok v) From Mid
    → Alters store b c (Ok w) Takes Gives → Alters {V = W} store a c (Ok w) (λ (x : X) s. ⊥) (λ x s. ⊥)
alters_after one two = alters_both (alters_told {To = λ x s. ⊥} one (λ x none. absurd none)) two (λ x none mid. absurd none)

-- ---- failures

-- an allocation failed before anything was written
pub alters_refused : {S X V : Type 0} {store : Ghosts S} {conn : MutBor (Held S)} {f : Fault} {r : Result V Fault} {Takes Gives : X → State → Type 0}
    → IsErrAnd r (λ e. e ≡ f) → f ≡ Memory → Alters store conn conn r Takes Gives
alters_refused {r = Ok v} is memory = absurd is
alters_refused {store = store} {conn = conn} {r = Err e} is memory = record {
  same_reference = refl;
  writes = λ clean x takes. tt;
  keeps = λ clean. keeps_itself (state store conn.now);
  survives = survives_itself (state store conn.now);
  cause = inl (is ∙ memory);
}

-- a failure that is passed on
pub alters_failed : {S X Y V W : Type 0} {store : Ghosts S} {before after : MutBor (Held S)} {f : Fault} {r : Result W Fault} {Takes Gives : X → State
    → Type 0} {From To : Y → State → Type 0} → IsErrAnd r (λ e. e ≡ f)
    → Alters {V = V} store before after (Err f) Takes Gives → Alters store before after r From To
alters_failed {r = Ok w} is failed = absurd is
alters_failed {r = Err e} is failed = record {
  same_reference = failed.same_reference;
  writes = λ clean y from. tt;
  keeps = failed.keeps;
  survives = failed.survives;
  cause = subst (λ (x : Fault). (x ≡ Memory) ⊎ (x ≡ Store)) (sym is) failed.cause;
}

-- a failure in a write that follows another, passed on
pub alters_cut : {S X Y Z U V W : Type 0} {store : Ghosts S} {a b c : MutBor (Held S)} {v : V} {f : Fault} {r : Result W Fault} {From Mid : X → State
    → Type 0} {Takes Gives : Y → State → Type 0} {To Into : Z → State → Type 0}
    → IsErrAnd r (λ e. e ≡ f) → Alters store a b (Ok v) From Mid → Alters {V = U} store b c (Err f) Takes Gives → Alters store a c r To Into
alters_cut {r = Ok w} is one failed = absurd is
alters_cut {store = store} {a = a} {b = b} {c = c} {r = Err e} is one failed =
    let before : HasCleanDisk (state store c.now) → HasCleanDisk (state store b.now) = λ clean. let low = failed.survives.clean in omega (arith, low, clean) in
    record {
      same_reference = failed.same_reference ∙ one.same_reference;
      writes = λ clean z to. tt;
      keeps = λ clean. keeps_then (state store a.now) (state store b.now) (state store c.now) (one.keeps (before clean)) (failed.keeps clean);
      survives = survives_twice (state store a.now) (state store b.now) (state store c.now) one.survives failed.survives;
      cause = subst (λ (x : Fault). (x ≡ Memory) ⊎ (x ≡ Store)) (sym is) failed.cause;
    }
