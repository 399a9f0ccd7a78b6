-- Names, lots and rejected papers of a state can be read back.
use Rattle.std.proofs.Common.{◌≡◌, ℕ, ◌<◌, ◌≤◌, ◌==◌, ◌&&◌, nat_le, Bool, true, false, not, cond, List, [], ◌∷◌, length, map, filter, refl, sym, ◌∙◌, arith}
use Rattle.std.specs.List.{AllByRecursion, list_all, list_any}
use Rattle.std.specs.List.Sorted.{IsStrictlySortedBy}
use Rattle.std.specs.Ordering.{nat_cmp, ordering_then}
use Rattle.std.specs.Str.{is_utf8}
use Rattle.std.specs.declared.cmp.Ordering.{Ordering}
use Rattle.std.specs.declared.cmp.Ordering.TheVariants.{Less, Equal, Greater}
use Rattle.std.proofs.lemmas.Bool.{and_parts, leb-true, ne_eqb, eqb-true}
use Rattle.std.proofs.lemmas.Cmp.{ranked}
use Rattle.votes.specs.Units.{max_papers}
use Rattle.checker.specs.BallotsComments.{is_drawn}
use Rattle.checker.specs.BallotsRoundTrip.{AreOnce, AreSmall, IsName}
use Rattle.register.specs.declared.polls.Judgement.{Judgement}
use Rattle.register.specs.Ranges.{is_between, is_candidate_number, is_lot_stage, is_name, is_name_byte, is_ward_number}
use Rattle.register.specs.Offices.{CandidateEntry, LotEntry, lot_cmp}
use Rattle.register.specs.Elections.{lot_pair}
use Rattle.register.specs.StateConditions.{is_candidate, is_lot}
use Rattle.register.specs.Polls.{is_rejected, rejected_with}
use Rattle.office.specs.Sheets.{candidate_shown}

-- ---- names

one_line : (name : List ℕ) → list_all is_name_byte name ≡ true → list_any (λ b. b == 10) name ≡ false
one_line [] fine = refl
one_line (b ∷ bs) fine =
    let parts = and_parts (is_name_byte b) (list_all is_name_byte bs) fine in
    let high = leb-true 32 b (and_parts (nat_le 32 b) (not (b == 127)) parts.0).0 in
    rw (ne_eqb b 10 (λ same. omega (arith, high, same))) (one_line bs parts.1)

-- a name that a state can have fits on one line
pub name_is : (name : List ℕ) → is_name name ≡ true → IsName name
unfolding is_name
name_is name fine =
    let parts = and_parts (is_utf8 name) (is_between 1 120 (length name) && list_all is_name_byte name) fine in
    let rest = and_parts (is_between 1 120 (length name)) (list_all is_name_byte name) parts.1 in
    let most = leb-true (length name) 120 (and_parts (nat_le 1 (length name)) (nat_le (length name) 120) rest.0).1 in
    record { short = omega (arith, most); text = parts.0; unended = one_line name rest.1 }

-- and so do the names of candidates
pub names_are : (cs : List CandidateEntry) → list_all is_candidate cs ≡ true → AllByRecursion (λ (candidate : ℕ × List ℕ). IsName candidate.1) (map candidate_shown cs)
unfolding is_candidate
names_are [] fine = tt
names_are (c ∷ cs) fine =
    let parts = and_parts (is_candidate c) (list_all is_candidate cs) fine in
    let own = and_parts (is_ward_number c.ward) (is_candidate_number c.number && is_name c.name) parts.0 in
    (name_is c.name (and_parts (is_candidate_number c.number) (is_name c.name) own.1).1, names_are cs parts.1)

-- ---- lots

-- the stage and the candidate of each lot of a state fit in one byte each
pub lots_small : (ls : List LotEntry) → list_all is_lot ls ≡ true → AreSmall (map lot_pair ls)
unfolding is_lot
lots_small [] fine = tt
lots_small (l ∷ ls) fine =
    let parts = and_parts (is_lot l) (list_all is_lot ls) fine in
    let own = and_parts (is_ward_number l.ward) (is_lot_stage l.stage && is_candidate_number l.candidate) parts.0 in
    let both = and_parts (is_lot_stage l.stage) (is_candidate_number l.candidate) own.1 in
    let stage = leb-true l.stage 31 (and_parts (nat_le 2 l.stage) (nat_le l.stage 31) both.0).1 in
    let candidate = leb-true l.candidate 30 (and_parts (nat_le 1 l.candidate) (nat_le l.candidate 30) both.1).1 in
    ((omega (arith, stage), omega (arith, candidate)), lots_small ls parts.1)

-- two consecutive lots of a ward aren't for the same stage
other_stage : (l x : LotEntry) → lot_cmp l x ≡ Less → l.ward ≡ x.ward → (x.stage == l.stage) ≡ false
other_stage l x less same = ne_eqb x.stage l.stage (λ tied. go (nat_cmp l.ward x.ward) refl less tied)
  where
    go : (o : Ordering) → o ≡ nat_cmp l.ward x.ward → ordering_then o (nat_cmp l.stage x.stage) ≡ Less → x.stage ≡ l.stage → ⊥
    go Less is is_less tied = let rank : l.ward < x.ward = ranked l.ward x.ward Less is in omega (arith, rank, same)
    go Equal is is_less tied = let rank : l.stage < x.stage = ranked l.stage x.stage Less (sym is_less) in omega (arith, rank, tied)
    go Greater is is_less tied = cc

-- the lots of a ward, in order, are for different stages
pub lots_once : (ward : ℕ) (ls : List LotEntry) → IsStrictlySortedBy lot_cmp ls → list_all (λ l. l.ward == ward) ls ≡ true → AreOnce (map lot_pair ls)
unfolding IsStrictlySortedBy
lots_once ward [] up of = tt
lots_once ward (l ∷ ls) up of = (undrawn ls up.0 parts.1, lots_once ward ls up.1 parts.1)
  where
    parts : ((l.ward == ward) ≡ true) × (list_all (λ x. x.ward == ward) ls ≡ true)
    parts = and_parts (l.ward == ward) (list_all (λ x. x.ward == ward) ls) of

    undrawn : (xs : List LotEntry) → AllByRecursion (λ x. lot_cmp l x ≡ Less) xs → list_all (λ x. x.ward == ward) xs ≡ true → is_drawn l.stage (map lot_pair xs) ≡ false
    undrawn [] below own = refl
    undrawn (x ∷ xs) below own =
        let here = and_parts (x.ward == ward) (list_all (λ y. y.ward == ward) xs) own in
        rw (other_stage l x below.0 (eqb-true l.ward ward parts.0 ∙ sym (eqb-true x.ward ward here.0))) (undrawn xs below.1 here.1)

-- the elements kept by a test pass it
pub kept_pass : {X : Type 0} (p : X → Bool) (xs : List X) → list_all p (filter p xs) ≡ true
kept_pass p [] = refl
kept_pass {X} p (x ∷ xs) = go (p x) refl (kept_pass p xs)
  where
    go : (b : Bool) → p x ≡ b → list_all p (filter p xs) ≡ true → list_all p (cond b (x ∷ filter p xs) (filter p xs)) ≡ true
    go true is later = rw is later
    go false is later = later

-- ---- rejected papers

few_kept : {X : Type 0} (p : X → Bool) (xs : List X) → length (filter p xs) ≤ length xs
few_kept p [] = omega arith
few_kept {X} p (x ∷ xs) = go (p x) (few_kept p xs)
  where
    go : (b : Bool) → length (filter p xs) ≤ length xs → length (cond b (x ∷ filter p xs) (filter p xs)) ≤ length (x ∷ xs)
    go true later = omega (arith, later)
    go false later = omega (arith, later)

-- the number of rejected papers for each code is within the limit if the number of all papers is
pub few_rejected : (js : List Judgement) (ns : List ℕ) → length js ≤ max_papers → AllByRecursion (λ n. n ≤ 4294967295) (map (rejected_with js) ns)
few_rejected js [] few = tt
few_rejected js (n ∷ ns) few = (omega (arith, few, few_kept (is_rejected n) js), few_rejected js ns few)
