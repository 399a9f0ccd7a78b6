-- If there is no objection to a clerk's command, applying it to a state yields a state, and its receipt is in
-- range.
use Rattle.std.proofs.Common.{rules, inl, inr, ◌≡◌, ◌⊎◌, ℕ, suc, ◌+◌, ◌<◌, ◌≤◌, Bool, true, false, not, ◌&&◌, ◌||◌, ◌==◌, ◌++◌, nat_le, codes, List, [], ◌∷◌, length, map, filter, Option}
use Rattle.std.proofs.Common.{Some, None, Result, Ok, Err, string_bytes, refl, sym, ap, subst, ◌∙◌, arith}
use Rattle.std.specs.Fmt.{decimal}
use Rattle.std.specs.List.{AllByRecursion, list_all}
use Rattle.std.specs.Str.{is_utf8}
use Rattle.std.specs.declared.string.String.{String}
use Rattle.std.specs.declared.alloc.Global.{Global}
use Rattle.std.specs.declared.cmp.Ordering.TheVariants.{Equal, Greater}
use Rattle.std.specs.Ordering.{nat_cmp, is_lt, is_eq, ordering_then}
use Rattle.std.specs.Cmp.{nat_cmp_is}
use Rattle.std.proofs.Math.Nat.{le_refl}
use Rattle.std.proofs.lemmas.Bool.{and_parts, and_from, and_left, and_right, or_left, eqb-true, eq-eqb, le-leb}
use Rattle.std.proofs.lemmas.List.{append_assoc, append-nil}
use Rattle.std.proofs.lemmas.Str.{IsUtf8-string_bytes, is_utf8-from_IsUtf8}
use Rattle.paper.specs.declared.marks.MarkFault.{MarkFault}
use Rattle.paper.specs.declared.marked.Keyed.{Keyed}
use Rattle.paper.specs.MarksText.{reading}
use Rattle.register.specs.declared.phase.Phase.TheVariants.{Keying}
use Rattle.register.specs.declared.refusal.Reason.{Reason}
use Rattle.register.specs.declared.refusal.Reason.TheVariants.{NumberOutOfRange, NoSuchBatch, WrongPhase, NotItsClerk, NotThisRound, AlreadyKeyed, WrongPaperCount}
use Rattle.register.specs.declared.keyings.KeyingCommand.{KeyingCommand}
use Rattle.register.specs.Reasons.{first_reason}
use Rattle.register.specs.Subjects.{is_clerk_subject}
use Rattle.register.specs.Batches.{ward_for, candidates_for, third_for}
use Rattle.register.specs.CommandInputs.{passes}
use Rattle.register.specs.Verdicts.{is_rejection_code}
use Rattle.register.specs.Marks.{columns_of, is_read, is_readable, is_valid, fault_told, marks_objection, first_bad_marks, or_reason}
use Rattle.register.specs.Ranges.{last_batch, last_round, most_papers, is_clerk, is_batch_number, is_paper_number, is_round}
use Rattle.register.specs.Offices.{BatchEntry, KeyedEntry, JudgedEntry, OfficeState, put, put_each, entry_at, keyed_cmp, batch_compared, batch_at, third_at, keying_of, verdicts_of}
use Rattle.register.specs.Agreement.{is_keyed, of_three, agreed, differ, has_doubtful, is_its_clerk, clerks_of, keyings_in, keyings_now, taken_papers}
use Rattle.register.specs.BatchConditions.{columns_for, is_keyed_for, are_numbered, is_whole, is_round_of, are_rounds_to, is_verdict_for, is_judged}
use Rattle.register.specs.StateConditions.{is_keyed_paper, IsState}
use Rattle.register.specs.Effects.{papers_keyed, with_effect}
use Rattle.register.specs.Tabulated.{tabulation_of}
use Rattle.register.specs.Keyings.{texts_of, part_of, is_in_range, objections, subject_of, reply_to, papers_from, effect_of}
use Rattle.register.proofs.LineLemmas.{lower, upper, are_plain-decimals, words, line_append, line_number, line_reply, line_text}
use Rattle.register.proofs.ObjectionLemmas.{no_objection, asked, unasked, IsThere, present, there}
use Rattle.register.proofs.MapLemmas.{list_all_weaker, IsMap, put_each_all, put_is_map, filter_put_in, filter_put_each, put_last, found_filter, found_none, each_weaker, found_passes}
use Rattle.register.proofs.MapLemmas.{found_number, same_number, both_equal}
use Rattle.register.proofs.ElectionLemmas.{lots_placed_of}
use Rattle.register.proofs.ElsewhereLemmas.{IsOfBatch, rounds_elsewhere, judged_elsewhere, IsBeforeCount, batch_in_keying, sound_kept}
use Rattle.register.proofs.TabulationLemmas.{tabulation_kept}
use Rattle.register.proofs.ThreeKeyingsLemmas.{not_keyed, keyed_alike, all_grown, of_one, are_three, Grows, doubtful_still}
use Rattle.register.proofs.KeyedLemmas.{rounds_from, round_at}
use Rattle.register.proofs.ItemLemmas.{MapName, keyed_map, Holds, maps_of, state_from, keyed_total, IsFit, clerk_about}
use Rattle.register.proofs.BatchLemmas.{found_in_range}

-- ---- the papers of a keying

-- a paper of a batch, keyed by a clerk in a round
abbrev is_of : ℕ → ℕ → ℕ → KeyedEntry → Bool
is_of batch round clerk k = (k.batch == batch) && ((k.round == round) && (k.clerk == clerk))

-- papers of a keying, all with numbers below the given one
abbrev AreBelow : ℕ → ℕ → ℕ → ℕ → List KeyedEntry → Type 0
AreBelow batch round clerk paper ks = AllByRecursion (λ k. (is_of batch round clerk k ≡ true) × (k.paper < paper)) ks

module _ (batch round clerk : ℕ) where
  -- a keying has one paper for each marks text
  pub length-papers : (paper : ℕ) (texts : List (List ℕ)) → length (papers_from batch round clerk paper texts) ≡ length texts
  unfolding papers_from
  length-papers paper [] = refl
  length-papers paper (marks ∷ others) = ap suc (length-papers (paper + 1) others)

  -- its papers are numbered consecutively
  pub numbered : (paper : ℕ) (texts : List (List ℕ)) → are_numbered paper (papers_from batch round clerk paper texts) ≡ true
  unfolding papers_from are_numbered
  numbered paper [] = refl
  numbered paper (marks ∷ others) = and_from _ _ (eq-eqb paper paper refl) (numbered (paper + 1) others)

  -- its papers all belong to the keying
  each_of : (test : ℕ → ℕ → ℕ → Bool) → test batch round clerk ≡ true → (paper : ℕ) (texts : List (List ℕ))
      → list_all (λ k. test k.batch k.round k.clerk) (papers_from batch round clerk paper texts) ≡ true
  unfolding papers_from
  each_of test own paper [] = refl
  each_of test own paper (marks ∷ others) = and_from _ _ own (each_of test own (paper + 1) others)

  -- its papers are in range
  papers_in_range : is_batch_number batch ≡ true → is_round round ≡ true → is_clerk clerk ≡ true → (paper : ℕ) (texts : List (List ℕ)) → 1 ≤ paper → paper + length texts ≤ suc most_papers
      → list_all is_utf8 texts ≡ true
      → list_all is_keyed_paper (papers_from batch round clerk paper texts) ≡ true
  unfolding papers_from is_keyed_paper
  papers_in_range a b c paper [] low high written = refl
  papers_in_range a b c paper (marks ∷ others) low high written =
      let text = and_parts (is_utf8 marks) (list_all is_utf8 others) written in
      let number : is_paper_number paper ≡ true = and_from _ _ (le-leb 1 paper low) (le-leb paper most_papers (omega (arith, high))) in
      and_from _ _ (and_from _ _ a (and_from _ _ b (and_from _ _ c (and_from _ _ number text.0)))) (papers_in_range a b c (paper + 1) others (omega (arith, low)) (omega (arith, high)) text.1)

  -- the marks on its papers can be read if no bad marks are found
  papers_read : (columns : List ℕ) (paper : ℕ) (texts : List (List ℕ)) → first_bad_marks columns paper texts ≡ None
      → list_all (λ k. is_readable columns k.marks) (papers_from batch round clerk paper texts) ≡ true
  unfolding papers_from first_bad_marks
  papers_read columns paper [] none = refl
  papers_read columns paper (marks ∷ others) none =
      let parts = neither (marks_objection columns paper marks) (first_bad_marks columns (paper + 1) others) none in
      and_from _ _ (readable (reading columns marks) parts.0) (papers_read columns (paper + 1) others parts.1)
    where
      neither : (o p : Option Reason) → or_reason o p ≡ None → (o ≡ None) × (p ≡ None)
      neither None p none = (refl, none)
      neither (Some why) p none = absurd (cc)

      readable : (r : Result Keyed MarkFault) → fault_told paper r ≡ None → is_read r ≡ true
      readable (Ok keyed) none = refl
      readable (Err fault) none = absurd (cc)

  -- ---- inserting the papers into the map

  -- a paper that follows the other papers of its keying
  behind : (paper : ℕ) (marks : List ℕ) (k : KeyedEntry) → is_of batch round clerk k ≡ true → k.paper < paper
      → keyed_cmp (record { batch = batch; round = round; clerk = clerk; paper = paper; marks = marks }) k ≡ Greater
  behind paper marks k of below =
      let first = and_parts (k.batch == batch) ((k.round == round) && (k.clerk == clerk)) of in
      let second = and_parts (k.round == round) (k.clerk == clerk) first.1 in
      rw
      (eqb-true k.batch batch first.0, eqb-true k.round round second.0, eqb-true k.clerk clerk second.1)
      (rw (sym (nat_cmp_is batch batch Equal refl), sym (nat_cmp_is round round Equal refl), sym (nat_cmp_is clerk clerk Equal refl)) (sym (nat_cmp_is paper k.paper Greater below)))

  more_below : (paper : ℕ) (marks : List ℕ) (ks : List KeyedEntry) → AreBelow batch round clerk paper ks
      → AreBelow batch round clerk (paper + 1) (ks ++ (record { batch = batch; round = round; clerk = clerk; paper = paper; marks = marks } ∷ []))
  more_below paper marks [] below = ((and_from _ _ (eq-eqb batch batch refl) (and_from _ _ (eq-eqb round round refl) (eq-eqb clerk clerk refl)), omega arith), tt)
  more_below paper marks (k ∷ ks) below = let low = (below.0).1 in (((below.0).0, omega (arith, low)), more_below paper marks ks below.1)

  -- an entry with the same key as a paper belongs to the paper's keying
  own_of : (paper : ℕ) (marks : List ℕ) (k : KeyedEntry) → is_eq (keyed_cmp (record { batch = batch; round = round; clerk = clerk; paper = paper; marks = marks }) k) ≡ true
      → is_of batch round clerk k ≡ true
  own_of paper marks k tied =
      let first = both_equal (nat_cmp batch k.batch) (ordering_then (nat_cmp round k.round) (ordering_then (nat_cmp clerk k.clerk) (nat_cmp paper k.paper))) tied in
      let second = both_equal (nat_cmp round k.round) (ordering_then (nat_cmp clerk k.clerk) (nat_cmp paper k.paper)) first.1 in
      let third = both_equal (nat_cmp clerk k.clerk) (nat_cmp paper k.paper) second.1 in
      let equal = λ (m n : ℕ) (same : is_eq (nat_cmp m n) ≡ true). eq-eqb n m (sym (same_number m n same)) in
      and_from _ _ (equal batch k.batch first.0) (and_from _ _ (equal round k.round second.0) (equal clerk k.clerk third.0))

  -- a map in which exactly the given papers belong to the keying
  pub record IsPut (ys zs : List KeyedEntry) : Type 0 where
    pub map : IsMap is_keyed_paper keyed_cmp ys
    pub keying : filter (is_of batch round clerk) ys ≡ zs

  -- inserting a paper that follows the other papers of its keying
  put_paper : (paper : ℕ) (marks : List ℕ) (ys zs : List KeyedEntry) → is_keyed_paper (record { batch = batch; round = round; clerk = clerk; paper = paper; marks = marks }) ≡ true
      → AreBelow batch round clerk paper zs → IsPut ys zs
      → IsPut (put keyed_cmp (record { batch = batch; round = round; clerk = clerk; paper = paper; marks = marks }) ys)
      (zs ++ (record { batch = batch; round = round; clerk = clerk; paper = paper; marks = marks } ∷ []))
  put_paper paper marks ys zs good below is =
      let x : KeyedEntry = record { batch = batch; round = round; clerk = clerk; paper = paper; marks = marks } in
      let above : AllByRecursion (λ k. keyed_cmp x k ≡ Greater) zs = each_weaker _ _ zs (λ k low. behind paper marks k low.0 low.1) below in
      let others_there : AllByRecursion (λ k. is_eq (keyed_cmp x k) ≡ false) zs = each_weaker _ _ zs (λ k g. ap is_eq g) above in
      let last : AllByRecursion (λ k. is_lt (keyed_cmp x k) ≡ false) zs = each_weaker _ _ zs (λ k g. ap is_lt g) above in
      let new : entry_at (keyed_cmp x) ys ≡ None =
      sym (found_filter (keyed_cmp x) (is_of batch round clerk) ys (own_of paper marks)) ∙ ap (entry_at (keyed_cmp x)) is.keying ∙ found_none (keyed_cmp x) zs others_there
      in
      let own : is_of batch round clerk x ≡ true = and_from _ _ (eq-eqb batch batch refl) (and_from _ _ (eq-eqb round round refl) (eq-eqb clerk clerk refl)) in
      let map = is.map in
      record {
        map = put_is_map keyed_total x ys good new map;
        keying = filter_put_in keyed_total (is_of batch round clerk) x ys own map.rises ∙ ap (put keyed_cmp x) is.keying
            ∙ put_last keyed_cmp x zs last;
      }

  -- inserting papers that follow the other papers of their keying
  pub put_papers : (paper : ℕ) (texts : List (List ℕ)) (ys zs : List KeyedEntry) → list_all is_keyed_paper (papers_from batch round clerk paper texts) ≡ true
      → AreBelow batch round clerk paper zs → IsPut ys zs
      → IsPut (put_each keyed_cmp (papers_from batch round clerk paper texts) ys) (zs ++ papers_from batch round clerk paper texts)
  unfolding papers_from
  put_papers paper [] ys zs good below is = record { map = is.map; keying = is.keying ∙ sym (append-nil zs) }
  put_papers paper (marks ∷ others) ys zs good below is =
      let x : KeyedEntry = record { batch = batch; round = round; clerk = clerk; paper = paper; marks = marks } in
      let ranges = and_parts (is_keyed_paper x) (list_all is_keyed_paper (papers_from batch round clerk (paper + 1) others)) good in
      let next = put_papers (paper + 1) others (put keyed_cmp x ys) (zs ++ (x ∷ [])) ranges.1 (more_below paper marks zs below) (put_paper paper marks ys zs ranges.0 below is) in
      record { map = next.map; keying = next.keying ∙ append_assoc zs (x ∷ []) (papers_from batch round clerk (paper + 1) others) }

  -- if the papers pass a test, inserting them before filtering by that test is the same as inserting them after
  -- it
  put_among : (test : KeyedEntry → Bool) (paper : ℕ) (texts : List (List ℕ)) (ys zs : List KeyedEntry) → list_all test (papers_from batch round clerk paper texts) ≡ true
      → list_all is_keyed_paper (papers_from batch round clerk paper texts) ≡ true
      → AreBelow batch round clerk paper zs → IsPut ys zs → filter test (put_each keyed_cmp (papers_from batch round clerk paper texts) ys)
      ≡ put_each keyed_cmp (papers_from batch round clerk paper texts) (filter test ys)
  unfolding papers_from
  put_among test paper [] ys zs passes good below is = refl
  put_among test paper (marks ∷ others) ys zs passes good below is =
      let x : KeyedEntry = record { batch = batch; round = round; clerk = clerk; paper = paper; marks = marks } in
      let kept = and_parts (test x) (list_all test (papers_from batch round clerk (paper + 1) others)) passes in
      let ranges = and_parts (is_keyed_paper x) (list_all is_keyed_paper (papers_from batch round clerk (paper + 1) others)) good in
      let map = is.map in
      put_among test (paper + 1) others (put keyed_cmp x ys) (zs ++ (x ∷ [])) kept.1 ranges.1 (more_below paper marks zs below) (put_paper paper marks ys zs ranges.0 below is)
      ∙ ap (put_each keyed_cmp (papers_from batch round clerk (paper + 1) others)) (filter_put_in keyed_total test x ys kept.0 map.rises)

-- ---- recording a keying

-- the papers of a keying in a batch's current round
abbrev papers_for : BatchEntry → ℕ → List (List ℕ) → List KeyedEntry
papers_for b actor texts = papers_from b.number b.round actor 1 texts

-- the state after recording these papers
abbrev with_papers : OfficeState → BatchEntry → ℕ → List (List ℕ) → OfficeState
with_papers s b actor texts = with_effect (papers_keyed (papers_for b actor texts)) s

module _ (s : OfficeState) (b : BatchEntry) (actor : ℕ) (texts : List (List ℕ)) (is : IsState s) (found : batch_at s b.number ≡ Some b) (its : is_its_clerk actor b (third_at s b.number) ≡ true)
    (unkeyed : keying_of s b.number b.round actor ≡ []) (size : b.size ≡ length texts) where
  -- every other keying is unchanged
  other_keying : (n m clerk : ℕ) → ((b.number == n) && ((b.round == m) && (actor == clerk))) ≡ false → keying_of (with_papers s b actor texts) n m clerk ≡ keying_of s n m clerk
  other_keying n m clerk other =
      filter_put_each keyed_cmp (is_of n m clerk) (papers_for b actor texts) s.keyings (each_of b.number b.round actor (λ x y z. not ((x == n) && ((y == m) && (z == clerk)))) (ap not other) 1 texts)

  -- the effect concerns only this batch
  of_batch : IsOfBatch b.number (papers_keyed (papers_for b actor texts))
  of_batch = each_of b.number b.round actor (λ x y z. x == b.number) (eq-eqb b.number b.number refl) 1 texts

  pub keyed_before : IsThere Keying (ward_for s (batch_at s b.number)) → IsBeforeCount s (papers_keyed (papers_for b actor texts))
  keyed_before its = batch_in_keying s b.number b (papers_keyed (papers_for b actor texts)) found its of_batch (λ own. own) refl refl

  module _ (clerk : is_clerk actor ≡ true) (written : list_all is_utf8 texts ≡ true) where
    papers_good : list_all is_keyed_paper (papers_for b actor texts) ≡ true
    papers_good =
        let parts = found_in_range is b.number b found in
        let high = upper 1 most_papers b.size parts.size in
        papers_in_range b.number b.round actor parts.number parts.round clerk 1 texts (omega arith) (omega (arith, high, size)) written

    put_there : IsPut b.number b.round actor (put_each keyed_cmp (papers_for b actor texts) s.keyings) (papers_for b actor texts)
    put_there = put_papers b.number b.round actor 1 texts s.keyings [] papers_good tt (record { map = maps_of is keyed_map; keying = unkeyed })

    -- inserting the clerk's papers before filtering by a test that they pass is the same as inserting them after
    -- it
    pub put_among_own : (test : KeyedEntry → Bool) → list_all test (papers_for b actor texts) ≡ true
        → filter test (put_each keyed_cmp (papers_for b actor texts) s.keyings) ≡ put_each keyed_cmp (papers_for b actor texts) (filter test s.keyings)
    put_among_own test passes = put_among b.number b.round actor test 1 texts s.keyings [] passes papers_good tt (record { map = maps_of is keyed_map; keying = unkeyed })

    -- in this round, a clerk's keying is either unchanged or, if there was none before, the new one, which is
    -- whole
    now_or_own : (c : ℕ) (same : Bool) → (actor == c) ≡ same → Grows (keying_of s b.number b.round c) (keying_of (with_papers s b actor texts) b.number b.round c)
    now_or_own c false other = inl (other_keying b.number b.round c (and_right (b.number == b.number) _ (and_right (b.round == b.round) (actor == c) other)))
    now_or_own c true same = inr (ap (keying_of s b.number b.round) (sym (eqb-true actor c same)) ∙ unkeyed)

    grows : (c : ℕ) → Grows (keying_of s b.number b.round c) (keying_of (with_papers s b actor texts) b.number b.round c)
    grows c = now_or_own c (actor == c) refl

    whole_or_same : (c : ℕ) (same : Bool) → (actor == c) ≡ same
        → (keying_of (with_papers s b actor texts) b.number b.round c ≡ keying_of s b.number b.round c) ⊎ (is_whole b.size (keying_of (with_papers s b actor texts) b.number b.round c) ≡ true)
    whole_or_same c false other = inl (other_keying b.number b.round c (and_right (b.number == b.number) _ (and_right (b.round == b.round) (actor == c) other)))
    whole_or_same c true same =
        let there = put_there in
        let own : keying_of (with_papers s b actor texts) b.number b.round c ≡ papers_for b actor texts =
        ap (keying_of (with_papers s b actor texts) b.number b.round) (sym (eqb-true actor c same)) ∙ there.keying
        in
        let long : length (papers_for b actor texts) ≡ b.size = length-papers b.number b.round actor 1 texts ∙ sym size in
        inr (ap (is_whole b.size) own ∙ and_from _ _ (eq-eqb (length (papers_for b actor texts)) b.size long) (numbered b.number b.round actor 1 texts))

    whole_now : list_all (is_whole b.size) (keyings_now s b) ≡ true → list_all (is_whole b.size) (keyings_now (with_papers s b actor texts) b) ≡ true
    whole_now all =
        all_grown (is_whole b.size) (keying_of s b.number b.round) (keying_of (with_papers s b actor texts) b.number b.round) (clerks_of s b) (λ c. whole_or_same c (actor == c) refl) all

    own_round : (m : ℕ) → is_round_of s b m ≡ true → is_round_of (with_papers s b actor texts) b m ≡ true
    own_round m holds = go (b.round == m) refl
      where
        go : (same : Bool) → (b.round == m) ≡ same → is_round_of (with_papers s b actor texts) b m ≡ true
        go true same =
            let round = eqb-true b.round m same in
            let was = (and_parts (list_all (is_whole b.size) (keyings_in s b m)) _ holds).0 in
            let now = whole_now (ap (λ (r : ℕ). list_all (is_whole b.size) (keyings_in s b r)) round ∙ was) in
            let there = ap (λ (r : ℕ). list_all (is_whole b.size) (keyings_in (with_papers s b actor texts) b r)) (sym round) ∙ now in
            and_from _ _ there (or_left (nat_le b.round m) _ (le-leb b.round m (omega (arith, round))))
        go false other =
            let same =
            keyed_alike (keying_of (with_papers s b actor texts) b.number m) (keying_of s b.number m) (clerks_of s b)
            (λ clerk. other_keying b.number m clerk (and_right (b.number == b.number) _ (and_left (b.round == m) (actor == clerk) other)))
            in
            ap (λ (ks : List (List KeyedEntry)). list_all (is_whole b.size) ks && (nat_le b.round m || differ ks)) same ∙ holds

    -- a doubtful paper among the batch's agreed papers remains among them
    doubtful_kept : list_all (is_whole b.size) (keyings_now s b) ≡ true → (paper : ℕ) → has_doubtful (taken_papers s b) paper ≡ true
        → has_doubtful (taken_papers (with_papers s b actor texts) b) paper ≡ true
    doubtful_kept whole paper was =
        let three = are_three b (third_at s b.number) in
        let now : keyings_now (with_papers s b actor texts) b ≡ of_three (keying_of (with_papers s b actor texts) b.number b.round three.first)
        (keying_of (with_papers s b actor texts) b.number b.round three.second) (of_one (keying_of (with_papers s b actor texts) b.number b.round) three.third) =
        three.are (keying_of (with_papers s b actor texts) b.number b.round)
        in
        ap (λ (ks : List (List KeyedEntry)). has_doubtful (agreed ks) paper) now
        ∙ doubtful_still
        paper
        b.size
        _
        _
        _
        _
        _
        _
        (grows three.first)
        (grows three.second)
        (grows_one three.third)
        (ap (list_all (is_whole b.size)) (sym now) ∙ whole_now whole)
        (ap (λ (ks : List (List KeyedEntry)). has_doubtful (agreed ks) paper) (sym (three.are (keying_of s b.number b.round))) ∙ was)
      where
        grows_one : (o : Option ℕ) → Grows (of_one (keying_of s b.number b.round) o) (of_one (keying_of (with_papers s b actor texts) b.number b.round) o)
        grows_one None = inl refl
        grows_one (Some c) = grows c

    -- the papers are keyed for an existing batch, in its current round, by one of its clerks, with marks that can
    -- be read
    keyed_for_each : (paper : ℕ) (others : List (List ℕ)) → list_all (λ k. is_readable (columns_for s b) k.marks) (papers_from b.number b.round actor paper others) ≡ true
        → list_all (λ k. is_keyed_for s k (batch_at s k.batch)) (papers_from b.number b.round actor paper others) ≡ true
    unfolding papers_from
    keyed_for_each paper [] read = refl
    keyed_for_each paper (marks ∷ others) read =
        let parts = and_parts (is_readable (columns_for s b) marks) (list_all (λ k. is_readable (columns_for s b) k.marks) (papers_from b.number b.round actor (paper + 1) others)) read in
        and_from _ _ (rw found (and_from _ _ (le-leb b.round b.round (le_refl b.round)) (and_from _ _ its parts.0))) (keyed_for_each (paper + 1) others parts.1)

    -- recording a whole keying yields a state if it is in the batch's current round, by one of the batch's
    -- clerks, who had no keying in that round
    pub keyed_stays : IsBeforeCount s (papers_keyed (papers_for b actor texts)) → first_bad_marks (columns_for s b) 1 texts ≡ None → IsState (with_papers s b actor texts)
    keyed_stays before none =
        let keyed = and_parts _ _ is.keyed in
        let judged = and_parts _ _ is.judged in
        let read = papers_read b.number b.round actor (columns_for s b) 1 texts none in
        let effect = papers_keyed (papers_for b actor texts) in
        state_from
        (with_papers s b actor texts)
        maps
        (record {
          nominated = is.nominated;
          given_out = is.given_out;
          keyed = and_from
              _
              _
              (put_each_all keyed_cmp (λ k. is_keyed_for s k (batch_at s k.batch)) (papers_for b actor texts) s.keyings (keyed_for_each 1 texts read) keyed.0)
              (rounds_elsewhere s effect b.number b is found of_batch (rounds_from s (with_papers s b actor texts) b b b.round own_round));
          judged = and_from _ _ judged.0 (judged_elsewhere s effect b.number b is found of_batch own_judged);
          lots_placed = lots_placed_of is;
          sound = sound_kept s (papers_keyed (papers_for b actor texts)) is before;
        })
      where
        whole : list_all (is_whole b.size) (keyings_now s b) ≡ true
        whole =
            let rounds =
            found_passes (batch_compared b.number) (λ (x : BatchEntry). are_rounds_to s x x.round) b s.batches
            (and_parts (list_all (λ k. is_keyed_for s k (batch_at s k.batch)) s.keyings) _ is.keyed).1 found
            in
            let parts = found_in_range is b.number b found in
            (and_parts _ _ (round_at s b b.round (lower 1 last_round b.round parts.round) rounds)).0

        -- a verdict is still on one of the batch's agreed papers
        is_decided : JudgedEntry → Bool
        is_decided v = ((v.code == 0) && is_valid (columns_for s b) v.marks) || (is_rejection_code v.code && (length v.marks == 0))

        on_kept : (v : JudgedEntry) → (has_doubtful (taken_papers s b) v.paper ≡ true) × (is_decided v ≡ true) → is_verdict_for (with_papers s b actor texts) b v ≡ true
        on_kept v parts = and_from _ _ (doubtful_kept whole v.paper parts.0) parts.1

        own_judged : is_judged s b (verdicts_of s b.number) ≡ true → is_judged (with_papers s b actor texts) b (verdicts_of s b.number) ≡ true
        own_judged verdicts =
            list_all_weaker
            (is_verdict_for s b)
            (is_verdict_for (with_papers s b actor texts) b)
            (verdicts_of s b.number)
            (λ v on. on_kept v (and_parts (has_doubtful (taken_papers s b) v.paper) (is_decided v) on))
            verdicts

        maps : (m : MapName) → Holds m (with_papers s b actor texts)
        maps keyed_map = let there = put_there in there.map
        maps m = maps_of is m

-- ---- the command

-- texts are valid UTF-8
all_written : (texts : List (String Global)) → list_all is_utf8 (map string_bytes texts) ≡ true
all_written [] = refl
all_written (text ∷ texts) = and_from _ _ (is_utf8-from_IsUtf8 (string_bytes text) (IsUtf8-string_bytes text)) (all_written texts)

-- the subjects of receipts for keyings
key_about : (m n : ℕ) → is_batch_number m ≡ true → is_round n ≡ true → is_clerk_subject (codes "key " ++ (decimal m ++ (codes " " ++ decimal n))) ≡ true
unfolding is_clerk_subject
key_about m n h k = rw (are_plain-decimals last_batch last_round m n (omega arith) (omega arith) h k) refl

-- the batch that was found passes the test
found_is : (s : OfficeState) (n : ℕ) (b : BatchEntry) → batch_at s n ≡ Some b → (test : BatchEntry → Bool) → passes test (batch_at s n) ≡ true → test b ≡ true
found_is s n b found test passing = ap (passes test) (sym found) ∙ passing

under_same : (P : OfficeState → Type 0) (s : OfficeState) (b : BatchEntry) (actor : ℕ) (texts : List (List ℕ)) (n round : ℕ) → n ≡ b.number → round ≡ b.round → P (with_papers s b actor texts)
    → P (with_effect (papers_keyed (papers_from n round actor 1 texts)) s)
under_same P s b actor texts n round number same is = rw (number, same) is

-- a keying without objections: its batch, to which the actor is assigned, and the batch's ward, which is in
-- keying
record IsKeying (s : OfficeState) (actor : ℕ) (command : KeyingCommand) : Type 0 where
  clerk : is_clerk actor ≡ true
  batch_number : is_batch_number command.batch ≡ true
  round_number : is_round command.round ≡ true
  batch : BatchEntry
  number : command.batch ≡ batch.number
  round : command.round ≡ batch.round
  found : batch_at s batch.number ≡ Some batch
  its : is_its_clerk actor batch (third_at s batch.number) ≡ true
  unkeyed : keying_of s batch.number batch.round actor ≡ []
  size : batch.size ≡ length (texts_of command)
  read : first_bad_marks (columns_for s batch) 1 (texts_of command) ≡ None
  in_ward : IsThere Keying (ward_for s (batch_at s batch.number))

is_keying : (s : OfficeState) (actor : ℕ) (command : KeyingCommand) → first_reason (objections actor command (part_of s actor command)) ≡ None → IsKeying s actor command
is_keying s actor command none =
    let part = part_of s actor command in
    let met = no_objection (objections actor command part) none in
    let range = and_parts (is_clerk actor) (is_batch_number command.batch && is_round command.round) (asked (is_in_range actor command) NumberOutOfRange (met 0)) in
    let numbers = and_parts (is_batch_number command.batch) (is_round command.round) range.1 in
    let found = present (batch_at s command.batch) NoSuchBatch (met 1) in
    let b = found.it in
    let in_ward = there Keying (ward_for s (batch_at s command.batch)) WrongPhase (met 2) in
    let now = found_is s command.batch b found.is (λ x. x.round == command.round) (asked (passes (λ x. x.round == command.round) part.batch) NotThisRound (met 4)) in
    let none_own = not_keyed part.own (unasked (is_keyed part.own) AlreadyKeyed (met 5)) in
    let long =
    found_is s command.batch b found.is (λ x. x.size == length (texts_of command)) (asked (passes (λ x. x.size == length (texts_of command)) part.batch) WrongPaperCount (met 6))
    in
    let its_clerk : passes (λ (x : BatchEntry). is_its_clerk actor x part.third) part.batch ≡ true → is_its_clerk actor b (third_at s b.number) ≡ true =
    λ its. ap (λ (o : Option BatchEntry). passes (λ (x : BatchEntry). is_its_clerk actor x (third_for s o)) o) (sym found.is) ∙ its
    in
    let number : command.batch ≡ b.number = found_number (λ (x : BatchEntry). x.number) s.batches command.batch b found.is in
    let round : command.round ≡ b.round = sym (eqb-true b.round command.round now) in
    record {
      clerk = range.0;
      batch_number = numbers.0;
      round_number = numbers.1;
      batch = b;
      number = number;
      round = round;
      found = ap (batch_at s) (sym number) ∙ found.is;
      its = its_clerk (asked (passes (λ x. is_its_clerk actor x part.third) part.batch) NotItsClerk (met 3));
      unkeyed = ap (λ (n : ℕ). keying_of s n b.round actor) (sym number) ∙ ap (λ (r : ℕ). keying_of s command.batch r actor) (sym round) ∙ none_own;
      size = eqb-true b.size (length (texts_of command)) long;
      read = ap (λ (o : Option BatchEntry). first_bad_marks (columns_of (candidates_for s o)) 1 (texts_of command)) (sym found.is) ∙ (met 7);
      in_ward = subst (λ (n : ℕ). IsThere Keying (ward_for s (batch_at s n))) number in_ward;
    }

among_same : (s : OfficeState) (b : BatchEntry) (actor : ℕ) (texts : List (List ℕ)) (test : KeyedEntry → Bool) (n round : ℕ) → n ≡ b.number → round ≡ b.round
    → (list_all test (papers_for b actor texts) ≡ true → filter test (put_each keyed_cmp (papers_for b actor texts) s.keyings) ≡ put_each keyed_cmp (papers_for b actor texts) (filter test s.keyings))
    → list_all test (papers_from n round actor 1 texts) ≡ true → filter test (put_each keyed_cmp (papers_from n round actor 1 texts) s.keyings)
    ≡ put_each keyed_cmp (papers_from n round actor 1 texts) (filter test s.keyings)
among_same s b actor texts test n round number same own = rw (number, same) own

-- if its papers pass a test, inserting them before filtering by that test is the same as inserting them after it
pub keyed_among : (s : OfficeState) (actor : ℕ) (command : KeyingCommand) (test : KeyedEntry → Bool) → IsState s → first_reason (objections actor command (part_of s actor command)) ≡ None
    → list_all test (papers_from command.batch command.round actor 1 (texts_of command)) ≡ true
    → filter test (put_each keyed_cmp (papers_from command.batch command.round actor 1 (texts_of command)) s.keyings)
    ≡ put_each keyed_cmp (papers_from command.batch command.round actor 1 (texts_of command)) (filter test s.keyings)
keyed_among s actor command test is none passes =
    let k = is_keying s actor command none in
    among_same s k.batch actor (texts_of command) test command.batch command.round k.number k.round
    (put_among_own s k.batch actor (texts_of command) is k.found k.its k.unkeyed k.size k.clerk (all_written command.papers.items) test) passes

pub keying_fits : (s : OfficeState) (actor : ℕ) (command : KeyingCommand) → IsState s → first_reason (objections actor command (part_of s actor command)) ≡ None
    → IsFit s actor (effect_of actor command) (subject_of command) (reply_to command)
unfolding subject_of reply_to
keying_fits s actor command is none =
    let k = is_keying s actor command none in
    let before = keyed_before s k.batch actor (texts_of command) is k.found k.its k.unkeyed k.size k.in_ward in
    let digits = line_number last_batch command.batch (omega arith) k.batch_number in
    let rounds = line_number last_round command.round (omega arith) k.round_number in
    record {
      state =
          under_same IsState s k.batch actor (texts_of command) command.batch command.round k.number k.round
          (keyed_stays s k.batch actor (texts_of command) is k.found k.its k.unkeyed k.size k.clerk (all_written command.papers.items) before k.read);
      tabulated = under_same (λ t. tabulation_of t ≡ tabulation_of s) s k.batch actor (texts_of command) command.batch command.round k.number k.round (tabulation_kept s _ is before);
      about = clerk_about actor _ k.clerk (key_about command.batch command.round k.batch_number k.round_number);
      text = line_text (line_append (words (codes "key ") (search rules) refl) (line_append digits (line_append (words (codes " ") (search rules) refl) rounds)));
      line =
          line_reply (line_append (words (codes "batch ") (search rules) refl)
          (line_append digits (line_append (words (codes " round ") (search rules) refl) (line_append rounds (words (codes " keyed") (search rules) refl))))) (omega arith);
    }
