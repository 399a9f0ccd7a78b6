-- The requests of an order that counts, and their outcome.
use Rattle.std.proofs.Common.{◌≡◌, ◌≢◌, ◌+◌, ◌≤◌, ◌<◌, ◌∙◌, inl, inr, ℕ, zero, suc, Bool, true, false, true≢false, List, [], ◌∷◌, ◌++◌, map, Option, Some, None, string_bytes}
use Rattle.std.proofs.Common.{length, drop, get_or, refl, sym, ap, subst, arith, add-one, eq-eqb, ne_eqb}
use Rattle.std.specs.Prelude.{◌==◌, ◌&&◌, ◌||◌, not, slice_get}
use Rattle.std.specs.List.{range_with_len}
use Rattle.std.proofs.lemmas.List.{append-nil, drop_all, length-append}
use Rattle.std.proofs.lemmas.List.FromFn.{length-map-range_with_len}
use Rattle.clap.specs.Words.{Text}
use Rattle.sqlite.specs.State.{State}
use Rattle.register.specs.Offices.{OfficeState}
use Rattle.register.specs.Machine.{Outcome, accepted, kept, refused, after_one, step_of}
use Rattle.register.specs.declared.command.Request.{Request}
use Rattle.office.specs.Answers.{IsOpenAt, Told, again, done, no, told_of}
use Rattle.desk.specs.Headline.{IsAnswered, IsAnsweredBy, IsSentBy, answer, ended, told_above}
use Rattle.desk.specs.Orders.{Sent, sent_as}
use Rattle.desk.specs.Pages.{Cut, uncut, cut_behind, cut_error, Page, below, empty_page, fronted, goes_on, page_counted}
use Rattle.desk.specs.Parts.{IsCountedBy, IsOver, IsStageBy}
use Rattle.desk.specs.Requests.{AreAdvances, advance_at, advances, id_at, is_first, is_refused, most_advances}
use Rattle.desk.proofs.CauseLemmas.{TellsSince}
use Rattle.desk.proofs.CourseLemmas.{Replied, above_nothing, answered_since, made, next_left, nothing_more, replied_more, replied_then, went_past}
use Rattle.desk.proofs.TellingLemmas.{goes_after_zero}

-- ---- what the machine answers

-- whether the answer is a refusal
abbrev pub tells_no : Told → Bool
tells_no (done reply) = false
tells_no (again reply) = false
tells_no (no why) = true

pub no_is_refused : (o : Outcome) → tells_no (told_of o) ≡ is_refused o
no_is_refused (accepted next reply) = refl
no_is_refused (kept reply) = refl
no_is_refused (refused why) = refl

-- a reply is printed with status 0
reply_status : (first : Bool) (o : Outcome) → is_refused o ≡ false → (page_counted first (told_of o)).status ≡ 0
reply_status first (accepted next reply) e = refl
reply_status first (kept reply) e = refl
reply_status first (refused why) e = absurd (true≢false e)

-- what is printed for the answer to a request of an order that counts, given the id of the order
abbrev pub page_under : Text → OfficeState → Request → Told → Page
page_under id s r = page_counted (is_first id r)

-- the answer to a request, given whether it is the first one
plain_under : (old : State) (closed : Bool) (st : State) (id : Text) (first : Bool) (s : OfficeState) (r : Request) (answered : ℕ) (page : Page) → first ≡ is_first id r
    → IsAnswered old closed st (λ t q. page_counted first) s r answered page → IsAnswered old closed st (page_under id) s r answered page
plain_under old closed st id first s r answered page is met = subst (λ b. IsAnswered old closed st (λ t q. page_counted b) s r answered page) is met

pub answered_under : (recorded : Bool) (old : State) (closed : Bool) (st : State) (id : Text) (first : Bool) (s : OfficeState) (r : Request) (answered : ℕ) (page : Page) → first ≡ is_first id r
    → IsAnsweredBy old closed st recorded (λ t q. page_counted first) s r answered page → IsAnsweredBy old closed st recorded (page_under id) s r answered page
answered_under false old closed st id first s r answered page is met = plain_under old closed st id first s r answered page is met
answered_under true old closed st id first s r answered page is (inl met) = inl (plain_under old closed st id first s r answered page is met)
answered_under true old closed st id first s r answered page is (inr missed) = inr missed

-- the outcome of a request, relative to an earlier state
pub stage_since : (recorded : Bool) (a b : State) (closed : Bool) (st : State) (first : Bool) (s : OfficeState) (r : Request) (page : Page) (answered : ℕ) (goes : Bool) → TellsSince a b st
    → IsStageBy recorded b closed st first s r page answered goes
    → IsStageBy recorded a closed st first s r page answered goes
stage_since recorded a b closed st first s r page answered goes since (met, goes_is) = (answered_since recorded a b closed st (λ t q. page_counted first) s r answered page since met, goes_is)

-- a disjunction with true is true, and a conjunction with false is false, whatever the other operand is
or_true : (b : Bool) → (b || true) ≡ true
or_true true = refl
or_true false = refl

and_false : (b : Bool) → (b && false) ≡ false
and_false true = refl
and_false false = refl

-- ---- requests by number

module _ (ward : ℕ) (id : Text) where
  -- the given requests have n consecutive numbers, starting with k
  abbrev pub Numbered : ℕ → ℕ → List Request → Type 0
  Numbered k n rs = map sent_as rs ≡ map (advance_at ward id) (range_with_len k n)

  -- the first of the given requests, and the remaining ones
  numbered_first : (k n : ℕ) (r : Request) (rs : List Request) → Numbered k (suc n) (r ∷ rs) → sent_as r ≡ advance_at ward id k
  numbered_first k n r rs are = ap (λ (xs : List Sent). get_or xs 0 (sent_as r)) are

  numbered_others : (k n : ℕ) (r : Request) (rs : List Request) → Numbered k (suc n) (r ∷ rs) → Numbered (k + 1) n rs
  numbered_others k n r rs are = ap (λ (xs : List Sent). drop 1 xs) are

  -- no requests are left if no numbers are left
  numbered_none : (k : ℕ) (r : Request) (rs : List Request) → Numbered k 0 (r ∷ rs) → ⊥
  numbered_none k r rs are = let bad : suc (length (map sent_as rs)) ≡ 0 = ap (λ (xs : List Sent). length xs) are in absurd (omega arith)

  -- the first of the given requests has the id for number 1
  pub first_named : (rs : List Request) (r : Request) → Some r ≡ slice_get rs 0 → map sent_as rs ≡ advances ward id most_advances → string_bytes r.id ≡ id_at id 1
  first_named [] r is are = absurd (cc is)
  first_named (q ∷ rs) r is are =
      let same : r ≡ q = cc in
      ap (λ (x : Request). string_bytes x.id) same ∙ ap (λ (x : Sent). x.id) (ap (λ (xs : List Sent). get_or xs 0 (sent_as q)) are)

  pub none_numbered : (rs : List Request) → None ≡ slice_get rs 0 → map sent_as rs ≡ advances ward id most_advances → ⊥
  none_numbered [] is are = let bad : 0 ≡ suc (length (map (advance_at ward id) (range_with_len 2 31))) = ap (λ (xs : List Sent). length xs) are in absurd (omega arith)
  none_numbered (q ∷ rs) is are = absurd (cc is)

  -- some prefix of the given requests that includes the first one is a complete sequence
  pub ended_somewhere : (n k : ℕ) (s : OfficeState) (r : Request) (rs : List Request) → Numbered k (suc n) (r ∷ rs) → k + n ≡ most_advances → (tail : List Request) × AreAdvances s ward id k (r ∷ tail)
  ended_somewhere zero k s r rs are most =
      let last : (k == most_advances) ≡ true = eq-eqb k most_advances (omega (arith, most)) in
      let test : (is_refused (step_of s r) || k == most_advances) ≡ true = rw last (or_true (is_refused (step_of s r))) in
      ([], (numbered_first k 0 r rs are, rw test refl))
  ended_somewhere (suc m) k s r [] are most =
      let bad : 0 ≡ suc (length (map (advance_at ward id) (range_with_len (k + 1 + 1) m))) = ap (λ (xs : List Sent). length xs) (numbered_others k (suc m) r [] are) in absurd (omega arith)
  ended_somewhere (suc m) k s r (q ∷ others) are most =
      let next : Numbered (suc k) (suc m) (q ∷ others) = subst (λ j. Numbered j (suc m) (q ∷ others)) (add-one k) (numbered_others k (suc m) r (q ∷ others) are) in
      by (is_refused (step_of s r) || k == most_advances) refl (ended_somewhere m (suc k) (after_one s r) q others next (omega (arith, most)))
    where
      first : sent_as r ≡ advance_at ward id k
      first = numbered_first k (suc m) r (q ∷ others) are

      by : (b : Bool) → (is_refused (step_of s r) || k == most_advances) ≡ b → (tail : List Request) × AreAdvances (after_one s r) ward id (suc k) (q ∷ tail)
          → (tail : List Request) × AreAdvances s ward id k (r ∷ tail)
      by true e behind = ([], (first, rw e refl))
      by false e (tail, behind) = (q ∷ tail, (first, rw e behind))

  -- ---- requests that the machine didn't refuse

  -- the given requests, numbered from `k`, weren't refused and led to the given state
  abbrev pub Going : OfficeState → ℕ → List Request → OfficeState → Type 0
  Going s k [] end = end ≡ s
  Going s k (r ∷ rs) end = (sent_as r ≡ advance_at ward id k) × (is_refused (step_of s r) ≡ false) × Going (after_one s r) (suc k) rs end

  -- another request wasn't refused
  pub going_more : (s : OfficeState) (k : ℕ) (rs : List Request) (end : OfficeState) (r : Request) → Going s k rs end → sent_as r ≡ advance_at ward id (k + length rs)
      → is_refused (step_of end r) ≡ false
      → Going s k (rs ++ r ∷ []) (after_one end r)
  going_more s k [] end r same is fine =
      let here : k + 0 ≡ k = omega arith in
      (is ∙ ap (advance_at ward id) here, ap (λ (x : OfficeState). is_refused (step_of x r)) (sym same) ∙ fine, ap (λ (x : OfficeState). after_one x r) same)
  going_more s k (q ∷ rs) end r (first, passed, more) is fine =
      let here : k + length (q ∷ rs) ≡ suc k + length rs = omega arith in
      (first, passed, going_more (after_one s q) (suc k) rs end r more (is ∙ ap (advance_at ward id) here) fine)

  -- the number isn't the last one, and the machine doesn't refuse the request, so another request follows
  follows : (s : OfficeState) (k : ℕ) (r : Request) → is_refused (step_of s r) ≡ false → k < most_advances → (is_refused (step_of s r) || k == most_advances) ≡ false
  follows s k r fine few = let other : (k == most_advances) ≡ false = ne_eqb k most_advances (λ same. omega (arith, same, few)) in rw (fine, other) refl

  -- the requests that end the sequence follow
  pub going_then : (s : OfficeState) (k : ℕ) (front : List Request) (end : OfficeState) (others : List Request) → Going s k front end → k + length front ≤ most_advances
      → AreAdvances end ward id (k + length front) others → AreAdvances s ward id k (front ++ others)
  going_then s k [] end others same few are =
      let here : k + 0 ≡ k = omega arith in
      subst (λ x. AreAdvances x ward id k others) same (subst (λ j. AreAdvances end ward id j others) here are)
  going_then s k (r ∷ rs) end others (first, passed, more) few are =
      let here : k + length (r ∷ rs) ≡ suc k + length rs = omega arith in
      let later = going_then (after_one s r) (suc k) rs end others more (omega (arith, few)) (subst (λ j. AreAdvances end ward id j others) here are) in
      (first, rw (follows s k r passed (omega (arith, few))) later)

  -- the sequence goes up to the last number, and none of its requests was refused
  pub going_all : (s : OfficeState) (k : ℕ) (r : Request) (rs : List Request) (end : OfficeState) → Going s k (r ∷ rs) end → k + length rs ≡ most_advances → AreAdvances s ward id k (r ∷ rs)
  going_all s k r [] end (first, passed, same) last =
      let most : (k == most_advances) ≡ true = eq-eqb k most_advances (omega (arith, last)) in
      (first, rw (passed, most) refl)
  going_all s k r (q ∷ rs) end (first, passed, more) last =
      (first, rw (follows s k r passed (omega (arith, last))) (going_all (after_one s r) (suc k) q rs end more (omega (arith, last))))

-- ---- the stages so far

-- The stages so far: their requests weren't refused, and the given page is their outcome. The office is open in the state that they led to. The requests with
-- higher numbers have yet to be sent.
pub record CountedSo (keep : Bool) (line : Option ℕ) (s : OfficeState) (ward : ℕ) (id : Text) (rs : List Request) (i : ℕ) (said : Page) (closed : Bool) (st : State) : Type 0 where
  pub end : OfficeState
  pub open_at : IsOpenAt end closed st
  pub front : List Request
  pub many : length front ≡ i
  pub replied : Replied keep line (page_under id) s front said end
  pub going : Going ward id s 1 front end
  pub left : ℕ
  pub few : (i + 1) + left ≡ most_advances + 1
  pub numbered : Numbered ward id (i + 1) left (drop i rs)

abbrev pub none_counted : (keep : Bool) (line : Option ℕ) (s : OfficeState) (ward : ℕ) (id : Text) (rs : List Request) (closed : Bool) (st : State)
    → IsOpenAt s closed st → map sent_as rs ≡ advances ward id most_advances
    → CountedSo keep line s ward id rs 0 empty_page closed st
none_counted keep line s ward id rs closed st here are =
    record { end = s; open_at = here; front = []; many = refl; replied = (refl, refl); going = refl; left = most_advances; few = refl; numbered = are }

module _ (recorded : Bool) (old : State) (keep : Bool) (line : Option ℕ) (s : OfficeState) (ward : ℕ) (id : Text) (rs : List Request) where
  -- the next request, and how many remain after it
  next_numbered : (i : ℕ) (r : Request) (said : Page) (was : Bool) (before : State) → i < length rs → r ≡ get_or rs i r → (so : CountedSo keep line s ward id rs i said was before)
      → (n : ℕ) × (so.left ≡ suc n) × Numbered ward id (i + 1) (suc n) (r ∷ drop (i + 1) rs)
  next_numbered i r said was before within is so = go so.left refl
    where
      here : drop i rs ≡ r ∷ drop (i + 1) rs
      here = next_left rs i r within is

      go : (n : ℕ) → so.left ≡ n → (m : ℕ) × (so.left ≡ suc m) × Numbered ward id (i + 1) (suc m) (r ∷ drop (i + 1) rs)
      go zero e = absurd (numbered_none ward id (i + 1) r (drop (i + 1) rs) (subst (λ k. Numbered ward id (i + 1) k (r ∷ drop (i + 1) rs)) e
          (subst (Numbered ward id (i + 1) so.left) here so.numbered)))
      go (suc n) e = (n, e, subst (λ k. Numbered ward id (i + 1) k (r ∷ drop (i + 1) rs)) e (subst (Numbered ward id (i + 1) so.left) here so.numbered))

  -- the next stage was counted
  pub stage_more : (mid : State) (i : ℕ) (r : Request) (said : Page) (was : Bool) (before : State) (page : Page) (answered : ℕ) (closed : Bool) (st : State) → i < length rs
      → r ≡ get_or rs i r
      → (so : CountedSo keep line s ward id rs i said was before) → (known : Bool) → known ≡ is_first id r → IsStageBy recorded mid closed st known so.end r page answered true → page.status ≡ 0
      → (next : CountedSo keep line s ward id rs (i + 1) (below said (fronted line page)) closed st) × (next.end ≡ after_one so.end r) × (answered ≡ 1)
  stage_more mid i r said was before page answered closed st within is so known known_is (met, more) done_is =
      let it = answered_under recorded mid closed st id known so.end r answered page known_is met in
      let (n, left_is, numbered) = next_numbered i r said was before within is so in
      let goes : goes_on keep page.status ≡ true = goes_after_zero keep page.status done_is in
      let told = went_past recorded mid closed st keep (page_under id) so.end r answered page it goes in
      let fine : goes_on keep (answer (page_under id) so.end r).status ≡ true = ap (λ (p : Page). goes_on keep p.status) (sym told.0) ∙ goes in
      let number : 1 + length so.front ≡ i + 1 = let many = so.many in omega (arith, many) in
      let first = numbered_first ward id (i + 1) n r (drop (i + 1) rs) numbered in (
        record {
          end = after_one so.end r;
          open_at = told.1;
          front = so.front ++ r ∷ [];
          many = let many = so.many in omega (arith, many, length-append so.front (r ∷ []));
          replied = subst (λ p. Replied keep line (page_under id) s (so.front ++ r ∷ []) (below said p) (after_one so.end r)) (ap (fronted line) (sym told.0))
              (replied_more keep line (page_under id) s so.front said so.end r so.replied fine);
          going = going_more ward id s 1 so.front so.end r so.going (first ∙ ap (advance_at ward id) (sym number)) (not_refused answered (is_refused (step_of so.end r)) more);
          left = n;
          few = let few = so.few in omega (arith, few, left_is);
          numbered = numbered_others ward id (i + 1) n r (drop (i + 1) rs) numbered;
        },
        refl,
        told.2,
      )
    where
      not_refused : (k : ℕ) (b : Bool) → true ≡ (k == 1 && not b) → b ≡ false
      not_refused k false e = refl
      not_refused k true e = absurd (true≢false (e ∙ and_false (k == 1)))

  -- the next request was the last one
  pub stage_last : (i : ℕ) (r : Request) (said : Page) (was : Bool) (before : State) (page : Page) (cut : Cut) (answered : ℕ) (goes : Bool) (closed : Bool) (st : State)
      → i < length rs → r ≡ get_or rs i r
      → (so : CountedSo keep line s ward id rs i said was before) → (known : Bool) → known ≡ is_first id r → IsStageBy recorded old closed st known so.end r page answered goes
      → (goes ≡ true → page.status ≡ 0 → cut ≢ uncut)
      → (tail : List Request) × IsCountedBy recorded old closed st keep line s ward id (told_above so.front said (ended line (r ∷ tail) answered page cut))
  stage_last i r said was before page cut answered goes closed st within is so known known_is (met, goes_is) stops =
      let (n, left_is, numbered) = next_numbered i r said was before within is so in
      let few = so.few in
      let many = so.many in
      let number : i + 1 ≡ 1 + length so.front = omega (arith, many) in
      let (tail, are) = ended_somewhere ward id n (i + 1) so.end r (drop (i + 1) rs) numbered (omega (arith, few, left_is)) in (
        tail,
        (
          so.front ++ r ∷ tail,
          going_then ward id s 1 so.front so.end (r ∷ tail) so.going (omega (arith, few, left_is, many)) (subst (λ k. AreAdvances so.end ward id k (r ∷ tail)) number are),
          replied_then keep line (page_under id) recorded (IsOver closed st) old closed st s so.front said so.end (r ∷ tail)
              (ended line (r ∷ tail) answered page cut) so.replied (last_sent cut tail are stops),
        ),
      )
    where
      it : IsAnsweredBy old closed st recorded (page_under id) so.end r answered page
      it = answered_under recorded old closed st id known so.end r answered page known_is met

      -- a refused request is the last one
      none_behind : (tail : List Request) → AreAdvances so.end ward id (i + 1) (r ∷ tail) → is_refused (step_of so.end r) ≡ true → tail ≡ []
      none_behind tail (first, ends) e = let test : (is_refused (step_of so.end r) || i + 1 == most_advances) ≡ true = rw e refl in rw test at ends

      -- If everything was written and the sequence continues, the request was answered. It was refused, since otherwise the count would have continued.
      was_refused : (page ≡ answer (page_under id) so.end r) → answered ≡ 1 → (goes ≡ true → page.status ≡ 0 → ⊥) → is_refused (step_of so.end r) ≡ true
      was_refused told one never = by (is_refused (step_of so.end r)) refl
        where
          by : (b : Bool) → is_refused (step_of so.end r) ≡ b → is_refused (step_of so.end r) ≡ true
          by true e = e
          by false e =
              let yes : (answered == 1 && not (is_refused (step_of so.end r))) ≡ true = rw (e, eq-eqb answered 1 one) refl in
              absurd (never (goes_is ∙ yes) (ap (λ (p : Page). p.status) told ∙ reply_status (is_first id r) (step_of so.end r) e))

      last_sent : (k : Cut) (tail : List Request) → AreAdvances so.end ward id (i + 1) (r ∷ tail) → (goes ≡ true → page.status ≡ 0 → k ≢ uncut)
          → IsSentBy recorded old closed st keep line (page_under id) (IsOver closed st) so.end (r ∷ tail) (ended line (r ∷ tail) answered page k)
      last_sent (cut_behind took) tail are never = inr (answered, page, cut_behind took, refl, (λ on is. absurd (cc is)), it)
      last_sent cut_error tail are never = inr (answered, page, cut_error, refl, (λ on is. absurd (cc is)), it)
      last_sent uncut tail are never = by (goes_on keep page.status) refl it
        where
          by : (b : Bool) → goes_on keep page.status ≡ b → IsAnsweredBy old closed st recorded (page_under id) so.end r answered page
              → IsSentBy recorded old closed st keep line (page_under id) (IsOver closed st) so.end (r ∷ tail) (ended line (r ∷ tail) answered page uncut)
          by false e met = inr (answered, page, uncut, refl, (λ on. absurd (true≢false (sym on ∙ e))), met)
          by true e met =
              let told = went_past recorded old closed st keep (page_under id) so.end r answered page met e in
              let none : tail ≡ [] = none_behind tail are (was_refused told.0 told.2 (λ yes zero. never yes zero refl)) in
              let fine : goes_on keep (answer (page_under id) so.end r).status ≡ true = ap (λ (p : Page). goes_on keep p.status) (sym told.0) ∙ e in
              let same = ap (λ n. made (r ∷ []) n (fronted line page) uncut) told.2 ∙
              (ap (λ p. made (r ∷ []) 1 (fronted line p) uncut) told.0 ∙ above_nothing (r ∷ []) (fronted line (answer (page_under id) so.end r))) in
              subst (λ t. IsSentBy recorded old closed st keep line (page_under id) (IsOver closed st) so.end (r ∷ t) (ended line (r ∷ t) answered page uncut)) (sym none)
              (inl (nothing_more, fine, same, (refl, told.1)))

  -- all numbers were used, and none of the requests was refused
  pub stages_all : (i : ℕ) (said : Page) (closed : Bool) (st : State) → length rs ≤ i → (so : CountedSo keep line s ward id rs i said closed st)
      → IsCountedBy recorded old closed st keep line s ward id (told_above so.front said nothing_more)
  stages_all i said closed st all so = by so.front refl
    where
      many : length so.front ≡ most_advances
      many =
          let none : length (map (advance_at ward id) (range_with_len (i + 1) so.left)) ≡ 0 = ap (λ (xs : List Sent). length xs) (sym so.numbered) ∙ ap
          (λ (xs : List Request). length (map sent_as xs)) (drop_all i rs all) in
          let left : so.left ≡ 0 = sym (length-map-range_with_len (advance_at ward id) (i + 1) so.left) ∙ none in
          let few = so.few in
          let front = so.many in
          omega (arith, few, left, front)

      by : (front : List Request) → so.front ≡ front → IsCountedBy recorded old closed st keep line s ward id (told_above so.front said nothing_more)
      by [] e = let bad : 0 ≡ most_advances = sym (ap (λ (xs : List Request). length xs) e) ∙ many in absurd (omega arith)
      by (r ∷ front) e = (
        so.front,
        subst (AreAdvances s ward id 1) (sym e) (going_all ward id s 1 r front so.end (subst (λ xs. Going ward id s 1 xs so.end) e so.going)
            (let long = sym (ap (λ (xs : List Request). length xs) e) ∙ many in omega (arith, long))),
        subst (λ xs. IsSentBy recorded old closed st keep line (page_under id) (IsOver closed st) s xs (told_above so.front said nothing_more)) (append-nil so.front)
            (replied_then keep line (page_under id) recorded (IsOver closed st) old closed st s so.front said so.end [] nothing_more so.replied (refl, so.open_at)),
      )
