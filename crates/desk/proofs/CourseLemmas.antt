-- Requests and steps that are processed one after another, and their outcome so far.
use Rattle.std.proofs.Common.{◌≡◌, ◌≢◌, ◌⊎◌, ◌+◌, ◌≤◌, ◌<◌, ◌∙◌, inl, inr, ℕ, Bool, true, false, true≢false, List, [], ◌∷◌, ◌++◌, Option, None}
use Rattle.std.proofs.Common.{length, drop, take, get_or, refl, sym, ap, subst, arith, add-one, suc}
use Rattle.std.proofs.Math.Seq.{drop-cons}
use Rattle.std.proofs.lemmas.List.Sums.{fold-append}
use Rattle.std.proofs.lemmas.List.{append-nil, append_assoc, drop_all, length-append, take-append-drop, take_more}
use Rattle.sqlite.specs.State.{State}
use Rattle.register.specs.Offices.{OfficeState}
use Rattle.register.specs.Machine.{after, after_one}
use Rattle.register.specs.declared.command.Request.{Request}
use Rattle.office.specs.Answers.{IsOpenAt, Told}
use Rattle.desk.specs.Folders.{File, Folder, IsFileAt}
use Rattle.desk.specs.Headline.{Course, IsAnswered, IsAnsweredBy, IsBegunBy, IsDoneBy, IsPlayedBy, IsSentBy, IsStopped, IsUnrecorded, IsUnsent, answer, ended, told_above}
use Rattle.desk.specs.Pages.{Cut, uncut, cut_behind, cut_error, Page, below, cut_below, empty_page, fronted, goes_on}
use Rattle.desk.specs.Parts.{IsOver}
use Rattle.desk.specs.Requests.{Sends, file_of}
use Rattle.desk.specs.Scripts.{keeps_going}
use Rattle.desk.specs.Told.{IsTold, page_answered}
use Rattle.desk.specs.declared.orders.Job.{Job}
use Rattle.desk.specs.declared.scripts.ScriptStep.{ScriptStep}
use Rattle.desk.proofs.CauseLemmas.{TellsSince}
use Rattle.desk.proofs.PageLemmas.{below_first, below_joined, below_last, fronted_status}
use Rattle.desk.proofs.TellingLemmas.{cut_joined, cut_none, goes_after_both, goes_after_last, not_after_fault, whole_below}

pub next_left : {X : Type 0} (rs : List X) (i : ℕ) (r : X) → i < length rs → r ≡ get_or rs i r → drop i rs ≡ r ∷ drop (i + 1) rs
next_left rs i r within is = drop-cons rs i r within ∙ (ap (λ x. x ∷ drop (suc i) rs) (sym is) ∙ ap (λ n. r ∷ drop n rs) (sym (add-one i)))

-- the first i + 1 elements are the first i followed by the next one
took : {X : Type 0} (xs : List X) (i : ℕ) (x : X) → i < length xs → x ≡ get_or xs i x → take (i + 1) xs ≡ take i xs ++ x ∷ []
took xs i x within is = take_more xs i x within ∙ ap (λ y. take i xs ++ y ∷ []) (sym is)

-- the first i elements, the next one and the ones after it make up the list
rejoined : {X : Type 0} (xs : List X) (i : ℕ) (x : X) → i < length xs → x ≡ get_or xs i x → take i xs ++ x ∷ drop (i + 1) xs ≡ xs
rejoined xs i x within is = ap (λ ys. take i xs ++ ys) (sym (next_left xs i x within is)) ∙ take-append-drop i xs

-- if i is at least the length of the list, the first i elements are the whole list
all_taken : {X : Type 0} (xs : List X) (i : ℕ) → length xs ≤ i → take i xs ++ [] ≡ xs
all_taken xs i all = ap (λ ys. take i xs ++ ys) (sym (drop_all i xs all)) ∙ take-append-drop i xs

-- ---- outcomes, and what was written completely before them

-- the outcome in which the given number of the requests were answered, and the page was written up to the given point
abbrev pub made : List Request → ℕ → Page → Cut → Course
made requests answered page cut = record { requests = requests; answered = answered; page = page; cut = cut }

-- nothing else is printed
abbrev pub nothing_more : Course
nothing_more = ended None [] 0 empty_page uncut

pub above_none : (c : Course) → c ≡ told_above [] empty_page c
above_none c =
    let none : c.answered ≡ c.answered + 0 = omega arith in
    ap (λ n. made c.requests n c.page c.cut) none
    ∙ ap (λ page. made c.requests (c.answered + 0) page c.cut) (sym (below_first c.page))
    ∙ ap (made c.requests (c.answered + 0) (below empty_page c.page)) (cut_none c.cut)

pub above_joined : (front own : List Request) (said page : Page) (c : Course) → told_above front said (told_above own page c) ≡ told_above (front ++ own) (below said page) c
above_joined front own said page c =
    let count : (c.answered + length own) + length front ≡ c.answered + length (front ++ own) = omega (arith, length-append front own) in
    let cut = cut_below said.out (cut_below page.out c.cut) in
    ap (λ rs. made rs (c.answered + length own + length front) (below said (below page c.page)) cut) (sym (append_assoc front own c.requests))
    ∙ ap (λ n. made ((front ++ own) ++ c.requests) n (below said (below page c.page)) cut) count
    ∙ ap (λ p. made ((front ++ own) ++ c.requests) (c.answered + length (front ++ own)) p cut) (sym (below_joined said page c.page))
    ∙ ap (made ((front ++ own) ++ c.requests) (c.answered + length (front ++ own)) (below (below said page) c.page)) (sym (cut_joined said.out page.out c.cut))

-- an outcome with nothing after it is the outcome of the given requests and their page, followed by nothing
pub above_nothing : (own : List Request) (page : Page) → made own (length own) page uncut ≡ told_above own page nothing_more
above_nothing own page =
    let count : length own ≡ 0 + length own = omega arith in
    ap (λ rs. made rs (length own) page uncut) (sym (append-nil own))
    ∙ ap (λ n. made (own ++ []) n page uncut) count
    ∙ ap (λ p. made (own ++ []) (0 + length own) p uncut) (sym (below_last page))

-- ---- requests after which the sequence continued

-- everything was written, and the sequence continues
abbrev pub WentOn : Bool → Course → Type 0
WentOn keep c = (goes_on keep c.page.status ≡ true) × (c.cut ≡ uncut)

module _ (keep : Bool) (line : Option ℕ) (tells : OfficeState → Request → Told → Page) where
  -- the page for a request in the given state
  abbrev pub page_at : OfficeState → Request → Page
  page_at s r = fronted line (answer tells s r)

  -- all the given requests were answered and the sequence continued; the given page contains the answers, and the requests led to the given final state
  abbrev pub Replied : OfficeState → List Request → Page → OfficeState → Type 0
  Replied s [] said end = (said ≡ empty_page) × (end ≡ s)
  Replied s (r ∷ rs) said end = (rest : Page) × (goes_on keep (answer tells s r).status ≡ true) × (said ≡ below (page_at s r) rest) × Replied (after_one s r) rs rest end

  -- another request was answered
  pub replied_more : (s : OfficeState) (rs : List Request) (said : Page) (end : OfficeState) (r : Request) → Replied s rs said end → goes_on keep (answer tells end r).status ≡ true
      → Replied s (rs ++ r ∷ []) (below said (page_at end r)) (after_one end r)
  replied_more s [] said end r (none, same) goes = (
    empty_page,
    ap (λ (x : OfficeState). goes_on keep (answer tells x r).status) (sym same) ∙ goes,
    ap (λ page. below page (page_at end r)) none ∙ (below_first (page_at end r) ∙ (ap (λ (x : OfficeState). page_at x r) same ∙ sym (below_last (page_at s r)))),
    (refl, ap (λ (x : OfficeState). after_one x r) same),
  )
  replied_more s (q ∷ rs) said end r (rest, fine, is, more) goes = (
    below rest (page_at end r),
    fine,
    ap (λ page. below page (page_at end r)) is ∙ below_joined (page_at s q) rest (page_at end r),
    replied_more (after_one s q) rs rest end r more goes,
  )

  -- the requests led to this state
  pub replied_after : (s : OfficeState) (rs : List Request) (said : Page) (end : OfficeState) → Replied s rs said end → end ≡ after s rs
  replied_after s [] said end (none, same) = same
  replied_after s (r ∷ rs) said end (rest, fine, is, more) = replied_after (after_one s r) rs rest end more

  -- the outcome of the remaining requests follows
  pub replied_then : (recorded : Bool) (Then : OfficeState → Course → Type 0) (old : State) (closed : Bool) (st : State) (s : OfficeState) (front : List Request)
      (said : Page) (end : OfficeState) (others : List Request) (c : Course)
      → Replied s front said end → IsSentBy recorded old closed st keep line tells Then end others c
      → IsSentBy recorded old closed st keep line tells Then s (front ++ others) (told_above front said c)
  replied_then recorded Then old closed st s [] said end others c (none, same) sent =
      subst (λ x. IsSentBy recorded old closed st keep line tells Then x others (told_above [] said c)) same
      (subst (λ page. IsSentBy recorded old closed st keep line tells Then end others (told_above [] page c)) (sym none)
      (subst (IsSentBy recorded old closed st keep line tells Then end others) (above_none c) sent))
  replied_then recorded Then old closed st s (r ∷ rs) said end others c (rest, fine, is, more) sent = inl (
    told_above rs rest c,
    fine,
    ap (λ page. told_above (r ∷ rs) page c) is ∙ sym (above_joined (r ∷ []) rs (page_at s r) rest c),
    replied_then recorded Then old closed st (after_one s r) rs rest end others c more sent,
  )

  -- the sequence doesn't continue after a page that ends it, or after an output has failed
  pub not_gone : (requests : List Request) (answered : ℕ) (page : Page) (cut : Cut) (c : Course) → c ≡ ended line requests answered page cut → (goes_on keep page.status ≡ true → cut ≢ uncut)
      → WentOn keep c → ⊥
  not_gone requests answered page cut c is ends gone =
      ends (ap (goes_on keep) (sym (fronted_status line page)) ∙ (ap (λ (e : Course). goes_on keep e.page.status) (sym is) ∙ gone.0)) (ap (λ (e : Course). e.cut) (sym is) ∙ gone.1)

  -- all the given requests were answered
  pub replied_all : (recorded : Bool) (old : State) (closed : Bool) (st : State) (s : OfficeState) (rs : List Request) (c : Course) → WentOn keep c
      → IsSentBy recorded old closed st keep line tells (IsOver closed st) s rs c
      → (end : OfficeState) × IsOpenAt end closed st × Replied s rs c.page end × (c.requests ≡ rs) × (c.answered ≡ length rs)
  replied_all recorded old closed st s [] c gone sent =
      (s, sent.1, (ap (λ (e : Course). e.page) sent.0, refl), ap (λ (e : Course). e.requests) sent.0, ap (λ (e : Course). e.answered) sent.0)
  replied_all recorded old closed st s (r ∷ rs) c gone (inl (rest, fine, is, sent)) =
      let cut : rest.cut ≡ uncut = whole_below (page_at s r).out c.cut rest.cut (ap (λ (e : Course). e.cut) is) gone.1 in
      let both : goes_on keep (below (page_at s r) rest.page).status ≡ true = ap (λ (e : Course). goes_on keep e.page.status) (sym is) ∙ gone.0 in
      let it = replied_all recorded old closed st (after_one s r) rs rest (goes_after_last keep (page_at s r).status rest.page.status both, cut) sent in
      let many : rest.answered ≡ length rs = it.4 in (
        it.0,
        it.1,
        (rest.page, fine, ap (λ (e : Course). e.page) is, it.2),
        ap (λ (e : Course). e.requests) is ∙ ap (λ xs. r ∷ xs) it.3,
        ap (λ (e : Course). e.answered) is ∙ omega (arith, many),
      )
  replied_all recorded old closed st s (r ∷ rs) c gone (inr (answered, page, cut, is, ends, it)) = absurd (not_gone (r ∷ rs) answered page cut c is ends gone)

-- The first i requests have been answered, with the given page as their outcome. The office is open in the state that they led to.
pub record SentSo (keep : Bool) (line : Option ℕ) (tells : OfficeState → Request → Told → Page) (s : OfficeState) (rs : List Request) (i : ℕ) (said : Page) (closed : Bool) (st : State) : Type 0 where
  pub end : OfficeState
  pub open_at : IsOpenAt end closed st
  pub replied : Replied keep line tells s (take i rs) said end

abbrev pub none_sent : (keep : Bool) (line : Option ℕ) (tells : OfficeState → Request → Told → Page) (s : OfficeState) (rs : List Request) (closed : Bool) (st : State)
    → IsOpenAt s closed st → SentSo keep line tells s rs 0 empty_page closed st
none_sent keep line tells s rs closed st here = record { end = s; open_at = here; replied = (refl, refl) }

-- ---- requests of one step

-- an outcome without a second record is one with or without it
pub plain_answer : (recorded : Bool) (old : State) (closed : Bool) (st : State) (tells : OfficeState → Request → Told → Page) (s : OfficeState) (r : Request) (answered : ℕ) (page : Page)
    → IsAnswered old closed st tells s r answered page → IsAnsweredBy old closed st recorded tells s r answered page
plain_answer false old closed st tells s r answered page it = it
plain_answer true old closed st tells s r answered page it = inl it

-- the request wasn't acknowledged because recording it failed
pub unrecorded_answer : (recorded : Bool) (old : State) (closed : Bool) (st : State) (tells : OfficeState → Request → Told → Page) (s : OfficeState) (r : Request) (answered : ℕ) (page : Page)
    → recorded ≡ true → IsUnrecorded old closed st s r answered page → IsAnsweredBy old closed st recorded tells s r answered page
unrecorded_answer false old closed st tells s r answered page is it = absurd (true≢false (sym is))
unrecorded_answer true old closed st tells s r answered page is it = inr it

-- the outcome is one without a second record, or recording the request failed
pub split_answer : (recorded : Bool) (old : State) (closed : Bool) (st : State) (tells : OfficeState → Request → Told → Page) (s : OfficeState) (r : Request) (answered : ℕ) (page : Page)
    → IsAnsweredBy old closed st recorded tells s r answered page → IsAnswered old closed st tells s r answered page ⊎ ((recorded ≡ true) × IsUnrecorded old closed st s r answered page)
split_answer false old closed st tells s r answered page it = inl it
split_answer true old closed st tells s r answered page (inl it) = inl it
split_answer true old closed st tells s r answered page (inr it) = inr (refl, it)

-- a request that got no answer from the machine ended the sequence
pub went_past : (recorded : Bool) (old : State) (closed : Bool) (st : State) (keep : Bool) (tells : OfficeState → Request → Told → Page) (s : OfficeState) (r : Request) (answered : ℕ) (page : Page)
    → IsAnsweredBy old closed st recorded tells s r answered page
    → goes_on keep page.status ≡ true
    → (page ≡ answer tells s r) × IsOpenAt (after_one s r) closed st × (answered ≡ 1)
went_past recorded old closed st keep tells s r answered page it goes = by (split_answer recorded old closed st tells s r answered page it)
  where
    three : page.status ≡ 3 → ⊥
    three is = true≢false (sym goes ∙ not_after_fault keep page.status is)

    by : IsAnswered old closed st tells s r answered page ⊎ ((recorded ≡ true) × IsUnrecorded old closed st s r answered page)
        → (page ≡ answer tells s r) × IsOpenAt (after_one s r) closed st × (answered ≡ 1)
    by (inl (inl told)) = (told.1, told.2, told.0)
    by (inl (inr met)) = absurd (three (ap (λ (p : Page). p.status) met.1.1))
    by (inr missed) = absurd (three (ap (λ (p : Page). p.status) missed.1.1))

module _ (recorded : Bool) (old : State) (keep : Bool) (line : Option ℕ) (tells : OfficeState → Request → Told → Page) (s : OfficeState) (rs : List Request) where
  -- the outcome of all requests
  abbrev pub AllSent : Bool → State → Course → Type 0
  AllSent closed st c = IsSentBy recorded old closed st keep line tells (IsOver closed st) s rs c

  -- the next request was answered, and the sequence continued
  pub sent_more : (mid : State) (i : ℕ) (r : Request) (said : Page) (was : Bool) (before : State) (page : Page) (answered : ℕ) (closed : Bool) (st : State) → i < length rs → r ≡ get_or rs i r
      → (so : SentSo keep line tells s rs i said was before) → IsAnsweredBy mid closed st recorded tells so.end r answered page → goes_on keep (fronted line page).status ≡ true
      → (next : SentSo keep line tells s rs (i + 1) (below said (fronted line page)) closed st) × (next.end ≡ after_one so.end r) × (answered ≡ 1)
  sent_more mid i r said was before page answered closed st within is so it goes =
      let passes : goes_on keep page.status ≡ true = ap (goes_on keep) (sym (fronted_status line page)) ∙ goes in
      let told = went_past recorded mid closed st keep tells so.end r answered page it passes in
      let fine : goes_on keep (answer tells so.end r).status ≡ true = ap (λ (p : Page). goes_on keep p.status) (sym told.0) ∙ passes in (
        record {
          end = after_one so.end r;
          open_at = told.1;
          replied = subst (λ p. Replied keep line tells s (take (i + 1) rs) (below said p) (after_one so.end r)) (ap (fronted line) (sym told.0))
              (subst (λ xs. Replied keep line tells s xs (below said (fronted line (answer tells so.end r))) (after_one so.end r)) (sym (took rs i r within is))
              (replied_more keep line tells s (take i rs) said so.end r so.replied fine));
        },
        refl,
        told.2,
      )

  -- the next request ended the sequence
  pub sent_last : (i : ℕ) (r : Request) (said : Page) (was : Bool) (before : State) (page : Page) (cut : Cut) (answered : ℕ) (closed : Bool) (st : State) → i < length rs → r ≡ get_or rs i r
      → (so : SentSo keep line tells s rs i said was before)
      → IsAnsweredBy old closed st recorded tells so.end r answered page → (goes_on keep (fronted line page).status ≡ true → cut ≢ uncut)
      → AllSent closed st (told_above (take i rs) said (ended line (r ∷ drop (i + 1) rs) answered page cut))
  sent_last i r said was before page cut answered closed st within is so it ends =
      subst (λ xs. IsSentBy recorded old closed st keep line tells (IsOver closed st) s xs (told_above (take i rs) said (ended line (r ∷ drop (i + 1) rs) answered page cut)))
      (rejoined rs i r within is)
      (replied_then keep line tells recorded (IsOver closed st) old closed st s (take i rs) said so.end (r ∷ drop (i + 1) rs) (ended line (r ∷ drop (i + 1) rs) answered page cut) so.replied
      (inr (answered, page, cut, refl, (λ goes. ends (ap (goes_on keep) (fronted_status line page) ∙ goes)), it)))

  -- all requests were answered
  pub sent_all : (i : ℕ) (said : Page) (closed : Bool) (st : State) → length rs ≤ i → (so : SentSo keep line tells s rs i said closed st)
      → AllSent closed st (told_above (take i rs) said nothing_more)
  sent_all i said closed st all so =
      subst (λ xs. IsSentBy recorded old closed st keep line tells (IsOver closed st) s xs (told_above (take i rs) said nothing_more)) (all_taken rs i all)
      (replied_then keep line tells recorded (IsOver closed st) old closed st s (take i rs) said so.end [] nothing_more so.replied (refl, so.open_at))

-- ---- the outcome of a step, relative to an earlier state or followed by other steps

plain_since : (a b : State) (closed : Bool) (st : State) (tells : OfficeState → Request → Told → Page) (s : OfficeState) (r : Request) (answered : ℕ) (page : Page) → TellsSince a b st
    → IsAnswered b closed st tells s r answered page
    → IsAnswered a closed st tells s r answered page
plain_since a b closed st tells s r answered page since (inl told) = inl told
plain_since a b closed st tells s r answered page since (inr (none, (fault, is, (inl fails, leaves)))) = inr (none, (fault, is, (inl (since fault fails), leaves)))
plain_since a b closed st tells s r answered page since (inr (none, (fault, is, (inr accepted, leaves)))) = inr (none, (fault, is, (inr accepted, leaves)))

pub answered_since : (recorded : Bool) (a b : State) (closed : Bool) (st : State) (tells : OfficeState → Request → Told → Page) (s : OfficeState) (r : Request) (answered : ℕ) (page : Page)
    → TellsSince a b st
    → IsAnsweredBy b closed st recorded tells s r answered page
    → IsAnsweredBy a closed st recorded tells s r answered page
answered_since false a b closed st tells s r answered page since it = plain_since a b closed st tells s r answered page since it
answered_since true a b closed st tells s r answered page since (inl it) = inl (plain_since a b closed st tells s r answered page since it)
answered_since true a b closed st tells s r answered page since (inr missed) = inr missed

-- at most one request was answered
pub few_answered : (recorded : Bool) (old : State) (closed : Bool) (st : State) (tells : OfficeState → Request → Told → Page) (s : OfficeState) (r : Request) (answered : ℕ) (page : Page)
    → IsAnsweredBy old closed st recorded tells s r answered page → answered ≤ 1
few_answered recorded old closed st tells s r answered page it = by (split_answer recorded old closed st tells s r answered page it)
  where
    by : IsAnswered old closed st tells s r answered page ⊎ ((recorded ≡ true) × IsUnrecorded old closed st s r answered page) → answered ≤ 1
    by (inl (inl told)) = let one = told.0 in omega (arith, one)
    by (inl (inr met)) = let none = met.0 in omega (arith, none)
    by (inr (is, missed)) = let none = missed.0 in omega (arith, none)

-- the outcome of requests sent one after another, with the outcome of whatever follows them transformed as well
pub sent_turned : {Then Else : OfficeState → Course → Type 0} {Q : Type 0} (recorded : Bool) (a b : State) (closed : Bool) (st : State) (keep : Bool) (line : Option ℕ)
    (tells : OfficeState → Request → Told → Page) → TellsSince a b st
    → ((x : OfficeState) (e : Course) → Then x e → (WentOn keep e → Q) → Else x e)
    → (s : OfficeState) (rs : List Request) (c : Course) → (WentOn keep c → Q) → IsSentBy recorded b closed st keep line tells Then s rs c → IsSentBy recorded a closed st keep line tells Else s rs c
sent_turned recorded a b closed st keep line tells since turn s [] c gone sent = turn s c sent gone
sent_turned recorded a b closed st keep line tells since turn s (r ∷ rs) c gone (inl (rest, fine, is, more)) =
    let page = fronted line (answer tells s r) in
    let goes : goes_on keep page.status ≡ true = ap (goes_on keep) (fronted_status line (answer tells s r)) ∙ fine in
    let whole : (e : Course) → e.cut ≡ cut_below page.out rest.cut → rest.cut ≡ uncut → e.cut ≡ uncut = λ e same none. same ∙ ap (cut_below page.out) none in
    inl (
      rest,
      fine,
      is,
      sent_turned recorded a b closed st keep line tells since turn (after_one s r) rs rest
          (λ went. gone (ap (λ (e : Course). goes_on keep e.page.status) is ∙ goes_after_both keep page.status rest.page.status goes went.0, whole c (ap (λ (e : Course). e.cut) is) went.1)) more,
    )
sent_turned recorded a b closed st keep line tells since turn s (r ∷ rs) c gone (inr (answered, page, cut, is, ends, it)) =
    inr (answered, page, cut, is, ends, answered_since recorded a b closed st tells s r answered page since it)

stopped_since : (a b : State) (closed : Bool) (st : State) (s : OfficeState) (page : Page) → TellsSince a b st → IsStopped b closed st s page → IsStopped a closed st s page
stopped_since a b closed st s page since (fault, is, (cause, leaves)) = (fault, is, (since fault cause, leaves))

unsent_since : {Then Else : Course → Type 0} (a b : State) (closed : Bool) (st : State) (keep : Bool) (line : Option ℕ) (Tells : Page → Type 0) (s : OfficeState) (c : Course) → TellsSince a b st
    → ((e : Course) → Then e → Else e) → IsUnsent b closed st keep line Tells Then s c → IsUnsent a closed st keep line Tells Else s c
unsent_since a b closed st keep line Tells s c since turn (inl (page, rest, told, goes, is, later)) = inl (page, rest, told, goes, is, turn rest later)
unsent_since a b closed st keep line Tells s c since turn (inr (page, cut, is, ends, inl told)) = inr (page, cut, is, ends, inl told)
unsent_since a b closed st keep line Tells s c since turn (inr (page, cut, is, ends, inr stopped)) = inr (page, cut, is, ends, inr (stopped_since a b closed st s page since stopped))

pub played_since : (recorded : Bool) (a b : State) (closed : Bool) (st : State) (keep : Bool) (folder : Folder) → TellsSince a b st → (s : OfficeState) (turns : List ScriptStep) (c : Course)
    → IsPlayedBy recorded b closed st keep folder s turns c → IsPlayedBy recorded a closed st keep folder s turns c
played_since recorded a b closed st keep folder since s [] c played = played
played_since recorded a b closed st keep folder since s (turn ∷ turns) c (file, found, inl (own, sends, sent)) = (
  file,
  found,
  inl (
    own,
    sends,
    sent_turned {Q = Unit {0}} recorded a b closed st keep turn.line (page_answered turn.errand) since
        (λ x e more gone. played_since recorded a b closed st keep folder since x turns e more) s own c (λ gone. tt) sent,
  ),
)
played_since recorded a b closed st keep folder since s (turn ∷ turns) c (file, found, inr unsent) =
    (file, found, inr (unsent_since a b closed st keep turn.line (IsTold s turn.errand file) s c since (λ e more. played_since recorded a b closed st keep folder since s turns e more) unsent))

begun_since : (recorded : Bool) (a b : State) (closed : Bool) (st : State) (left_out keep : Bool) (folder : Folder) → TellsSince a b st → (s : OfficeState) (turns : List ScriptStep) (c : Course)
    → IsBegunBy recorded b closed st left_out keep folder s turns c → IsBegunBy recorded a closed st left_out keep folder s turns c
begun_since recorded a b closed st false keep folder since s turns c begun = played_since recorded a b closed st keep folder since s turns c begun
begun_since recorded a b closed st true keep folder since s turns c begun =
    unsent_since a b closed st false None _ s c since (λ e more. played_since recorded a b closed st keep folder since s turns e more) begun

pub done_since : (recorded : Bool) (a b : State) (closed : Bool) (st : State) (folder : Folder) → TellsSince a b st → (s : OfficeState) (job : Job) (c : Course)
    → IsDoneBy recorded b closed st folder s job c
    → IsDoneBy recorded a closed st folder s job c
done_since recorded a b closed st folder since s job c (inl (turns, left_out, are, begun)) =
    inl (turns, left_out, are, begun_since recorded a b closed st left_out (keeps_going job) folder since s turns c begun)
done_since recorded a b closed st folder since s job c (inr unsent) = inr (unsent_since a b closed st false None _ s c since (λ e never. never) unsent)

-- ---- what is printed if nothing is sent

-- a page was written up to the given point, and nothing was written after it
pub unsent_told : (old : State) (closed : Bool) (st : State) (keep : Bool) (line : Option ℕ) (Tells : Page → Type 0) (s : OfficeState) (page : Page) (cut : Cut)
    → (Tells page × IsOpenAt s closed st) ⊎ IsStopped old closed st s page → IsUnsent old closed st keep line Tells (IsOver closed st s) s (ended line [] 0 page cut)
unsent_told old closed st keep line Tells s page (cut_behind took) why = inr (page, cut_behind took, refl, (λ goes is. absurd (cc is)), why)
unsent_told old closed st keep line Tells s page cut_error why = inr (page, cut_error, refl, (λ goes is. absurd (cc is)), why)
unsent_told old closed st keep line Tells s page uncut why = by (goes_on keep page.status) refl why
  where
    by : (b : Bool) → goes_on keep page.status ≡ b → (Tells page × IsOpenAt s closed st) ⊎ IsStopped old closed st s page
        → IsUnsent old closed st keep line Tells (IsOver closed st s) s (ended line [] 0 page uncut)
    by false e told = inr (page, uncut, refl, (λ goes. absurd (true≢false (sym goes ∙ e))), told)
    by true e (inl told) = inl (page, nothing_more, told.0, e, above_nothing [] (fronted line page), (refl, told.1))
    by true e (inr stopped) = absurd (true≢false (sym e ∙ not_after_fault keep page.status (ap (λ (p : Page). p.status) stopped.1)))

-- ---- the steps of a script

-- a step was run: its requests were answered, or it sent none and its page was written
abbrev pub IsTurned : Bool → ScriptStep → File → OfficeState → List Request → Page → OfficeState → Type 0
IsTurned keep turn file s requests page mid =
    (Sends s turn.errand file requests × Replied keep turn.line (page_answered turn.errand) s requests page mid)
    ⊎ ((told : Page) × IsTold s turn.errand file told × (goes_on keep told.status ≡ true) × (requests ≡ []) × (page ≡ fronted turn.line told) × (mid ≡ s))

-- All the given steps were run. They sent the given requests, the given page is their outcome, and they led to the given final state.
abbrev pub Taken : Bool → Folder → OfficeState → List ScriptStep → List Request → Page → OfficeState → Type 0
Taken keep folder s [] own said end = (own ≡ []) × (said ≡ empty_page) × (end ≡ s)
Taken keep folder s (turn ∷ turns) own said end =
    (file : File) × (requests others : List Request) × (page rest : Page) × (mid : OfficeState) × IsFileAt folder (file_of turn.errand) file × IsTurned keep turn file s requests page mid
    × (own ≡ requests ++ others) × (said ≡ below page rest) × Taken keep folder mid turns others rest end

-- another step was run
taken_more : (keep : Bool) (folder : Folder) (s : OfficeState) (turns : List ScriptStep) (own : List Request) (said : Page) (end : OfficeState)
    (turn : ScriptStep) (file : File) (requests : List Request) (page : Page) (next : OfficeState)
    → Taken keep folder s turns own said end → IsFileAt folder (file_of turn.errand) file → IsTurned keep turn file end requests page next
    → Taken keep folder s (turns ++ turn ∷ []) (own ++ requests) (below said page) next
taken_more keep folder s [] own said end turn file requests page next (no_own, no_said, same) found turned = (
  file,
  requests,
  [],
  page,
  empty_page,
  next,
  found,
  subst (λ x. IsTurned keep turn file x requests page next) same turned,
  ap (λ xs. xs ++ requests) no_own ∙ sym (append-nil requests),
  ap (λ p. below p page) no_said ∙ (below_first page ∙ sym (below_last page)),
  (refl, refl, refl),
)
taken_more keep folder s (t ∷ ts) own said end turn file requests page next (f, asked, others, told, rest, mid, at, before, own_is, said_is, more) found turned = (
  f,
  asked,
  others ++ requests,
  told,
  below rest page,
  mid,
  at,
  before,
  ap (λ xs. xs ++ requests) own_is ∙ append_assoc asked others requests,
  ap (λ p. below p page) said_is ∙ below_joined told rest page,
  taken_more keep folder mid ts others rest end turn file requests page next more found turned,
)

same_above : (requests left own : List Request) (page rest said : Page) (c : Course) → own ≡ requests ++ left → said ≡ below page rest
    → told_above requests page (told_above left rest c) ≡ told_above own said c
same_above requests left own page rest said c own_is said_is =
    above_joined requests left page rest c ∙ (ap (λ xs. told_above xs (below page rest) c) (sym own_is) ∙ ap (λ p. told_above own p c) (sym said_is))

-- the outcome of the remaining steps follows
taken_then : (recorded : Bool) (old : State) (closed : Bool) (st : State) (keep : Bool) (folder : Folder) (s : OfficeState) (front : List ScriptStep) (own : List Request)
    (said : Page) (end : OfficeState) (others : List ScriptStep) (c : Course)
    → Taken keep folder s front own said end → IsPlayedBy recorded old closed st keep folder end others c → IsPlayedBy recorded old closed st keep folder s (front ++ others) (told_above own said c)
taken_then recorded old closed st keep folder s [] own said end others c (no_own, no_said, same) played =
    subst (λ x. IsPlayedBy recorded old closed st keep folder x others (told_above own said c)) same
    (subst (λ xs. IsPlayedBy recorded old closed st keep folder end others (told_above xs said c)) (sym no_own)
    (subst (λ p. IsPlayedBy recorded old closed st keep folder end others (told_above [] p c)) (sym no_said) (subst (IsPlayedBy recorded old closed st keep folder end others) (above_none c) played)))
taken_then recorded old closed st keep folder s (turn ∷ ts) own said end others c (file, requests, left, page, rest, mid, found, inl (sends, replied), own_is, said_is, more) played =
    let later = taken_then recorded old closed st keep folder mid ts left rest end others c more played in
    let sent = replied_then keep turn.line (page_answered turn.errand) recorded (λ next e. IsPlayedBy recorded old closed st keep folder next (ts ++ others) e) old closed st s requests page mid []
    (told_above left rest c) replied later in
    let whole = subst (λ xs. IsSentBy recorded old closed st keep turn.line (page_answered turn.errand) (λ next e. IsPlayedBy recorded old closed st keep folder next (ts ++ others) e) s xs
    (told_above requests page (told_above left rest c))) (append-nil requests) sent in
    subst (IsPlayedBy recorded old closed st keep folder s (turn ∷ (ts ++ others))) (same_above requests left own page rest said c own_is said_is) (file, found, inl (requests, sends, whole))
taken_then recorded old closed st keep folder s (turn ∷ ts) own said end others c
    (file, requests, left, page, rest, mid, found, inr (told, is, goes, none, page_is, stays), own_is, said_is, more) played =
    let later = taken_then recorded old closed st keep folder mid ts left rest end others c more played in
    let here = subst (λ x. IsPlayedBy recorded old closed st keep folder x (ts ++ others) (told_above left rest c)) stays later in
    let without = ap (λ xs. told_above xs page (told_above left rest c)) none ∙ ap (λ p. told_above [] p (told_above left rest c)) page_is in
    (file, found, inr (inl (told, told_above left rest c, is, goes, sym (same_above requests left own page rest said c own_is said_is) ∙ without, here)))

-- the steps led to this state
pub taken_after : (keep : Bool) (folder : Folder) (s : OfficeState) (turns : List ScriptStep) (own : List Request) (said : Page) (end : OfficeState) → Taken keep folder s turns own said end
    → end ≡ after s own
taken_after keep folder s [] own said end (no_own, no_said, same) = same ∙ ap (after s) (sym no_own)
taken_after keep folder s (turn ∷ turns) own said end (file, requests, others, page, rest, mid, found, turned, own_is, said_is, more) =
    taken_after keep folder mid turns others rest end more ∙ (ap (λ x. after x others) (by turned) ∙ (sym (fold-append after_one s requests others) ∙ ap (after s) (sym own_is)))
  where
    by : IsTurned keep turn file s requests page mid → mid ≡ after s requests
    by (inl (sends, replied)) = replied_after keep turn.line (page_answered turn.errand) s requests page mid replied
    by (inr (told, is, goes, none, page_is, stays)) = stays ∙ ap (after s) (sym none)

-- The first i steps have been run, with the given page as their outcome. The office is open in the state that they led to.
pub record TakenSo (keep : Bool) (folder : Folder) (s : OfficeState) (turns : List ScriptStep) (i : ℕ) (said : Page) (closed : Bool) (st : State) : Type 0 where
  pub end : OfficeState
  pub open_at : IsOpenAt end closed st
  pub own : List Request
  pub taken : Taken keep folder s (take i turns) own said end

abbrev pub none_taken : (keep : Bool) (folder : Folder) (s : OfficeState) (turns : List ScriptStep) (closed : Bool) (st : State) → IsOpenAt s closed st
    → TakenSo keep folder s turns 0 empty_page closed st
none_taken keep folder s turns closed st here = record { end = s; open_at = here; own = []; taken = (refl, refl, refl) }

module _ (recorded : Bool) (old : State) (keep : Bool) (folder : Folder) (s : OfficeState) (turns : List ScriptStep) where
  -- the outcome of all steps
  abbrev pub AllPlayed : Bool → State → Course → Type 0
  AllPlayed closed st c = IsPlayedBy recorded old closed st keep folder s turns c

  -- the next step was run: all its requests were answered, and led to this state
  abbrev pub TurnedTo : ℕ → Page → (x : OfficeState) → Course → Bool → State → Type 0
  TurnedTo i said x c closed st = (next : TakenSo keep folder s turns i said closed st) × (next.end ≡ after x c.requests) × (c.answered ≡ length c.requests)

  pub turn_more : (mid : State) (i : ℕ) (turn : ScriptStep) (said : Page) (was : Bool) (before : State) (c : Course) (closed : Bool) (st : State) → i < length turns → turn ≡ get_or turns i turn
      → (so : TakenSo keep folder s turns i said was before) → IsPlayedBy recorded mid closed st keep folder so.end (turn ∷ []) c → WentOn keep c
      → TurnedTo (i + 1) (below said c.page) so.end c closed st
  turn_more mid i turn said was before c closed st within is so (file, found, inl (own, sends, sent)) gone =
      let it = replied_all keep turn.line (page_answered turn.errand) recorded mid closed st so.end own c gone sent in (
        record {
          end = it.0;
          open_at = it.1;
          own = so.own ++ own;
          taken = subst (λ ts. Taken keep folder s ts (so.own ++ own) (below said c.page) it.0) (sym (took turns i turn within is))
              (taken_more keep folder s (take i turns) so.own said so.end turn file own c.page it.0 so.taken found (inl (sends, it.2)));
        },
        replied_after keep turn.line (page_answered turn.errand) so.end own c.page it.0 it.2 ∙ ap (after so.end) (sym it.3),
        it.4 ∙ ap length (sym it.3),
      )
  turn_more mid i turn said was before c closed st within is so (file, found, inr (inl (page, rest, told, goes, course_is, over))) gone =
      let page_is = ap (λ (e : Course). e.page) course_is ∙ (ap (λ (e : Course). below (fronted turn.line page) e.page) over.0 ∙ below_last (fronted turn.line page)) in
      let none : c.requests ≡ [] = ap (λ (e : Course). e.requests) course_is ∙ ap (λ (e : Course). e.requests) over.0 in
      let unsent : c.answered ≡ 0 = ap (λ (e : Course). e.answered) course_is ∙ ap (λ (e : Course). e.answered + 0) over.0 in (
        record {
          end = so.end;
          open_at = over.1;
          own = so.own ++ [];
          taken = subst (λ ts. Taken keep folder s ts (so.own ++ []) (below said c.page) so.end) (sym (took turns i turn within is))
              (taken_more keep folder s (take i turns) so.own said so.end turn file [] c.page so.end so.taken found (inr (page, told, goes, refl, page_is, refl)));
        },
        ap (after so.end) (sym none),
        unsent ∙ ap length (sym none),
      )
  turn_more mid i turn said was before c closed st within is so (file, found, inr (inr (page, cut, course_is, ends, why))) gone =
      absurd (not_gone keep turn.line (page_answered turn.errand) [] 0 page cut c course_is ends gone)

  -- a step ended the sequence, so the steps after it weren't run
  turn_then : (mid : State) (closed : Bool) (st : State) (x : OfficeState) (turn : ScriptStep) (others : List ScriptStep) (c : Course) → TellsSince old mid st → (WentOn keep c → ⊥)
      → IsPlayedBy recorded mid closed st keep folder x (turn ∷ []) c
      → IsPlayedBy recorded old closed st keep folder x (turn ∷ others) c
  turn_then mid closed st x turn others c since bad (file, found, inl (own, sends, sent)) = (
    file,
    found,
    inl (
      own,
      sends,
      sent_turned {Q = ⊥} recorded old mid closed st keep turn.line (page_answered turn.errand) since (λ y e over worse.
          absurd (worse (ap (λ (k : Course). goes_on keep k.page.status) over.0, ap (λ (k : Course). k.cut) over.0))) x own c bad sent,
    ),
  )
  turn_then mid closed st x turn others c since bad (file, found, inr (inl (page, rest, told, goes, course_is, over))) =
      let page_is = ap (λ (e : Course). e.page) course_is ∙ (ap (λ (e : Course). below (fronted turn.line page) e.page) over.0 ∙ below_last (fronted turn.line page)) in
      let went = ap (λ (p : Page). goes_on keep p.status) page_is ∙ (ap (goes_on keep) (fronted_status turn.line page) ∙ goes) in
      let whole = ap (λ (e : Course). e.cut) course_is ∙ ap (λ (e : Course). cut_below (fronted turn.line page).out e.cut) over.0 in
      absurd (bad (went, whole))
  turn_then mid closed st x turn others c since bad (file, found, inr (inr (page, cut, is, ends, inl told))) = (file, found, inr (inr (page, cut, is, ends, inl told)))
  turn_then mid closed st x turn others c since bad (file, found, inr (inr (page, cut, is, ends, inr stopped))) =
      (file, found, inr (inr (page, cut, is, ends, inr (stopped_since old mid closed st x page since stopped))))

  pub turn_last : (mid : State) (i : ℕ) (turn : ScriptStep) (said : Page) (was : Bool) (before : State) (c : Course) (closed : Bool) (st : State) → i < length turns → turn ≡ get_or turns i turn
      → TellsSince old mid st
      → (so : TakenSo keep folder s turns i said was before) → IsPlayedBy recorded mid closed st keep folder so.end (turn ∷ []) c → (WentOn keep c → ⊥) → AllPlayed closed st (told_above so.own said c)
  turn_last mid i turn said was before c closed st within is since so played bad =
      subst (λ ts. IsPlayedBy recorded old closed st keep folder s ts (told_above so.own said c)) (rejoined turns i turn within is)
      (taken_then recorded old closed st keep folder s (take i turns) so.own said so.end (turn ∷ drop (i + 1) turns) c so.taken
      (turn_then mid closed st so.end turn (drop (i + 1) turns) c since bad played))

  -- all steps were run
  pub turns_all : (i : ℕ) (said : Page) (closed : Bool) (st : State) → length turns ≤ i → (so : TakenSo keep folder s turns i said closed st)
      → AllPlayed closed st (told_above so.own said nothing_more)
  turns_all i said closed st all so =
      subst (λ ts. IsPlayedBy recorded old closed st keep folder s ts (told_above so.own said nothing_more)) (all_taken turns i all)
      (taken_then recorded old closed st keep folder s (take i turns) so.own said so.end [] nothing_more so.taken (refl, so.open_at))
