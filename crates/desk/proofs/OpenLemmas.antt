-- The state in which an order leaves an office open, which is the one after the answered requests.
use Rattle.std.proofs.Common.{◌≡◌, ◌≤◌, ◌+◌, ◌∙◌, inl, inr, ℕ, Bool, false, true, List, [], ◌∷◌, ◌++◌, Option, None, add-one, ap, arith, drop, length, sym, subst, take, true≢false}
use Rattle.std.proofs.Math.Seq.{take-add}
use Rattle.std.proofs.lemmas.List.{length-append, length-drop, length-take, length-take-le, take-take}
use Rattle.sqlite.specs.State.{State}
use Rattle.register.specs.Offices.{OfficeState}
use Rattle.register.specs.Machine.{after, after_one}
use Rattle.register.specs.declared.command.Request.{Request}
use Rattle.office.specs.Answers.{IsOpenAt, Told}
use Rattle.desk.specs.Folders.{Folder}
use Rattle.desk.specs.Headline.{Course, IsAnswered, IsBegun, IsDone, IsPlayed, IsSent, IsStopped, IsUnsent, answer, ended, told_above}
use Rattle.desk.specs.Pages.{Cut, Page, fronted}
use Rattle.desk.specs.Scripts.{keeps_going}
use Rattle.desk.specs.Told.{IsTold, page_answered}
use Rattle.desk.specs.declared.orders.Job.{Job}
use Rattle.desk.specs.declared.scripts.ScriptStep.{ScriptStep}
use Rattle.desk.proofs.KeptLemmas.{IsAfterSome}

module _ (old : State) (closed : Bool) (st : State) where
  -- if the office is still open, it is in the state after the answered requests
  abbrev pub IsOpenAfter : OfficeState → Course → Type 0
  IsOpenAfter s c = closed ≡ false → IsOpenAt (after s (take c.answered c.requests)) closed st

  open_more : (s : OfficeState) (r : Request) (page : Page) (rest : Course) → IsOpenAfter (after_one s r) rest → IsOpenAfter s (told_above (r ∷ []) page rest)
  open_more s r page rest so was = subst (λ n. IsOpenAt (after s (take n (r ∷ rest.requests))) closed st) (sym (add-one rest.answered)) (so was)

  open_above : (s : OfficeState) (page : Page) (rest : Course) → IsOpenAfter s rest → IsOpenAfter s (told_above [] page rest)
  open_above s page rest so was =
      let same : rest.answered ≡ rest.answered + 0 = omega arith in
      subst (λ n. IsOpenAt (after s (take n rest.requests)) closed st) same (so was)

  open_last : (line : Option ℕ) (tells : OfficeState → Request → Told → Page) (s : OfficeState) (r : Request) (rs : List Request) (answered : ℕ) (page : Page) (cut : Cut)
      → IsAnswered old closed st tells s r answered page
      → IsOpenAfter s (ended line (r ∷ rs) answered page cut)
  open_last line tells s r rs answered page cut (inl told) was = subst (λ n. IsOpenAt (after s (take n (r ∷ rs))) closed st) (sym told.0) told.2
  open_last line tells s r rs answered page cut (inr (none, (fault, is, (cause, inl stays)))) was = subst (λ n. IsOpenAt (after s (take n (r ∷ rs))) closed st) (sym none) stays.open_at
  open_last line tells s r rs answered page cut (inr (none, (fault, is, (cause, inr shut)))) was = absurd (true≢false (sym shut.is_closed ∙ was))

  open_sent : {Then : OfficeState → Course → Type 0} (keep : Bool) (line : Option ℕ) (tells : OfficeState → Request → Told → Page) → ((x : OfficeState) (e : Course) → Then x e → IsOpenAfter x e)
      → (s : OfficeState) (rs : List Request) (c : Course) → IsSent old closed st keep line tells Then s rs c → IsOpenAfter s c
  open_sent keep line tells so s [] c sent = so s c sent
  open_sent keep line tells so s (r ∷ rs) c (inl (rest, goes, is, more)) =
      subst (IsOpenAfter s) (sym is) (open_more s r (fronted line (answer tells s r)) rest (open_sent keep line tells so (after_one s r) rs rest more))
  open_sent keep line tells so s (r ∷ rs) c (inr (answered, page, cut, is, ends, it)) = subst (IsOpenAfter s) (sym is) (open_last line tells s r rs answered page cut it)

  open_stopped : (s : OfficeState) (page : Page) → IsStopped old closed st s page → closed ≡ false → IsOpenAt s closed st
  open_stopped s page (fault, is, (cause, inl stays)) was = stays.open_at
  open_stopped s page (fault, is, (cause, inr shut)) was = absurd (true≢false (sym shut.is_closed ∙ was))

  open_unsent : {Then : Course → Type 0} (keep : Bool) (line : Option ℕ) (Tells : Page → Type 0) → (s : OfficeState) (c : Course) → ((e : Course) → Then e → IsOpenAfter s e)
      → IsUnsent old closed st keep line Tells Then s c → IsOpenAfter s c
  open_unsent keep line Tells s c so (inl (page, rest, told, goes, is, later)) = subst (IsOpenAfter s) (sym is) (open_above s (fronted line page) rest (so rest later))
  open_unsent keep line Tells s c so (inr (page, cut, is, ends, inl told)) = subst (IsOpenAfter s) (sym is) (λ was. told.1)
  open_unsent keep line Tells s c so (inr (page, cut, is, ends, inr stopped)) = subst (IsOpenAfter s) (sym is) (open_stopped s page stopped)

  open_played : (keep : Bool) (folder : Folder) (s : OfficeState) (turns : List ScriptStep) (c : Course) → IsPlayed old closed st keep folder s turns c → IsOpenAfter s c
  open_played keep folder s [] c played = subst (IsOpenAfter s) (sym played.0) (λ was. played.1)
  open_played keep folder s (turn ∷ turns) c (file, found, inl (own, sends, sent)) =
      open_sent keep turn.line (page_answered turn.errand) (λ x e more. open_played keep folder x turns e more) s own c sent
  open_played keep folder s (turn ∷ turns) c (file, found, inr unsent) =
      open_unsent keep turn.line (IsTold s turn.errand file) s c (λ e more. open_played keep folder s turns e more) unsent

  open_begun : (left_out keep : Bool) (folder : Folder) (s : OfficeState) (turns : List ScriptStep) (c : Course) → IsBegun old closed st left_out keep folder s turns c → IsOpenAfter s c
  open_begun false keep folder s turns c begun = open_played keep folder s turns c begun
  open_begun true keep folder s turns c begun = open_unsent false None _ s c (λ e more. open_played keep folder s turns e more) begun

  pub open_done : (folder : Folder) (s : OfficeState) (job : Job) (c : Course) → IsDone old closed st folder s job c → IsOpenAfter s c
  open_done folder s job c (inl (turns, left_out, are, begun)) = open_begun left_out (keeps_going job) folder s turns c begun
  open_done folder s job c (inr unsent) = open_unsent false None _ s c (λ e never. absurd never) unsent

-- a prefix that is at most one element longer than the first n is also a prefix of the first n elements and the next one
take_next : {X : Type 0} (xs : List X) (n k : ℕ) → k ≤ n + 1 → take k xs ≡ take k (take n xs ++ take 1 (drop n xs))
take_next xs n k low = sym (take-take k (n + 1) xs low) ∙ ap (take k) (take-add n 1 xs)

-- a state after a prefix of the requests, namely the answered ones and at most one more, is also a state after a prefix of just those requests
pub after_next : (s : OfficeState) (c : Course) (x : OfficeState) → c.answered ≤ length c.requests → IsAfterSome s c.requests c.answered x
    → IsAfterSome s (take c.answered c.requests ++ take 1 (drop c.answered c.requests)) (length (take c.answered c.requests)) x
after_next s c x within (k, least, most, inside, is) =
    let front = length-take-le c.answered c.requests within in
    let whole = length-append (take c.answered c.requests) (take 1 (drop c.answered c.requests)) in
    let next = length-take 1 (drop c.answered c.requests) in
    let left = length-drop c.answered c.requests in (
      k,
      omega (arith, front, least),
      omega (arith, front, most),
      omega (arith, front, whole, next, left, most, inside),
      is ∙ ap (after s) (take_next c.requests c.answered k most),
    )
