-- The state in which a job leaves an office that has a second record, and the outcome of the job if the record failed.
use Rattle.std.proofs.Common.{◌≡◌, ◌+◌, ◌∙◌, ◌⊎◌, inl, inr, ℕ, Bool, false, true, List, [], ◌∷◌, Option, None, add-one, arith, subst, sym, take, true≢false}
use Rattle.sqlite.specs.State.{State}
use Rattle.register.specs.Offices.{OfficeState}
use Rattle.register.specs.Machine.{after, after_one}
use Rattle.register.specs.declared.command.Request.{Request}
use Rattle.office.specs.Answers.{IsOpenAt, Told}
use Rattle.desk.specs.Folders.{Folder}
use Rattle.desk.specs.Headline.{Course, IsAnswered, IsAnsweredBy, IsBegunBy, IsDoneBy, IsPlayedBy, IsSentBy, IsStopped, IsUnrecorded, IsUnsent, answer, ended, told_above}
use Rattle.desk.specs.Pages.{Cut, Page, cut_note, fronted}
use Rattle.desk.specs.Scripts.{keeps_going}
use Rattle.desk.specs.Told.{IsTold, page_answered}
use Rattle.desk.specs.declared.orders.Job.{Job}
use Rattle.desk.specs.declared.scripts.ScriptStep.{ScriptStep}
use Rattle.desk.proofs.CourseLemmas.{plain_answer, split_answer, unrecorded_answer}

-- ---- an office that is still open

module _ (recorded : Bool) (old : State) (closed : Bool) (st : State) where
  -- it is in the state after the answered requests, or if one of them wasn't recorded, in the state after one more
  abbrev pub IsOpenBy : OfficeState → Course → Type 0
  IsOpenBy s c =
      closed ≡ false
      → IsOpenAt (after s (take c.answered c.requests)) closed st ⊎ ((recorded ≡ true) × IsOpenAt (after s (take (c.answered + 1) c.requests)) closed st)

  open_more : (s : OfficeState) (r : Request) (page : Page) (rest : Course) → IsOpenBy (after_one s r) rest → IsOpenBy s (told_above (r ∷ []) page rest)
  open_more s r page rest so was = by (so was)
    where
      by : IsOpenAt (after (after_one s r) (take rest.answered rest.requests)) closed st
          ⊎ ((recorded ≡ true) × IsOpenAt (after (after_one s r) (take (rest.answered + 1) rest.requests)) closed st)
          → IsOpenAt (after s (take (rest.answered + 1) (r ∷ rest.requests))) closed st
          ⊎ ((recorded ≡ true) × IsOpenAt (after s (take (rest.answered + 1 + 1) (r ∷ rest.requests))) closed st)
      by (inl here) = inl (subst (λ n. IsOpenAt (after s (take n (r ∷ rest.requests))) closed st) (sym (add-one rest.answered)) here)
      by (inr (is, here)) = inr (is, subst (λ n. IsOpenAt (after s (take n (r ∷ rest.requests))) closed st) (sym (add-one (rest.answered + 1))) here)

  open_above : (s : OfficeState) (page : Page) (rest : Course) → IsOpenBy s rest → IsOpenBy s (told_above [] page rest)
  open_above s page rest so was =
      let same : rest.answered ≡ rest.answered + 0 = omega arith in
      subst (λ n. IsOpenAt (after s (take n rest.requests)) closed st ⊎ ((recorded ≡ true) × IsOpenAt (after s (take (n + 1) rest.requests)) closed st)) same (so was)

  open_last : (line : Option ℕ) (tells : OfficeState → Request → Told → Page) (s : OfficeState) (r : Request) (rs : List Request) (answered : ℕ) (page : Page) (cut : Cut)
      → IsAnsweredBy old closed st recorded tells s r answered page → IsOpenBy s (ended line (r ∷ rs) answered page cut)
  open_last line tells s r rs answered page cut met was = by (split_answer recorded old closed st tells s r answered page met)
    where
      by : IsAnswered old closed st tells s r answered page ⊎ ((recorded ≡ true) × IsUnrecorded old closed st s r answered page)
          → IsOpenAt (after s (take answered (r ∷ rs))) closed st ⊎ ((recorded ≡ true) × IsOpenAt (after s (take (answered + 1) (r ∷ rs))) closed st)
      by (inl (inl told)) = inl (subst (λ n. IsOpenAt (after s (take n (r ∷ rs))) closed st) (sym told.0) told.2)
      by (inl (inr (none, (fault, is, (cause, inl stays))))) = inl (subst (λ n. IsOpenAt (after s (take n (r ∷ rs))) closed st) (sym none) stays.open_at)
      by (inl (inr (none, (fault, is, (cause, inr shut))))) = absurd (true≢false (sym shut.is_closed ∙ was))
      by (inr (is, (none, told, inl (accepted, here)))) = inr (is, subst (λ n. IsOpenAt (after s (take (n + 1) (r ∷ rs))) closed st) (sym none) here)
      by (inr (is, (none, told, inr here))) = inl (subst (λ n. IsOpenAt (after s (take n (r ∷ rs))) closed st) (sym none) here)

  open_sent : {Then : OfficeState → Course → Type 0} (keep : Bool) (line : Option ℕ) (tells : OfficeState → Request → Told → Page) → ((x : OfficeState) (e : Course) → Then x e → IsOpenBy x e)
      → (s : OfficeState) (rs : List Request) (c : Course) → IsSentBy recorded old closed st keep line tells Then s rs c → IsOpenBy s c
  open_sent keep line tells so s [] c sent = so s c sent
  open_sent keep line tells so s (r ∷ rs) c (inl (rest, goes, is, more)) =
      subst (IsOpenBy s) (sym is) (open_more s r (fronted line (answer tells s r)) rest (open_sent keep line tells so (after_one s r) rs rest more))
  open_sent keep line tells so s (r ∷ rs) c (inr (answered, page, cut, is, ends, it)) = subst (IsOpenBy s) (sym is) (open_last line tells s r rs answered page cut it)

  open_stopped : (s : OfficeState) (page : Page) → IsStopped old closed st s page → closed ≡ false → IsOpenAt s closed st
  open_stopped s page (fault, is, (cause, inl stays)) was = stays.open_at
  open_stopped s page (fault, is, (cause, inr shut)) was = absurd (true≢false (sym shut.is_closed ∙ was))

  open_unsent : {Then : Course → Type 0} (keep : Bool) (line : Option ℕ) (Tells : Page → Type 0) → (s : OfficeState) (c : Course) → ((e : Course) → Then e → IsOpenBy s e)
      → IsUnsent old closed st keep line Tells Then s c → IsOpenBy s c
  open_unsent keep line Tells s c so (inl (page, rest, told, goes, is, later)) = subst (IsOpenBy s) (sym is) (open_above s (fronted line page) rest (so rest later))
  open_unsent keep line Tells s c so (inr (page, cut, is, ends, inl told)) = subst (IsOpenBy s) (sym is) (λ was. inl told.1)
  open_unsent keep line Tells s c so (inr (page, cut, is, ends, inr stopped)) = subst (IsOpenBy s) (sym is) (λ was. inl (open_stopped s page stopped was))

  open_played : (keep : Bool) (folder : Folder) (s : OfficeState) (turns : List ScriptStep) (c : Course) → IsPlayedBy recorded old closed st keep folder s turns c → IsOpenBy s c
  open_played keep folder s [] c played = subst (IsOpenBy s) (sym played.0) (λ was. inl played.1)
  open_played keep folder s (turn ∷ turns) c (file, found, inl (own, sends, sent)) =
      open_sent keep turn.line (page_answered turn.errand) (λ x e more. open_played keep folder x turns e more) s own c sent
  open_played keep folder s (turn ∷ turns) c (file, found, inr unsent) =
      open_unsent keep turn.line (IsTold s turn.errand file) s c (λ e more. open_played keep folder s turns e more) unsent

  open_begun : (left_out keep : Bool) (folder : Folder) (s : OfficeState) (turns : List ScriptStep) (c : Course) → IsBegunBy recorded old closed st left_out keep folder s turns c → IsOpenBy s c
  open_begun false keep folder s turns c begun = open_played keep folder s turns c begun
  open_begun true keep folder s turns c begun = open_unsent false None (λ page. page ≡ cut_note) s c (λ e more. open_played keep folder s turns e more) begun

  pub open_done_by : (folder : Folder) (s : OfficeState) (job : Job) (c : Course) → IsDoneBy recorded old closed st folder s job c → IsOpenBy s c
  open_done_by folder s job c (inl (turns, left_out, are, begun)) = open_begun left_out (keeps_going job) folder s turns c begun
  open_done_by folder s job c (inr unsent) = open_unsent false None _ s c (λ e never. absurd never) unsent

-- ---- a job that was done with a record that failed only if there is one

module _ (failed recorded : Bool) (fails : failed ≡ true → recorded ≡ true) (old : State) (closed : Bool) (st : State) where
  answered_recorded : (tells : OfficeState → Request → Told → Page) (s : OfficeState) (r : Request) (answered : ℕ) (page : Page) → IsAnsweredBy old closed st failed tells s r answered page
      → IsAnsweredBy old closed st recorded tells s r answered page
  answered_recorded tells s r answered page met = by (split_answer failed old closed st tells s r answered page met)
    where
      by : IsAnswered old closed st tells s r answered page ⊎ ((failed ≡ true) × IsUnrecorded old closed st s r answered page) → IsAnsweredBy old closed st recorded tells s r answered page
      by (inl it) = plain_answer recorded old closed st tells s r answered page it
      by (inr (is, it)) = unrecorded_answer recorded old closed st tells s r answered page (fails is) it

  sent_recorded : {Then Then_too : OfficeState → Course → Type 0} (keep : Bool) (line : Option ℕ) (tells : OfficeState → Request → Told → Page)
      → ((x : OfficeState) (e : Course) → Then x e → Then_too x e)
      → (s : OfficeState) (rs : List Request) (c : Course) → IsSentBy failed old closed st keep line tells Then s rs c → IsSentBy recorded old closed st keep line tells Then_too s rs c
  sent_recorded keep line tells so s [] c sent = so s c sent
  sent_recorded keep line tells so s (r ∷ rs) c (inl (rest, goes, is, more)) = inl (rest, goes, is, sent_recorded keep line tells so (after_one s r) rs rest more)
  sent_recorded keep line tells so s (r ∷ rs) c (inr (answered, page, cut, is, ends, it)) = inr (answered, page, cut, is, ends, answered_recorded tells s r answered page it)

  unsent_recorded : {Then Then_too : Course → Type 0} (keep : Bool) (line : Option ℕ) (Tells : Page → Type 0) (s : OfficeState) (c : Course) → ((e : Course) → Then e → Then_too e)
      → IsUnsent old closed st keep line Tells Then s c → IsUnsent old closed st keep line Tells Then_too s c
  unsent_recorded keep line Tells s c so (inl (page, rest, told, goes, is, later)) = inl (page, rest, told, goes, is, so rest later)
  unsent_recorded keep line Tells s c so (inr it) = inr it

  played_recorded : (keep : Bool) (folder : Folder) (s : OfficeState) (turns : List ScriptStep) (c : Course) → IsPlayedBy failed old closed st keep folder s turns c
      → IsPlayedBy recorded old closed st keep folder s turns c
  played_recorded keep folder s [] c played = played
  played_recorded keep folder s (turn ∷ turns) c (file, found, inl (own, sends, sent)) = (
    file,
    found,
    inl (own, sends, sent_recorded keep turn.line (page_answered turn.errand) (λ x e more. played_recorded keep folder x turns e more) s own c sent),
  )
  played_recorded keep folder s (turn ∷ turns) c (file, found, inr unsent) =
      (file, found, inr (unsent_recorded keep turn.line (IsTold s turn.errand file) s c (λ e more. played_recorded keep folder s turns e more) unsent))

  begun_recorded : (left_out keep : Bool) (folder : Folder) (s : OfficeState) (turns : List ScriptStep) (c : Course) → IsBegunBy failed old closed st left_out keep folder s turns c
      → IsBegunBy recorded old closed st left_out keep folder s turns c
  begun_recorded false keep folder s turns c begun = played_recorded keep folder s turns c begun
  begun_recorded true keep folder s turns c begun = unsent_recorded false None (λ page. page ≡ cut_note) s c (λ e more. played_recorded keep folder s turns e more) begun

  pub done_recorded : (folder : Folder) (s : OfficeState) (job : Job) (c : Course) → IsDoneBy failed old closed st folder s job c → IsDoneBy recorded old closed st folder s job c
  done_recorded folder s job c (inl (turns, left_out, are, begun)) = inl (turns, left_out, are, begun_recorded left_out (keeps_going job) folder s turns c begun)
  done_recorded folder s job c (inr unsent) = inr unsent
