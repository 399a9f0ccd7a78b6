-- The second record while requests are sent one after another.
use Rattle.std.proofs.Common.{◌≡◌, ◌⊎◌, ◌∙◌, ◌≤◌, ◌+◌, inl, inr, ℕ, zero, suc, Bool, true, false, true≢false, List, [], ◌∷◌, ◌++◌, length, take, refl, sym, ap, arith}
use Rattle.std.proofs.Math.Seq.{take-append-add}
use Rattle.std.proofs.lemmas.List.{length-append, take-append-le, take_all}
use Rattle.std.proofs.lemmas.List.Sums.{fold-append}
use Rattle.clap.specs.Words.{Text}
use Rattle.sqlite.specs.State.{State}
use Rattle.register.specs.Machine.{Outcome, accepted, kept, refused, after, after_one, is_accepted, state_after, step_of}
use Rattle.register.specs.Offices.{OfficeState}
use Rattle.register.specs.declared.command.Request.{Request}
use Rattle.register.specs.declared.refusal.Reason.{Reason}
use Rattle.tables.proofs.ReadLemmas.{only_reads_itself, only_reads_then}
use Rattle.tables.specs.Reading.{OnlyReads}
use Rattle.office.specs.Answers.{done, again, no, told_of}
use Rattle.desk.specs.Records.{IsAfterAnswered, IsRecordOf, IsRecorded, Records, StaysOnceFailed}

-- ---- what the machine answers

-- a request that was answered as accepted was accepted
pub done_accepted : (o : Outcome) (reply : List ℕ) → done reply ≡ told_of o → is_accepted o ≡ true
done_accepted (accepted next words) reply told = refl
done_accepted (kept words) reply told = absurd (cc told)
done_accepted (refused why) reply told = absurd (cc told)

-- a refused request doesn't change the state
pub refused_stays : (s : OfficeState) (o : Outcome) (why : Reason) → no why ≡ told_of o → state_after s o ≡ s
refused_stays s (accepted next words) why told = absurd (cc told)
refused_stays s (kept words) why told = refl
refused_stays s (refused other) why told = refl

-- nor does one that was accepted earlier
pub again_stays : (s : OfficeState) (o : Outcome) (reply : List ℕ) → again reply ≡ told_of o → state_after s o ≡ s
again_stays s (accepted next words) reply told = absurd (cc told)
again_stays s (kept words) reply told = refl
again_stays s (refused why) reply told = refl

-- ---- one request

-- a stop leaves a record of an equal state
record_moved : (found : Text → Type 0) (x y : OfficeState) → x ≡ y → IsRecordOf found x → IsRecordOf found y
record_moved found x y same was = record {
  known = was.known;
  whole = was.whole;
  leads = λ text left. let it = was.leads text left in (it.0, it.1 ∙ same, it.2);
}

-- none of the requests was answered, and the record is as it was
pub none_recorded : (s : OfficeState) (requests : List Request) (found : Text → Type 0) (failed : Bool) → failed ≡ false → IsRecorded s requests 0 found found failed
none_recorded s requests found failed fine = record {
  leaves = λ was text left. let it = was.leads text left in (it.0, record { count = 0; all_answered = omega arith; one_more = omega arith; within = omega arith; is = it.1 }, it.2);
  whole = λ same was. was;
  unfailed = λ all. fine;
}

-- a request that changes nothing was answered or met a fault, and the record is as it was
pub still_recorded : (s : OfficeState) (r : Request) (answered : ℕ) (found : Text → Type 0) (failed : Bool) → answered ≤ 1 → failed ≡ false → after_one s r ≡ s
    → IsRecorded s (r ∷ []) answered found found failed
still_recorded s r answered found failed few fine stays = record {
  leaves = λ was text left.
      let it = was.leads text left in
      (it.0, record { count = answered; all_answered = omega arith; one_more = omega arith; within = omega (arith, few); is = it.1 ∙ sym (after_still answered) }, it.2);
  whole = λ same was. record_moved found s (after s (take answered (r ∷ []))) (sym (after_still answered)) was;
  unfailed = λ all. fine;
}
  where
    after_still : (count : ℕ) → after s (take count (r ∷ [])) ≡ s
    after_still zero = refl
    after_still (suc zero) = stays
    after_still (suc (suc n)) = stays

-- a request was accepted, recorded and answered
pub one_recorded : (s : OfficeState) (r : Request) (old new : Text → Type 0) (failed : Bool) → failed ≡ false → is_accepted (step_of s r) ≡ true → Records r old new failed
    → IsRecorded s (r ∷ []) 1 old new failed
one_recorded s r old new failed fine took rec = record {
  leaves = λ was text left.
      let it = (rec.whole fine s took was).leads text left in (it.0, record { count = 1; all_answered = omega arith; one_more = omega arith; within = omega arith; is = it.1 }, it.2);
  whole = λ same was. rec.whole fine s took was;
  unfailed = λ all. fine;
}

-- a request was accepted, but recording it failed
pub one_unrecorded : (s : OfficeState) (r : Request) (old new : Text → Type 0) (failed : Bool) → failed ≡ true → is_accepted (step_of s r) ≡ true → Records r old new failed
    → IsRecorded s (r ∷ []) 0 old new failed
one_unrecorded s r old new failed broken took rec = record {
  leaves = λ was text left. let it = rec.leaves s took was text left in (it.0, by it.0 it.1, it.2);
  whole = λ fine was. absurd (true≢false (sym broken ∙ fine));
  unfailed = λ all. absurd (omega (arith, all));
}
  where
    by : (x : OfficeState) → (x ≡ s) ⊎ (x ≡ after_one s r) → IsAfterAnswered s (r ∷ []) 0 x
    by x (inl before) = record { count = 0; all_answered = omega arith; one_more = omega arith; within = omega arith; is = before }
    by x (inr then) = record { count = 1; all_answered = omega arith; one_more = omega arith; within = omega arith; is = then }

-- ---- requests after one another

-- the state after some requests, and then after some of the others
after_both : (s end : OfficeState) (front rest : List Request) (count : ℕ) → end ≡ after s front → after end (take count rest) ≡ after s (take (count + length front) (front ++ rest))
after_both s end front rest count is =
    let order : length front + count ≡ count + length front = omega arith in
    ap (λ x. after x (take count rest)) is
    ∙ sym (fold-append after_one s front (take count rest))
    ∙ ap (after s) (sym (take-append-add front rest count) ∙ ap (λ n. take n (front ++ rest)) order)

-- requests that were all answered precede the others
pub recorded_then : (s end : OfficeState) (front rest : List Request) (answered : ℕ) (old mid new : Text → Type 0) (failed : Bool) → end ≡ after s front
    → (IsRecordOf old s → IsRecordOf mid end)
    → IsRecorded end rest answered mid new failed → IsRecorded s (front ++ rest) (answered + length front) old new failed
recorded_then s end front rest answered old mid new failed is so then = record {
  leaves = λ was text left. let it = then.leaves (so was) text left in (it.0, by it.0 it.1, it.2);
  whole = λ fine was. record_moved new (after end (take answered rest)) (after s (take (answered + length front) (front ++ rest)))
      (after_both s end front rest answered is) (then.whole fine (so was));
  unfailed = λ all. then.unfailed (omega (arith, all, length-append front rest));
}
  where
    by : (x : OfficeState) → IsAfterAnswered end rest answered x → IsAfterAnswered s (front ++ rest) (answered + length front) x
    by x it = record {
      count = it.count + length front;
      all_answered = omega arith;
      one_more = omega arith;
      within = omega (arith, length-append front rest);
      is = it.is ∙ after_both s end front rest it.count is;
    }

-- the requests after these weren't sent
pub recorded_before : (s : OfficeState) (requests others : List Request) (answered : ℕ) (old new : Text → Type 0) (failed : Bool) → answered ≤ length requests
    → IsRecorded s requests answered old new failed → IsRecorded s (requests ++ others) answered old new failed
recorded_before s requests others answered old new failed few it = record {
  leaves = λ was text left. let x = it.leaves was text left in (x.0, by x.0 x.1, x.2);
  whole = λ fine was. record_moved new (after s (take answered requests)) (after s (take answered (requests ++ others)))
      (ap (after s) (sym (take-append-le answered requests others few))) (it.whole fine was);
  unfailed = λ all. it.unfailed (omega (arith, all, few, length-append requests others));
}
  where
    by : (x : OfficeState) → IsAfterAnswered s requests answered x → IsAfterAnswered s (requests ++ others) answered x
    by x at =
        let inside : at.count ≤ length requests = at.within in
        record {
          count = at.count;
          all_answered = at.all_answered;
          one_more = at.one_more;
          within = omega (arith, inside, length-append requests others);
          is = at.is ∙ ap (after s) (sym (take-append-le at.count requests others inside));
        }

-- all the requests were answered, so the record is one of the state after them
pub recorded_all : (s : OfficeState) (requests : List Request) (answered : ℕ) (old new : Text → Type 0) (failed : Bool) → answered ≡ length requests
    → IsRecorded s requests answered old new failed
    → IsRecordOf old s → IsRecordOf new (after s requests)
recorded_all s requests answered old new failed all it was =
    let enough : length requests ≤ answered = omega (arith, all) in
    record_moved new (after s (take answered requests)) (after s requests) (ap (after s) (take_all answered requests enough)) (it.whole (it.unfailed all) was)

-- The last request that was sent, after requests that were all answered. The others weren't sent.
pub recorded_last : (s end : OfficeState) (front : List Request) (r : Request) (others : List Request) (answered : ℕ) (old mid new : Text → Type 0) (failed : Bool) → end ≡ after s front
    → (IsRecordOf old s → IsRecordOf mid end) → answered ≤ 1
    → IsRecorded end (r ∷ []) answered mid new failed → IsRecorded s (front ++ r ∷ others) (answered + length front) old new failed
recorded_last s end front r others answered old mid new failed is so few it =
    recorded_then s end front (r ∷ others) answered old mid new failed is so (recorded_before end (r ∷ []) others answered mid new failed few it)

-- all requests that were sent were answered
pub recorded_end : (s end : OfficeState) (front : List Request) (old new : Text → Type 0) (failed : Bool) → end ≡ after s front → failed ≡ false → (IsRecordOf old s → IsRecordOf new end)
    → IsRecorded s (front ++ []) (0 + length front) old new failed
recorded_end s end front old new failed is fine so = recorded_then s end front [] 0 old new new failed is so (none_recorded end [] new failed fine)

-- ---- a record that failed earlier

-- nothing was done
pub stays_itself : {R : Type 0} (failed : R → Bool) (r : R) (a : State) → StaysOnceFailed failed r r a a
stays_itself failed r a = λ has. (refl, only_reads_itself a)

-- the office was only read
pub stays_reading : {R : Type 0} (failed : R → Bool) (r : R) (a b : State) → OnlyReads a b → StaysOnceFailed failed r r a b
stays_reading failed r a b reads = λ has. (refl, reads)

-- the office was only read before
pub stays_after_reading : {R : Type 0} (failed : R → Bool) (old new : R) (a b c : State) → OnlyReads a b → StaysOnceFailed failed old new b c → StaysOnceFailed failed old new a c
stays_after_reading failed old new a b c reads then = λ has. let it = then has in (it.0, only_reads_then a b c reads it.1)

-- one thing was done after another
pub stays_then : {R : Type 0} (failed : R → Bool) (old mid new : R) (a b c : State) → StaysOnceFailed failed old mid a b → StaysOnceFailed failed mid new b c
    → StaysOnceFailed failed old new a c
stays_then failed old mid new a b c one other = λ has.
    let first = one has in
    let second = other (ap failed first.0 ∙ has) in
    (second.0 ∙ first.0, only_reads_then a b c first.1 second.1)

-- the record hadn't failed
pub stays_unfailed : {R : Type 0} (failed : R → Bool) (old new : R) (a b : State) (is : Bool) → is ≡ failed old → is ≡ false → StaysOnceFailed failed old new a b
stays_unfailed failed old new a b is value fine = λ has. absurd (true≢false (sym has ∙ sym value ∙ fine))
