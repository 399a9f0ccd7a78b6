-- Laws of the machine that concern lists of requests.
use Rattle.std.proofs.Common.{◌≡◌, ℕ, ◌+◌, ◌<◌, Bool, true, false, cond, List, [], ◌∷◌, length, take, get_or, refl, ap, subst, ◌∙◌}
use Rattle.std.proofs.lemmas.List.{take_more}
use Rattle.std.proofs.lemmas.List.Sums.{fold_push}
use Rattle.std.proofs.lemmas.Bool.{true≢false}
use Rattle.register.specs.declared.command.Request.{Request}
use Rattle.std.specs.List.Sorted.{IsStrictlySortedBy}
use Rattle.register.specs.Offices.{OfficeState, empty_office}
use Rattle.register.specs.StateConditions.{all_agreed, all_counted, IsState}
use Rattle.register.specs.Machine.{Outcome, accepted, kept, refused, step_of, state_after, is_accepted, after_one, after, accepted_of}
use Rattle.register.proofs.MachineLemmas.{step_stays}
use Rattle.std.specs.Prelude.{string_bytes}

-- a request that isn't accepted changes nothing
pub only_accepted : (s : OfficeState) (o : Outcome) → is_accepted o ≡ false → state_after s o ≡ s
only_accepted s (accepted next reply) h = absurd (true≢false h)
only_accepted s (kept reply) h = refl
only_accepted s (refused why) h = refl

-- so processing only the accepted requests leads to the same state
pub after-accepted_of : (s : OfficeState) (rs : List Request) → after s (accepted_of s rs) ≡ after s rs
after-accepted_of s [] = refl
after-accepted_of s (r ∷ rs) = go (is_accepted (step_of s r)) refl (after-accepted_of (after_one s r) rs)
  where
    go : (b : Bool) → is_accepted (step_of s r) ≡ b → after (after_one s r) (accepted_of (after_one s r) rs) ≡ after (after_one s r) rs
        → after s (cond b (r ∷ accepted_of (after_one s r) rs) (accepted_of (after_one s r) rs)) ≡ after (after_one s r) rs
    go true is later = later
    go false is later = subst (λ (x : OfficeState). after x (accepted_of (after_one s r) rs) ≡ after (after_one s r) rs) (only_accepted s (step_of s r) is) later

-- the state after processing the next request
pub after-more : (s : OfficeState) (rs : List Request) (i : ℕ) (d : Request) → i < length rs → after s (take (i + 1) rs) ≡ after_one (after s (take i rs)) (get_or rs i d)
after-more s rs i d within = ap (after s) (take_more rs i d within) ∙ fold_push after_one s (take i rs) (get_or rs i d)

-- any list of requests leads to a state
pub after_stays : (s : OfficeState) (rs : List Request) → IsState s → IsState (after s rs)
after_stays s [] is = is
after_stays s (r ∷ rs) is = after_stays (after_one s r) rs (step_stays s r.actor (string_bytes r.id) r.command is)

pub empty_is_a_state : IsState empty_office
unfolding IsStrictlySortedBy all_agreed all_counted
empty_is_a_state =
    record {
      in_range = refl;
      nominated = refl;
      given_out = refl;
      keyed = refl;
      judged = refl;
      agreed = refl;
      counted = refl;
      rise = record { wards = tt; candidates = tt; batches = tt; thirds = tt; keyings = tt; verdicts = tt; lots = tt; receipts = tt };
    }
