-- What a stream yields and accepts, call by call.
use Rattle.std.proofs.Common.{◌≡◌, ◌∙◌, ◌≤◌, ◌++◌, ◌+◌, ℕ, List, [], None, Option, Some, Ok, zero, suc, ap, append_assoc, arith, drop, length, option_map, refl, subst, sym, take}
use Rattle.std.proofs.Math.Seq.{take-add}
use Rattle.std.proofs.lemmas.List.{append-nil, length-drop}
use Rattle.std.proofs.KnownBytes.{Consumes-kept, Consumes-nil, Consumes-trans, Keeps-trans}
use Rattle.std.specs.Io.KnownBytes.{Consumes, Keeps}
use Rattle.connections.specs.Streams.{Delivers, Receives, Grows, HasTaken, Stream, idle_after_write}
use Rattle.connections.specs.Clients.{IsReceived, IsSent}

-- ---- what a stream accepted

-- a write that accepted any bytes isn't idle
pub not_idle : (n : ℕ) (idle : Option ℕ) → (n ≡ 0 → ⊥) → idle_after_write (Ok n) idle ≡ idle
not_idle zero idle ne = absurd (ne refl)
not_idle (suc n) idle ne = refl

grows_none : (old new : Option (List ℕ)) → new ≡ old → Grows old new []
grows_none None new e = e
grows_none (Some taken) new e = e ∙ ap Some (sym (append-nil taken))

grows_then : (old mid new : Option (List ℕ)) (a b : List ℕ) → Grows old mid a → Grows mid new b → Grows old new (a ++ b)
grows_then None mid new a b first next = next ∙ ap (option_map (λ (t : List ℕ). t ++ b)) first
grows_then (Some taken) mid new a b first next = next ∙ ap (option_map (λ (t : List ℕ). t ++ b)) first ∙ ap Some (append_assoc taken a b)

taken_kept : (old new : Option (List ℕ)) (bytes : List ℕ) → new ≡ old → HasTaken old bytes → HasTaken new bytes
taken_kept old new bytes e has = subst (λ (t : Option (List ℕ)). HasTaken t bytes) (sym e) has

taken_more : (old new : Option (List ℕ)) (bytes more : List ℕ) → Grows old new more → HasTaken old bytes → HasTaken new (bytes ++ more)
taken_more None new bytes more e has = subst (λ (t : Option (List ℕ)). HasTaken t (bytes ++ more)) (sym e) tt
taken_more (Some taken) new bytes more e has = subst (λ (t : Option (List ℕ)). HasTaken t (bytes ++ more)) (sym e) (ap (λ (t : List ℕ). t ++ more) has)

module _ {L : Type 0} (stream : Stream L) where
  -- ---- what is received

  -- nothing more was received
  pub gathers_none : (old new : L) (got : List ℕ) → Keeps (stream.held old) (stream.held new) → stream.taken new ≡ stream.taken old → Receives stream old new got got
  gathers_none old new got kept untold = record {
    more = [];
    is = sym (append-nil got);
    gave = Consumes-kept (stream.held old) (stream.held old) (stream.held new) [] (Consumes-nil (stream.held old)) kept;
    untold = untold;
  }

  -- what was received in one call
  pub gathers_one : (old new : L) (got more : List ℕ) → Consumes (stream.held old) (stream.held new) more → stream.taken new ≡ stream.taken old → Receives stream old new got (got ++ more)
  gathers_one old new got more gave untold = record { more = more; is = refl; gave = gave; untold = untold }

  -- what was received in two spans of calls, one after the other
  pub gathers_then : (old mid new : L) (before between after : List ℕ) → Receives stream old mid before between → Receives stream mid new between after → Receives stream old new before after
  gathers_then old mid new before between after first next = record {
    more = first.more ++ next.more;
    is = next.is ∙ ap (λ (xs : List ℕ). xs ++ next.more) first.is ∙ append_assoc before first.more next.more;
    gave = Consumes-trans (stream.held old) (stream.held mid) (stream.held new) first.more next.more first.gave next.gave;
    untold = next.untold ∙ first.untold;
  }

  -- more was received from a client
  pub heard_more : (start old new : L) (before after : List ℕ) → IsReceived stream start old before → Receives stream old new before after → IsReceived stream start new after
  heard_more start old new before after received more = record {
    gave = subst (Consumes (stream.held start) (stream.held new)) (sym more.is)
        (Consumes-trans (stream.held start) (stream.held old) (stream.held new) before more.more received.gave more.gave);
    untold = taken_kept (stream.taken old) (stream.taken new) [] more.untold received.untold;
  }

  -- ---- what is sent

  -- nothing was sent
  pub delivers_none : (old new : L) (answer : List ℕ) (sent : ℕ) → stream.taken new ≡ stream.taken old → Keeps (stream.held old) (stream.held new)
      → Delivers stream old new answer sent sent
  delivers_none old new answer sent kept unheard = record {
    within = λ within. within;
    bytes = [];
    is = sym (append-nil (take sent answer));
    took = grows_none (stream.taken old) (stream.taken new) kept;
    unheard = unheard;
  }

  -- the next bytes were sent
  pub delivers_one : (old new : L) (answer : List ℕ) (sent n : ℕ) → (sent ≤ length answer → sent + n ≤ length answer)
      → Grows (stream.taken old) (stream.taken new) (take n (drop sent answer)) → Keeps (stream.held old) (stream.held new)
      → Delivers stream old new answer sent (sent + n)
  delivers_one old new answer sent n within took unheard = record { within = within; bytes = take n (drop sent answer); is = take-add sent n answer; took = took; unheard = unheard }

  -- the next bytes were sent, and then the bytes after them
  pub delivers_then : (old mid new : L) (answer : List ℕ) (before between after : ℕ) → Delivers stream old mid answer before between → Delivers stream mid new answer between after
      → Delivers stream old new answer before after
  delivers_then old mid new answer before between after first next = record {
    within = λ within. next.within (first.within within);
    bytes = first.bytes ++ next.bytes;
    is = next.is ∙ ap (λ (xs : List ℕ). xs ++ next.bytes) first.is ∙ append_assoc (take before answer) first.bytes next.bytes;
    took = grows_then (stream.taken old) (stream.taken mid) (stream.taken new) first.bytes next.bytes first.took next.took;
    unheard = Keeps-trans (stream.held old) (stream.held mid) (stream.held new) first.unheard next.unheard;
  }

  -- the given number of the remaining bytes was sent next
  pub delivers_next : (first mid new : L) (answer : List ℕ) (before sent n : ℕ) (bytes : List ℕ) → Delivers stream first mid answer before sent → bytes ≡ drop sent answer → n ≤ length bytes
      → Grows (stream.taken mid) (stream.taken new) (take n bytes) → Keeps (stream.held mid) (stream.held new) → Delivers stream first new answer before (sent + n)
  delivers_next first mid new answer before sent n bytes so_far is within took unheard =
      let few = subst (λ (xs : List ℕ). n ≤ length xs) is within in
      delivers_then first mid new answer before sent (sent + n) so_far
      (delivers_one mid new answer sent n (λ within. omega (arith, few, within, length-drop sent answer))
      (subst (λ (xs : List ℕ). Grows (stream.taken mid) (stream.taken new) (take n xs)) is took) unheard)

  -- more of its response was sent to a client
  pub told_more : (old new : L) (answer : List ℕ) (before after : ℕ) → IsSent stream old answer before → Delivers stream old new answer before after → IsSent stream new answer after
  told_more old new answer before after told more = record {
    within = more.within told.within;
    took = subst (HasTaken (stream.taken new)) (sym more.is) (taken_more (stream.taken old) (stream.taken new) (take before answer) more.bytes more.took told.took);
  }

  -- bytes were received from a client, and now it has its response, none of which has been sent yet
  pub told_none : (start now : L) (got answer : List ℕ) → IsReceived stream start now got → IsSent stream now answer 0
  told_none start now got answer received = record { within = omega arith; took = received.untold }
