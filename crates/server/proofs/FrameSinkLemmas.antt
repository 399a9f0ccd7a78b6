-- The output of an order, frame by frame.
use Rattle.std.proofs.Common.{◌≡◌, ◌∙◌, ◌<◌, ◌^◌, ◌++◌, ◌⊎◌, Bool, false, true, ◌&&◌, cond, ℕ, List, [], None}
use Rattle.std.proofs.Common.{Option, Some, ap, arith, drop, fold, inl, inr, length, length-append, refl, subst, sym, take}
use Rattle.std.proofs.Common.{leb}
use Rattle.std.specs.Prelude.{⊤, bytes_eq}
use Rattle.std.proofs.lemmas.Bool.{le-leb, leb-true}
use Rattle.std.proofs.lemmas.List.{append-nil, take-append-drop, take-append-le}
use Rattle.std.proofs.lemmas.Slice.Eq.{bytes_eq-Decides}
use Rattle.std.specs.Io.KnownBytes.{Appends, Keeps}
use Rattle.connections.specs.Clients.{IsSent}
use Rattle.connections.specs.Streams.{Delivers, HasTaken, Stream}
use Rattle.connections.specs.declared.client.PendingResponse.{PendingResponse}
use Rattle.connections.proofs.StreamLemmas.{told_more}
use Rattle.order_protocol.specs.Frames.{AreWhole, IsOver, DecoderState, SaysMore, at_kind, error_output_of, frame_bytes, decode, in_bytes, in_length, nothing_decoded, said, output_of}
use Rattle.order_protocol.proofs.FrameLemmas.{said_put}
use Rattle.server.specs.FrameSinks.{IsEnded, IsGoingOut, has_taken, is_at_kind, is_going_out, said_through}
use Rattle.server.specs.declared.frame_sink.FrameSink.{FrameSink}

-- ---- the test

both : (a b : Bool) → a ≡ true → b ≡ true → (a && b) ≡ true
both true true x y = refl
both true false x y = absurd (cc y)
both false b x y = absurd (cc x)

first_of : (a b : Bool) → (a && b) ≡ true → a ≡ true
first_of true b is = refl
first_of false b is = absurd (cc is)

next_of : (a b : Bool) → (a && b) ≡ true → b ≡ true
next_of true b is = is
next_of false b is = absurd (cc is)

at_kind_from : (place : DecoderState) → is_at_kind place ≡ true → place ≡ at_kind
at_kind_from at_kind is = refl
at_kind_from (in_length kind number left) is = absurd (cc is)
at_kind_from (in_bytes kind left) is = absurd (cc is)

taken_from : (taken : Option (List ℕ)) (bytes : List ℕ) → has_taken taken bytes ≡ true → HasTaken taken bytes
taken_from None bytes is = tt
taken_from (Some taken) bytes is = (bytes_eq-Decides taken bytes).0 is

has_taken_by : (taken : Option (List ℕ)) (bytes : List ℕ) → HasTaken taken bytes → has_taken taken bytes ≡ true
has_taken_by None bytes has = refl
has_taken_by (Some taken) bytes has = (bytes_eq-Decides taken bytes).1 has

module _ {L : Type 0} (stream : Stream L) where
  pub goes_from : (o : FrameSink L) → is_going_out stream o ≡ true → IsGoingOut stream o.stream o.answer
  goes_from o is =
      let place = is_at_kind (fold decode nothing_decoded o.answer.bytes.items).place in
      let quiet = bytes_eq (error_output_of o.answer.bytes.items) [] in
      let within = leb o.answer.sent (length o.answer.bytes.items) in
      let has = has_taken (stream.taken o.stream) (take o.answer.sent o.answer.bytes.items) in
      let behind = next_of place (quiet && (within && has)) is in
      let last = next_of quiet (within && has) behind in
      record {
        whole = at_kind_from (fold decode nothing_decoded o.answer.bytes.items).place (first_of place (quiet && (within && has)) is);
        quiet = (bytes_eq-Decides (error_output_of o.answer.bytes.items) []).0 (first_of quiet (within && has) behind);
        told = record {
          within = leb-true o.answer.sent (length o.answer.bytes.items) (first_of within has last);
          took = taken_from (stream.taken o.stream) (take o.answer.sent o.answer.bytes.items) (next_of within has last);
        };
      }

  pub goes_by : (o : FrameSink L) → IsGoingOut stream o.stream o.answer → is_going_out stream o ≡ true
  goes_by o goes =
      let place = is_at_kind (fold decode nothing_decoded o.answer.bytes.items).place in
      let quiet = bytes_eq (error_output_of o.answer.bytes.items) [] in
      let within = leb o.answer.sent (length o.answer.bytes.items) in
      let has = has_taken (stream.taken o.stream) (take o.answer.sent o.answer.bytes.items) in
      both place (quiet && (within && has)) (ap is_at_kind goes.whole)
      (both quiet (within && has) ((bytes_eq-Decides (error_output_of o.answer.bytes.items) []).1 goes.quiet)
      (both within has (le-leb o.answer.sent (length o.answer.bytes.items) goes.told.within) (has_taken_by (stream.taken o.stream) (take o.answer.sent o.answer.bytes.items) goes.told.took)))

  -- ---- what a sink accepted

  pub said_so : (o : FrameSink L) → IsGoingOut stream o.stream o.answer → said_through stream o ≡ Some (output_of o.answer.bytes.items)
  said_so o goes = ap (λ (b : Bool). cond b (Some (output_of o.answer.bytes.items)) None) (goes_by o goes)

  -- what was accepted grows by what is written
  pub appends : (old new : FrameSink L) (bytes : List ℕ) → (IsGoingOut stream old.stream old.answer → IsGoingOut stream new.stream new.answer)
      → (IsGoingOut stream old.stream old.answer → output_of new.answer.bytes.items ≡ output_of old.answer.bytes.items ++ bytes) → Appends (said_through stream old) (said_through stream new) bytes
  appends old new bytes goes more = by (is_going_out stream old) refl
    where
      by : (b : Bool) → is_going_out stream old ≡ b → Appends (cond b (Some (output_of old.answer.bytes.items)) None) (said_through stream new) bytes
      by false is = tt
      by true is =
          let was = goes_from old is in
          subst (λ (t : Option (List ℕ)). Appends (Some (output_of old.answer.bytes.items)) t bytes) (sym (said_so new (goes was))) (more was)

  -- what was accepted is unchanged
  pub keeps : (old new : FrameSink L) → (IsGoingOut stream old.stream old.answer → IsGoingOut stream new.stream new.answer) → new.answer.bytes.items ≡ old.answer.bytes.items
      → Keeps (said_through stream old) (said_through stream new)
  keeps old new goes same = by (is_going_out stream old) refl
    where
      by : (b : Bool) → is_going_out stream old ≡ b → Keeps (cond b (Some (output_of old.answer.bytes.items)) None) (said_through stream new)
      by false is = tt
      by true is = subst (λ (t : Option (List ℕ)). Keeps (Some (output_of old.answer.bytes.items)) t) (sym (said_so new (goes (goes_from old is)))) (ap output_of same)

  -- the sink accepted everything that was written, and all of that is being sent
  pub said_from : (o : FrameSink L) (bytes : List ℕ) → said_through stream o ≡ Some bytes → IsGoingOut stream o.stream o.answer × (bytes ≡ output_of o.answer.bytes.items)
  said_from o bytes took = by (is_going_out stream o) refl took
    where
      by : (b : Bool) → is_going_out stream o ≡ b → cond b (Some (output_of o.answer.bytes.items)) None ≡ Some bytes → IsGoingOut stream o.stream o.answer × (bytes ≡ output_of o.answer.bytes.items)
      by false is it = absurd (cc it)
      by true is it = (goes_from o is, cc it)

  -- ---- another frame

  -- the stream accepted more of the response
  pub out_more : (old new : L) (before after : PendingResponse) → Delivers stream old new before.bytes.items before.sent after.sent
      → after.bytes.items ≡ before.bytes.items → IsGoingOut stream old before
      → IsGoingOut stream new after
  out_more old new before after delivers same goes = record {
    whole = subst AreWhole (sym same) goes.whole;
    quiet = ap error_output_of same ∙ goes.quiet;
    told = subst (λ (bytes : List ℕ). IsSent stream new bytes after.sent) (sym same) (told_more stream old new before.bytes.items before.sent after.sent goes.told delivers);
  }

  -- more was appended, none of which the stream has accepted yet
  told_still : (now : L) (before after : PendingResponse) (more : List ℕ) → after.bytes.items ≡ before.bytes.items ++ more → after.sent ≡ before.sent → IsSent stream now before.bytes.items before.sent
      → IsSent stream now after.bytes.items after.sent
  told_still now before after more put still told =
      let long = ap (λ (bs : List ℕ). length bs) put in
      let same : take after.sent after.bytes.items ≡ take before.sent before.bytes.items =
      ap (λ (n : ℕ). take n after.bytes.items) still ∙ ap (λ (bs : List ℕ). take before.sent bs) put ∙ take-append-le before.sent before.bytes.items more told.within in
      record {
        within = omega (arith, still, long, told.within, length-append before.bytes.items more);
        took = subst (HasTaken (stream.taken now)) (sym same) told.took;
      }

  -- a frame was appended
  pub out_said : (now : L) (before after : PendingResponse) (bytes : List ℕ) → length bytes < 2 ^ 32 → after.bytes.items ≡ before.bytes.items ++ frame_bytes (said bytes) → after.sent ≡ before.sent
      → IsGoingOut stream now before → IsGoingOut stream now after × (output_of after.bytes.items ≡ output_of before.bytes.items ++ bytes)
  out_said now before after bytes small put still goes =
      let says = said_put before.bytes.items after.bytes.items bytes put small goes.whole in (
        record {
          whole = says.whole;
          quiet = says.error ∙ append-nil (error_output_of before.bytes.items) ∙ goes.quiet;
          told = told_still now before after (frame_bytes (said bytes)) put still goes.told;
        },
        says.output,
      )

  -- more frames were appended, none of which the stream has accepted yet
  told_begun : (now : L) (before after : PendingResponse) → take (length before.bytes.items) after.bytes.items ≡ before.bytes.items → after.sent ≡ before.sent
      → IsSent stream now before.bytes.items before.sent
      → IsSent stream now after.bytes.items after.sent
  told_begun now before after begins still told =
      told_still now before after (drop (length before.bytes.items) after.bytes.items)
      (sym (take-append-drop (length before.bytes.items) after.bytes.items) ∙ ap (λ (front : List ℕ). front ++ drop (length before.bytes.items) after.bytes.items) begins) still told

  -- frames for the error output were appended, and then the last frame; or an allocation failed before that
  pub ended : (o : FrameSink L) (bytes : List ℕ) (status : ℕ) (err rest : List ℕ) (after : PendingResponse) → said_through stream o ≡ Some bytes → after.sent ≡ o.answer.sent
      → take (length o.answer.bytes.items) after.bytes.items ≡ o.answer.bytes.items → SaysMore o.answer.bytes.items after.bytes.items [] rest
      → ⊤ ⊎ ((rest ≡ err) × IsOver after.bytes.items status [])
      → IsEnded stream bytes status err o.stream after
  ended o bytes status err rest after took still begins says end =
      let (goes, is) = said_from o bytes took in
      record {
        told = told_begun o.stream o.answer after begins still goes.told;
        is = is ∙ sym (says.output ∙ append-nil (output_of o.answer.bytes.items));
        end = by end (says.error ∙ ap (λ (e : List ℕ). e ++ rest) goes.quiet);
      }
    where
      by : ⊤ ⊎ ((rest ≡ err) × IsOver after.bytes.items status []) → error_output_of after.bytes.items ≡ rest
          → (IsOver after.bytes.items status [] × (error_output_of after.bytes.items ≡ err)) ⊎ AreWhole after.bytes.items
      by (inl cut) erred = inr says.whole
      by (inr (all, over)) erred = inl (over, erred ∙ all)
