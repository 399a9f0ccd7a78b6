-- What frames contain, one after another.
use Rattle.std.proofs.Common.{◌≡◌, ◌∙◌, ◌+◌, ◌*◌, ◌/◌, ◌%◌, ◌^◌, ◌<◌, ◌≤◌, ◌-◌, ◌++◌, ◌∷◌, ℕ, List, [], ap, append_assoc, arith, drop, fold, length, min, subst, sym, take}
use Rattle.std.proofs.Math.Seq.{take-add}
use Rattle.std.proofs.lemmas.List.{append-nil, length-drop, length-take, take-append-le, take_min}
use Rattle.std.proofs.lemmas.List.Sums.{fold-append}
use Rattle.std.proofs.lemmas.Nat.{from_be_bytes-to_be_bytes_4}
use Rattle.order_protocol.specs.Messages.{string}
use Rattle.order_protocol.specs.Frames.{AreWhole, Decoded, IsOver, DecoderState, SaysMore, at_kind, behind_length, error_output_of}
use Rattle.order_protocol.specs.Frames.{frame_bytes, decode, decode_at, nothing_decoded, over, said, output_of, said_err}

abbrev whole_heard : List ℕ → List ℕ → Decoded
whole_heard output error = record { place = at_kind; output = output; error = error }

-- bytes of the output are decoded, once their number is known
output_heard : (bytes output error : List ℕ) → fold decode (record { place = behind_length 1 (length bytes); output = output; error = error }) bytes ≡ whole_heard (output ++ bytes) error
output_heard [] output error = ap (λ (o : List ℕ). whole_heard o error) (sym (append-nil output))
output_heard (b ∷ bytes) output error = output_heard bytes (output ++ b ∷ []) error ∙ ap (λ (o : List ℕ). whole_heard o error) (append_assoc output (b ∷ []) bytes)

-- bytes of the error output are decoded
error_heard : (bytes output error : List ℕ) → fold decode (record { place = behind_length 3 (length bytes); output = output; error = error }) bytes ≡ whole_heard output (error ++ bytes)
error_heard [] output error = ap (λ (e : List ℕ). whole_heard output e) (sym (append-nil error))
error_heard (b ∷ bytes) output error = error_heard bytes output (error ++ b ∷ []) ∙ ap (λ (e : List ℕ). whole_heard output e) (append_assoc error (b ∷ []) bytes)

-- the number of bytes is decoded
heard_length : (n : ℕ) → n < 2 ^ 32 → (((0 * 256 + n / 16777216 % 256) * 256 + n / 65536 % 256) * 256 + n / 256 % 256) * 256 + n % 256 ≡ n
heard_length n lt = omega (arith, from_be_bytes-to_be_bytes_4 n lt)

-- the head of a frame is decoded
head_heard : (st : Decoded) (kind : ℕ) (own : List ℕ) → st.place ≡ at_kind → length own < 2 ^ 32
    → fold decode st (kind ∷ string own) ≡ fold decode (record { place = behind_length kind (length own); output = st.output; error = st.error }) own
head_heard st kind own whole lt =
    let on : fold decode (decode_at st.place st.output st.error kind) (string own) ≡ fold decode (decode_at at_kind st.output st.error kind) (string own) =
    ap (λ (p : DecoderState). fold decode (decode_at p st.output st.error kind) (string own)) whole in
    on ∙ ap (λ (n : ℕ). fold decode (record { place = behind_length kind n; output = st.output; error = st.error }) own) (heard_length (length own) lt)

-- complete frames are followed by another one
frame_says : (front frame output error : List ℕ)
    → fold decode (fold decode nothing_decoded front) frame ≡ whole_heard ((fold decode nothing_decoded front).output ++ output) ((fold decode nothing_decoded front).error ++ error)
    → SaysMore front (front ++ frame) output error
frame_says front frame output error is =
    let it = fold-append decode nothing_decoded front frame ∙ is in
    record {
      whole = ap (λ (h : Decoded). h.place) it;
      output = ap (λ (h : Decoded). h.output) it;
      error = ap (λ (h : Decoded). h.error) it;
    }

pub said_says : (front bytes : List ℕ) → AreWhole front → length bytes < 2 ^ 32 → SaysMore front (front ++ frame_bytes (said bytes)) bytes []
said_says front bytes whole lt =
    let st = fold decode nothing_decoded front in
    frame_says front (frame_bytes (said bytes)) bytes []
    (head_heard st 1 bytes whole lt ∙ output_heard bytes st.output st.error ∙ ap (λ (e : List ℕ). whole_heard (st.output ++ bytes) e) (sym (append-nil st.error)))

pub said_err_says : (front bytes : List ℕ) → AreWhole front → length bytes < 2 ^ 32 → SaysMore front (front ++ frame_bytes (said_err bytes)) [] bytes
said_err_says front bytes whole lt =
    let st = fold decode nothing_decoded front in
    frame_says front (frame_bytes (said_err bytes)) [] bytes
    (head_heard st 3 bytes whole lt ∙ error_heard bytes st.output st.error ∙ ap (λ (o : List ℕ). whole_heard o (st.error ++ bytes)) (sym (append-nil st.output)))

pub over_says : (front : List ℕ) (status : ℕ) (err : List ℕ) → AreWhole front → length err + 1 < 2 ^ 32 → SaysMore front (front ++ frame_bytes (over status err)) [] err
over_says front status err whole lt =
    let st = fold decode nothing_decoded front in
    let own : List ℕ = status ∷ err in
    let fits : length own < 2 ^ 32 = omega (arith, lt) in
    frame_says front (frame_bytes (over status err)) [] err
    (head_heard st 2 own whole fits ∙ error_heard err st.output st.error ∙ ap (λ (o : List ℕ). whole_heard o (st.error ++ err)) (sym (append-nil st.output)))

-- a frame after complete ones adds exactly its bytes, and the frames are complete again
pub said_more : (front bytes : List ℕ) → AreWhole front → length bytes < 2 ^ 32
    → (output_of (front ++ frame_bytes (said bytes)) ≡ output_of front ++ bytes) × AreWhole (front ++ frame_bytes (said bytes))
said_more front bytes whole lt = let says = said_says front bytes whole lt in (says.output, says.whole)

-- the last frame after complete ones adds nothing to the output, and the frames are complete again
pub over_more : (front : List ℕ) (status : ℕ) (err : List ℕ) → AreWhole front → length err + 1 < 2 ^ 32
    → (output_of (front ++ frame_bytes (over status err)) ≡ output_of front) × AreWhole (front ++ frame_bytes (over status err))
over_more front status err whole lt = let says = over_says front status err whole lt in (says.output ∙ append-nil (output_of front), says.whole)

-- ---- frames that were appended to others

pub said_put : (old new bytes : List ℕ) → new ≡ old ++ frame_bytes (said bytes) → length bytes < 2 ^ 32 → AreWhole old → SaysMore old new bytes []
said_put old new bytes put lt whole = subst (λ (v : List ℕ). SaysMore old v bytes []) (sym put) (said_says old bytes whole lt)

pub said_err_put : (old new bytes : List ℕ) → new ≡ old ++ frame_bytes (said_err bytes) → length bytes < 2 ^ 32 → AreWhole old → SaysMore old new [] bytes
said_err_put old new bytes put lt whole = subst (λ (v : List ℕ). SaysMore old v [] bytes) (sym put) (said_err_says old bytes whole lt)

pub over_put : (old new : List ℕ) (status : ℕ) (err : List ℕ) → new ≡ old ++ frame_bytes (over status err) → length err + 1 < 2 ^ 32 → AreWhole old
    → SaysMore old new [] err × IsOver new status err
over_put old new status err put lt whole =
    (subst (λ (v : List ℕ). SaysMore old v [] err) (sym put) (over_says old status err whole lt), record { front = old; whole = whole; is = put })

-- nothing was appended
pub nothing_more : (old : List ℕ) → AreWhole old → SaysMore old old [] []
nothing_more old whole = record { whole = whole; output = sym (append-nil (output_of old)); error = sym (append-nil (error_output_of old)) }

-- part of the given bytes was appended to the error output, and then the next part
pub errors_on : (old mid new bytes part : List ℕ) (at : ℕ) → part ≡ take 65536 (drop at bytes) → SaysMore old mid [] (take at bytes) → SaysMore mid new [] part
    → SaysMore old new [] (take (at + length part) bytes)
errors_on old mid new bytes part at is first next =
    let same : take (length part) (drop at bytes) ≡ part =
    ap (λ (p : List ℕ). take (length p) (drop at bytes)) is ∙ ap (λ (n : ℕ). take n (drop at bytes)) (length-take 65536 (drop at bytes)) ∙ take_min 65536 (drop at bytes) ∙ sym is in
    record {
      whole = next.whole;
      output = next.output ∙ append-nil (output_of mid) ∙ first.output;
      error = next.error ∙ ap (λ (e : List ℕ). e ++ part) first.error ∙ append_assoc (error_output_of old) (take at bytes) part
          ∙ ap (λ (e : List ℕ). error_output_of old ++ e) (ap (λ (e : List ℕ). take at bytes ++ e) (sym same) ∙ sym (take-add at (length part) bytes));
    }

-- the length of that part
pub part_len : (bytes part : List ℕ) (at : ℕ) → part ≡ take 65536 (drop at bytes) → length part ≡ min 65536 (length bytes - at)
part_len bytes part at is = ap (λ (p : List ℕ). length p) is ∙ length-take 65536 (drop at bytes) ∙ ap (λ (n : ℕ). min 65536 n) (length-drop at bytes)

-- the bytes at the beginning haven't changed
pub begins_still : (old mid new more : List ℕ) → take (length old) mid ≡ old → new ≡ mid ++ more → take (length old) new ≡ old
begins_still old mid new more begins put =
    let within : length old ≤ length mid = omega (arith, length-take (length old) mid, ap (λ (p : List ℕ). length p) begins) in
    ap (λ (p : List ℕ). take (length old) p) put ∙ take-append-le (length old) mid more within ∙ begins
