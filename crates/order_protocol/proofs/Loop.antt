-- Reading pieces one after another in a loop.
use Rattle.std.proofs.Common.{◌≡◌, ℕ, suc, ◌-◌, ◌+◌, ◌≤◌, ◌<◌, List, [], ◌∷◌, ◌++◌, Result, Ok, Err, refl, sym, ap, ◌∙◌, append_assoc, arith}
use Rattle.std.proofs.lemmas.List.{append-nil}
use Rattle.order_protocol.specs.declared.fault.FormatError.{FormatError}
use Rattle.order_protocol.specs.declared.fault.DecodeError.{DecodeError}
use Rattle.order_protocol.specs.declared.fault.DecodeError.TheVariants as errors
use Rattle.order_protocol.specs.Messages.{MessagePartEntry}
use Rattle.order_protocol.specs.Reading.{◌>>=◌, Fails, piece_at, pieces_at}

-- the pieces that were already read, followed by those still to be read
abbrev pub with_front : List MessagePartEntry → Result (List MessagePartEntry × List ℕ) FormatError → Result (List MessagePartEntry × List ℕ) FormatError
with_front front read = read >>= λ x. Ok (front ++ x.0, x.1)

regroup : (front : List MessagePartEntry) (n : MessagePartEntry) (read : Result (List MessagePartEntry × List ℕ) FormatError)
    → with_front front (read >>= λ x. Ok (n ∷ x.0, x.1)) ≡ with_front (front ++ n ∷ []) read
regroup front n (Ok x) = ap (λ (ns : List MessagePartEntry). Ok (ns, x.1)) (simp append_assoc)
regroup front n (Err f) = refl

pub goes_on : (front : List MessagePartEntry) (count i : ℕ) (bytes : List ℕ) (n : MessagePartEntry) (after : List ℕ) (total : Result (List MessagePartEntry × List ℕ) FormatError)
    → i < count → piece_at bytes ≡ Ok (n, after)
    → with_front front (pieces_at (count - i) bytes) ≡ total → with_front (front ++ n ∷ []) (pieces_at (count - (i + 1)) after) ≡ total
unfolding pieces_at
goes_on front count i bytes n after total lt h so_far =
    let k : count - i ≡ suc (count - (i + 1)) = omega arith in
    let one : with_front front (pieces_at (count - i) bytes) ≡ with_front (front ++ n ∷ []) (pieces_at (count - (i + 1)) after) = rw (k, h) (regroup front n (pieces_at (count - (i + 1)) after)) in
    sym one ∙ so_far

pub ends : (e : DecodeError) (front : List MessagePartEntry) (count i : ℕ) (bytes : List ℕ) (total : Result (List MessagePartEntry × List ℕ) FormatError) → i < count → Fails e (piece_at bytes)
    → with_front front (pieces_at (count - i) bytes) ≡ total → Fails e total
unfolding pieces_at
ends errors.Memory front count i bytes total lt h so_far = tt
ends (errors.FormatError f) front count i bytes total lt h so_far =
    let k : count - i ≡ suc (count - (i + 1)) = omega arith in
    let one : with_front front (pieces_at (count - i) bytes) ≡ Err f = rw (k, h) refl in
    sym so_far ∙ one

pub is_done : (front : List MessagePartEntry) (count i : ℕ) (bytes : List ℕ) (total : Result (List MessagePartEntry × List ℕ) FormatError) → count ≤ i
    → with_front front (pieces_at (count - i) bytes) ≡ total → total ≡ Ok (front, bytes)
unfolding pieces_at
is_done front count i bytes total le so_far =
    let k : count - i ≡ 0 = omega arith in
    let one : with_front front (pieces_at (count - i) bytes) ≡ Ok (front, bytes) = rw k (ap (λ (ns : List MessagePartEntry). Ok (ns, bytes)) (append-nil front)) in
    sym so_far ∙ one
