-- The head of a frame that is decoded is the one that was encoded.
use Rattle.std.proofs.Common.{◌≡◌, ◌^◌, ◌<◌, ◌∷◌, ℕ, zero, suc, List, [], Option, Some, None, ap, arith, length, refl, sym, take}
use Rattle.std.specs.Prelude.{IfSome, option_map}
use Rattle.std.specs.Int.{w32, from_be_bytes, to_be_bytes}
use Rattle.order_protocol.specs.Frames.{Frame, frame_bytes, frame_kind, head_bytes, kind_byte, over, own_bytes, said, said_err}
use Rattle.order_protocol.specs.Reading.{head_in, kind_in}
use Rattle.order_protocol.specs.declared.frames.FrameHead.{FrameHead}
use Rattle.order_protocol.specs.declared.frames.FrameKind.{FrameKind}
use Rattle.order_protocol.specs.declared.frames.FrameKind.TheVariants as kinds
use Rattle.order_protocol.proofs.Fields.{IsBytes, wide32}

abbrev head_of : FrameKind → ℕ → FrameHead
head_of kind len = record { kind = kind; len = len }

-- whatever is encoded can be decoded
pub head_again : (kind : FrameKind) (len : ℕ) → len < 2 ^ 32 → head_in (head_bytes kind len) ≡ Some (head_of kind len)
head_again kinds.Output len lt = ap (λ (n : ℕ). Some (head_of kinds.Output n)) (wide32.again len lt)
head_again kinds.End len lt = ap (λ (n : ℕ). Some (head_of kinds.End n)) (wide32.again len lt)
head_again kinds.ErrorOutput len lt = ap (λ (n : ℕ). Some (head_of kinds.ErrorOutput n)) (wide32.again len lt)

-- the first bytes of a frame are its head
pub front_is : (frame : Frame) → take 5 (frame_bytes frame) ≡ head_bytes (frame_kind frame) (length (own_bytes frame))
front_is (said bytes) = refl
front_is (over status err) = refl
front_is (said_err bytes) = refl

-- ---- whatever is decoded has this encoding

kind_found : (byte : ℕ) → IfSome (kind_in byte) (λ kind. byte ≡ kind_byte kind)
kind_found zero = tt
kind_found (suc zero) = refl
kind_found (suc (suc zero)) = refl
kind_found (suc (suc (suc zero))) = refl
kind_found (suc (suc (suc (suc n)))) = tt

cons_is : (a b : ℕ) (xs ys : List ℕ) → a ≡ b → xs ≡ ys → a ∷ xs ≡ b ∷ ys
cons_is a b xs ys e f = cc

pub head_found : (bytes : List ℕ) → length bytes ≡ 5 → IsBytes bytes → IfSome (head_in bytes) (λ head. bytes ≡ head_bytes head.kind head.len)
head_found [] size fits = absurd (omega (arith, size))
head_found (byte ∷ len) size fits = by_kind (kind_in byte) (kind_found byte)
  where
    four : length len ≡ 4
    four = omega (arith, size)

    by_kind : (o : Option FrameKind) → IfSome o (λ kind. byte ≡ kind_byte kind)
        → IfSome (option_map (λ kind. head_of kind (from_be_bytes w32 len)) o) (λ head. byte ∷ len ≡ head_bytes head.kind head.len)
    by_kind None is = tt
    by_kind (Some kind) is = cons_is byte (kind_byte kind) len (to_be_bytes w32 (from_be_bytes w32 len)) is (sym (wide32.back len four (λ i. fits (suc i))))

pub found_so : (bytes : List ℕ) (head : FrameHead) → length bytes ≡ 5 → IsBytes bytes → Some head ≡ head_in bytes → bytes ≡ head_bytes head.kind head.len
found_so bytes head size fits is = rw (← is) at (head_found bytes size fits)
