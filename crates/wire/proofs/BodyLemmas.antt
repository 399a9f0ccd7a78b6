-- How the buffer of a body is filled.
use Rattle.std.proofs.Common.{◌≡◌, ◌∙◌, ◌<◌, ◌≤◌, ◌+◌, ◌-◌, ◌⊎◌, inl, inr, ℕ, List, Option, Some, None, Result, Ok, Err, [], ◌++◌, length, take, drop, refl, sym, ap, arith, append_assoc, min}
use Rattle.std.specs.Prelude.{IfSome, OnErr}
use Rattle.std.specs.Io.KnownBytes.{Consumes, IsAtEnd, Keeps}
use Rattle.std.proofs.KnownBytes.{Consumes-kept}
use Rattle.std.proofs.Math.Seq.{take-append_seam}
use Rattle.std.proofs.lemmas.Bool.{cases_lt, le-leb, lt-leb}
use Rattle.std.proofs.lemmas.List.{append-nil, length-append, length-take, length-take-le, nil_from_length, take-append-le, take-append-drop, take_all}
use borrow.Rule.Slice.PartMut.{put_mid}
use Rattle.std.proofs.lemmas.Slice.{take-put_mid}
use Rattle.wire.specs.Requests.{HasRead}
use Rattle.wire.specs.Bodies.{body_in}

-- a buffer whose end was filled, returned to its `Vec`
pub back_filled : (items buf front_bytes room : List ℕ) (front size len : ℕ) → len ≡ size → length buf ≡ size → front + length room ≡ size → take front buf ≡ front_bytes
    → take len (put_mid front (length buf - front) buf room ++ drop (length (put_mid front (length buf - front) buf room)) items) ≡ front_bytes ++ room
back_filled items buf front_bytes room front size len there full fits is =
    let whole : take len (put_mid front (length buf - front) buf room) ≡ take front buf ++ room = take-put_mid front (length buf - front) buf room len (omega arith) (omega arith) in
    let long : len ≤ length (put_mid front (length buf - front) buf room) =
    omega (arith, ap length whole, length-take len (put_mid front (length buf - front) buf room), length-append (take front buf) room, length-take-le front buf (omega arith)) in
    take-append-le len (put_mid front (length buf - front) buf room) _ long ∙ whole ∙ ap (λ s. s ++ room) is

-- the smaller of two numbers is one of them
pub one_of_min : (a b m : ℕ) → m ≡ min a b → (m ≡ a) ⊎ (m ≡ b)
one_of_min a b m is = by_order (cases_lt a b)
  where
    by_order : (a < b) ⊎ (b ≤ a) → (m ≡ a) ⊎ (m ≡ b)
    by_order (inl less) = inl (omega arith)
    by_order (inr more) = inr (omega arith)

-- the bytes ended before the buffer was full
pub ends_before : (old mid new : Option (List ℕ)) (room : List ℕ) (filled : ℕ) → filled < length room → Consumes old mid (take filled room) → Consumes mid new [] → IsAtEnd new
    → IfSome old (λ left. length left < length room)
ends_before None mid new room filled few took more ended = tt
ends_before (Some left) None new room filled few took more ended = absurd took
ends_before (Some left) (Some ys) None room filled few took more ended = absurd more
ends_before (Some left) (Some ys) (Some zs) room filled few took more ended =
    let nothing : ys ≡ [] = more ∙ ended in
    let rest : left ≡ take filled room = took ∙ ap (λ s. take filled room ++ s) nothing ∙ append-nil (take filled room) in
    let len : length left ≡ filled = ap length rest ∙ length-take-le filled room (omega arith) in
    omega arith

-- the source failed before the buffer was full
pub HasRead-few : {A E : Type 0} (old mid new : Option (List ℕ)) (room : List ℕ) (filled size : ℕ) (r : Result A E) → filled ≤ length room → filled < size
    → Consumes old mid (take filled room) → Keeps mid new
    → OnErr r (HasRead old new (λ got. length got < size))
HasRead-few old mid new room filled size (Ok x) within few took kept = tt
HasRead-few old mid new room filled size (Err e) within few took kept =
    let len = length-take-le filled room within in
    (take filled room, Consumes-kept old mid new (take filled room) took kept, omega (arith, len))

-- enough bytes follow the head, beginning with the body
enough : (body others : List ℕ) (size : ℕ) → length body ≡ size → Some body ≡ body_in size (body ++ others)
enough body others size is =
    let fits : size ≤ length (body ++ others) = omega (arith, length-append body others) in
    let own : take size (body ++ others) ≡ body = ap (λ n. take n (body ++ others)) (sym is) ∙ take-append_seam body others in
    rw (le-leb size (length (body ++ others)) fits, own) refl

-- the bytes after the head are the body followed by others; the body consists of the bytes read along with the head, as far as they belong to it, and of those in the buffer
follows : (behind room left rest : List ℕ) (front size : ℕ) → front ≤ length behind → front + length room ≡ size → (front ≡ length behind) ⊎ (front ≡ size) → left ≡ room ++ rest
    → (others : List ℕ) × (behind ++ left ≡ (take front behind ++ room) ++ others)
follows behind room left rest front size within is (inl all) e = (
  rest,
  ap (λ s. s ++ left) (sym (take_all front behind (omega arith))) ∙ ap (λ s. take front behind ++ s) e ∙ sym (append_assoc (take front behind) room rest),
)
follows behind room left rest front size within is (inr all) e = (
  drop front behind ++ left,
  let none : room ≡ [] = nil_from_length room (omega arith) in
      ap (λ s. s ++ left) (sym (take-append-drop front behind)) ∙ append_assoc (take front behind) (drop front behind) left
      ∙ ap (λ s. s ++ (drop front behind ++ left)) (sym (append-nil (take front behind)) ∙ ap (λ s. take front behind ++ s) (sym none)),
)

-- the whole body was read
pub body_in-whole : (old new : Option (List ℕ)) (behind room body : List ℕ) (front size : ℕ) → body ≡ take front behind ++ room → front ≤ length behind → front + length room ≡ size
    → (front ≡ length behind) ⊎ (front ≡ size) → Consumes old new room → IfSome old (λ left. Some body ≡ body_in size (behind ++ left))
body_in-whole None new behind room body front size is within count all took = tt
body_in-whole (Some left) None behind room body front size is within count all took = absurd took
body_in-whole (Some left) (Some rest) behind room body front size is within count all took =
    let (others, there) = follows behind room left rest front size within count all took in
    let len : length body ≡ size = ap length is ∙ omega (arith, length-append (take front behind) room, length-take-le front behind within) in
    enough body others size len ∙ ap (body_in size) (ap (λ s. s ++ others) is ∙ sym there)

-- the bytes ended before the body did
pub body_in-cut : (old : Option (List ℕ)) (behind room : List ℕ) (front size : ℕ) → front + length room ≡ size → (front ≡ length behind) ⊎ (front ≡ size)
    → IfSome old (λ left. length left < length room) → IfSome old (λ left. None ≡ body_in size (behind ++ left))
body_in-cut None behind room front size fits all few = tt
body_in-cut (Some left) behind room front size fits (inl all) few =
    let short : length (behind ++ left) < size = omega (arith, length-append behind left) in
    rw (lt-leb size (length (behind ++ left)) short) refl
body_in-cut (Some left) behind room front size fits (inr all) few = absurd (omega arith)
