-- What all iterations of the loop that reads a head achieve together, and that there is only one head.
use Rattle.std.proofs.Common.{◌≡◌, ◌∙◌, ◌≤◌, ◌+◌, ℕ, List, Option, Some, None, [], ◌∷◌, ◌++◌, length, take, drop, refl, sym, ap, arith, append_assoc}
use Rattle.std.specs.Prelude.{IfSome}
use Rattle.std.specs.Io.KnownBytes.{Consumes, IsAtEnd}
use Rattle.std.proofs.Math.Seq.{take-append-add}
use Rattle.std.proofs.lemmas.List.{append-nil, length-take-le, take-append-le}
use borrow.Rule.Slice.PartMut.{put_mid, post_of}
use Rattle.httparse.specs.Grammar.{HasNoRequest, print_request}
use Rattle.httparse.specs.Spans.{RequestOverflows}
use Rattle.httparse.proofs.GrammarLemmas.{request_unique}
use Rattle.wire.specs.Heads.{HasNoHead, HasOneHead}

-- ---- an iteration of the loop

front_more : (buf room : List ℕ) (filled n k : ℕ) → filled ≤ length buf → n ≤ length room
    → take (filled + n) (put_mid filled k buf room) ≡ take filled buf ++ take n room
front_more buf room filled n k fits few =
    let len : length (take filled buf) ≡ filled = length-take-le filled buf fits in
    let step = take-append-add (take filled buf) (room ++ post_of filled k buf) n in
    (rw len at step) ∙ ap (λ xs. take filled buf ++ xs) (take-append-le n room (post_of filled k buf) few)

-- the bytes that were consumed first, followed by those consumed next
pub Consumes-more : (old mid new : Option (List ℕ)) (buf room : List ℕ) (filled n k : ℕ) → filled ≤ length buf → n ≤ length room
    → Consumes old mid (take filled buf) → Consumes mid new (take n room) → Consumes old new (take (filled + n) (put_mid filled k buf room))
Consumes-more None mid new buf room filled n k fits few a b = tt
Consumes-more (Some xs) None new buf room filled n k fits few a b = absurd a
Consumes-more (Some xs) (Some ys) None buf room filled n k fits few a b = b
Consumes-more (Some xs) (Some ys) (Some zs) buf room filled n k fits few a b =
    rw (front_more buf room filled n k fits few) (a ∙ ap (λ s. take filled buf ++ s) b ∙ sym (append_assoc (take filled buf) (take n room) zs))

-- ---- no head

-- the bytes of a head and those after it, split into what was read and what wasn't
parted : (xs got ys front behind : List ℕ) → xs ≡ got ++ ys → xs ≡ front ++ behind → got ++ ys ≡ front ++ behind
parted xs got ys front behind a b = sym a ∙ b

-- the head has too many headers, whatever follows the bytes read so far
pub no_head-overflows : (old new : Option (List ℕ)) (got : List ℕ) → Consumes old new got → RequestOverflows 32 got → IfSome old HasNoHead
no_head-overflows None new got took over = tt
no_head-overflows (Some xs) None got took over = absurd took
no_head-overflows (Some xs) (Some ys) got took over = λ head behind begins.
    let many = over ys head behind (begins.is_head, parted xs got ys _ behind took begins.parts) in
    let few = begins.few in
    absurd (omega arith)

-- if what was read is long enough, it begins with the bytes of the head
pub within : (got ys front behind : List ℕ) → got ++ ys ≡ front ++ behind → length front ≤ length got → got ≡ front ++ drop (length front) got
within got ys [] behind e le = refl
within [] ys (x ∷ front) behind e le = absurd (omega arith)
within (y ∷ got) ys (x ∷ front) behind e le =
    let head : y ≡ x = cc in
    let rest : got ++ ys ≡ front ++ behind = cc in
    let more = within got ys front behind rest (omega arith) in
    ap (λ b. b ∷ got) head ∙ ap (λ l. x ∷ l) more

-- the buffer is full, and its contents don't begin with a head
pub no_head-full : (old new : Option (List ℕ)) (got : List ℕ) → length got ≡ 8192 → Consumes old new got → HasNoRequest got → IfSome old HasNoHead
no_head-full None new got full took none = tt
no_head-full (Some xs) None got full took none = absurd took
no_head-full (Some xs) (Some ys) got full took none = λ head behind begins.
    let short = begins.short in
    none head _ (begins.is_head, within got ys (print_request head) behind (parted xs got ys _ behind took begins.parts) (omega arith))

-- the bytes have ended, and don't begin with a head
pub no_head-ended : (old mid new : Option (List ℕ)) (got : List ℕ) → Consumes old mid got → Consumes mid new [] → IsAtEnd new → HasNoRequest got → IfSome old HasNoHead
no_head-ended None mid new got took more ended none = tt
no_head-ended (Some xs) None new got took more ended none = absurd took
no_head-ended (Some xs) (Some ys) None got took more ended none = absurd more
no_head-ended (Some xs) (Some ys) (Some zs) got took more ended none = λ head behind begins.
    let nothing : ys ≡ [] = more ∙ ended in
    let all : xs ≡ got = took ∙ ap (λ s. got ++ s) nothing ∙ append-nil got in
    none head behind (begins.is_head, sym all ∙ begins.parts)

-- ---- one head

pub HasOneHead-all : (bytes : List ℕ) → HasOneHead bytes
HasOneHead-all bytes one two behind_one behind_two a b = request_unique _ _ _ _ _ (a.is_head, a.parts) (b.is_head, b.parts)
