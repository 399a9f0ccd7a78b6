-- The bytes drawn, one draw after another.
use Rattle.std.proofs.Common.{◌≡◌, ◌∙◌, ◌+◌, ◌-◌, ◌*◌, ◌<◌, ◌≤◌, ◌++◌, ◌∷◌, Bool, true, false, List, [], None}
use Rattle.std.proofs.Common.{Option, Some, ap, append-nil, append_assoc, arith, inl, inr, length, length-append, not, refl, sym, ℕ}
use Rattle.std.specs.List.{concat, cons_option, list_all}
use Rattle.std.specs.Io.KnownBytes.{append_known}
use Rattle.std.proofs.lemmas.Bool.{and_from, eq-eqb}
use Rattle.std.proofs.lemmas.List.Elements.{filter_map-append}
use Rattle.std.proofs.lemmas.List.Folds.{concat-append, list_all-append}
use Rattle.codes.specs.Drawing.{AreDrawn, IsDraw, IsDrawn, IsInVain, IsMadeByDraws, IsShort, IsUndrawn, IsUnmadeByDraws, IsUnwritten, is_vain, most_bytes, most_files}
use Rattle.codes.specs.Files.{file_in}
use Rattle.codes.specs.Making.{is_file_for, letter_of, letters_drawn, letters_with, text_with}
use Rattle.codes.specs.declared.fault.CodesFault.TheVariants.{BadRandom, NoRandom}
use Rattle.codes.specs.declared.fault.CodesError.{CodesError}
use Rattle.codes.specs.declared.fault.CodesError.TheVariants.{Fault, Memory}
use Rattle.codes.specs.declared.range.ClerkRange.{ClerkRange}
use Rattle.codes.proofs.LetterLemmas.{one_letter}

-- ---- known bytes

known_none : (a : Option (List ℕ)) → a ≡ append_known a []
known_none None = refl
known_none (Some xs) = ap (λ (ys : List ℕ). let o : Option (List ℕ) = Some ys in o) (sym (append-nil xs))

known_then : (a : Option (List ℕ)) (bs cs : List ℕ) → append_known (append_known a bs) cs ≡ append_known a (bs ++ cs)
known_then None bs cs = refl
known_then (Some xs) bs cs = ap (λ (ys : List ℕ). let o : Option (List ℕ) = Some ys in o) (append_assoc xs bs cs)

-- bytes that were drawn, followed by more bytes
known_more : (a b c : Option (List ℕ)) (bs cs : List ℕ) → b ≡ append_known a bs → c ≡ append_known b cs → c ≡ append_known a (bs ++ cs)
known_more a b c bs cs first second = second ∙ ap (λ (o : Option (List ℕ)). append_known o cs) first ∙ known_then a bs cs

-- ---- letters

pub draw_some : (old new : Option (List ℕ)) (byte letter : ℕ) (before after : List ℕ)
    → new ≡ append_known old (byte ∷ []) → Some letter ≡ letter_of byte → after ≡ before ++ letter ∷ [] → IsDraw old new before after
draw_some old new byte letter before after drew is put =
    record { byte = byte; drew = drew; letters = put ∙ ap (λ (o : Option ℕ). before ++ cons_option o []) is }

pub draw_none : (old new : Option (List ℕ)) (byte : ℕ) (before : List ℕ)
    → new ≡ append_known old (byte ∷ []) → None ≡ letter_of byte → IsDraw old new before before
draw_none old new byte before drew is =
    record { byte = byte; drew = drew; letters = sym (append-nil before) ∙ ap (λ (o : Option ℕ). before ++ cons_option o []) is }

-- the given number of bytes are left to be drawn, out of the maximum, and the bytes drawn so far yield the given letters
pub record IsDrawing (old new : Option (List ℕ)) (letters : List ℕ) (most left : ℕ) : Type 0 where
  pub own : List ℕ
  pub drew : new ≡ append_known old own
  pub are : letters ≡ letters_drawn own
  pub spent : length own + left ≡ most

pub drawing_none : (old : Option (List ℕ)) (most : ℕ) → IsDrawing old old [] most most
drawing_none old most = record { own = []; drew = known_none old; are = refl; spent = omega arith }

pub drawing_next : (old mid new : Option (List ℕ)) (before after : List ℕ) (most left : ℕ)
    → IsDrawing old mid before most left → IsDraw mid new before after → 0 < left → IsDrawing old new after most (left - 1)
drawing_next old mid new before after most left it one some =
    let longer : length (it.own ++ one.byte ∷ []) ≡ length it.own + 1 = length-append it.own (one.byte ∷ []) in
    record {
      own = it.own ++ one.byte ∷ [];
      drew = known_more old mid new it.own (one.byte ∷ []) it.drew one.drew;
      are = one.letters ∙ ap (λ (ls : List ℕ). ls ++ letters_drawn (one.byte ∷ [])) it.are ∙ sym (filter_map-append letter_of it.own (one.byte ∷ []));
      spent = omega (arith, longer, it.spent, some);
    }

pub draw_grows : (old new : Option (List ℕ)) (before after : List ℕ) → IsDraw old new before after → length after ≤ length before + 1
draw_grows old new before after one =
    let longer : length after ≡ length before + length (letters_drawn (one.byte ∷ [])) =
    ap (λ (ls : List ℕ). length ls) one.letters ∙ length-append before (letters_drawn (one.byte ∷ [])) in
    omega (arith, longer, one_letter one.byte)

pub all_drawn : (clerks : ClerkRange) (office : Bool) (old new : Option (List ℕ)) (letters : List ℕ) (most left : ℕ)
    → IsDrawing old new letters most left → length letters ≡ letters_with clerks office → AreDrawn clerks office old new letters
all_drawn clerks office old new letters most left it enough = record { own = it.own; drew = it.drew; are = it.are; enough = enough }

pub too_few : (clerks : ClerkRange) (office : Bool) (old new : Option (List ℕ)) (letters : List ℕ) (most left : ℕ)
    → IsDrawing old new letters most left → left ≡ 0 → most ≡ most_bytes * letters_with clerks office → length letters < letters_with clerks office → IsShort clerks office old new
too_few clerks office old new letters most left it none all few =
    let same : length letters ≡ length (letters_drawn it.own) = ap (λ (ls : List ℕ). length ls) it.are in
    let many : length it.own ≡ most = omega (arith, it.spent, none) in
    record { own = it.own; drew = it.drew; few = record { many = many ∙ all; few = omega (arith, same, few) } }

-- ---- texts

pub text_drawn : (clerks : ClerkRange) (office : Bool) (old new : Option (List ℕ)) (letters text : List ℕ)
    → AreDrawn clerks office old new letters → text ≡ text_with clerks office letters → IsDrawn clerks office old new text
text_drawn clerks office old new letters text it is =
    record {
      own = it.own;
      drew = it.drew;
      enough = ap (λ (ls : List ℕ). length ls) (sym it.are) ∙ it.enough;
      is = is ∙ ap (text_with clerks office) it.are;
    }

-- the given number of texts are left to be drawn, out of the maximum, and none of those drawn so far is a codes file
pub record HasDrawn (clerks : ClerkRange) (office : Bool) (old new : Option (List ℕ)) (left : ℕ) : Type 0 where
  pub earlier : List (List ℕ)
  pub drew : new ≡ append_known old (concat earlier)
  pub vain : list_all (is_vain clerks office) earlier ≡ true
  pub many : length earlier + left ≡ most_files

pub none_drawn : (clerks : ClerkRange) (office : Bool) (old : Option (List ℕ)) → HasDrawn clerks office old old most_files
none_drawn clerks office old = record { earlier = []; drew = known_none old; vain = refl; many = refl }

is_not : (clerks : ClerkRange) (office : Bool) (text own : List ℕ) → length (letters_drawn own) ≡ letters_with clerks office → text ≡ text_with clerks office (letters_drawn own)
    → is_file_for clerks office (file_in text) ≡ false → is_vain clerks office own ≡ true
is_not clerks office text own enough is bad =
    and_from _ _ (eq-eqb (length (letters_drawn own)) (letters_with clerks office) enough)
    (ap not (ap (λ (t : List ℕ). is_file_for clerks office (file_in t)) (sym is) ∙ bad))

pub one_more : (clerks : ClerkRange) (office : Bool) (old mid new : Option (List ℕ)) (text : List ℕ) (left : ℕ)
    → HasDrawn clerks office old mid left → IsDrawn clerks office mid new text → is_file_for clerks office (file_in text) ≡ false → 0 < left → HasDrawn clerks office old new (left - 1)
one_more clerks office old mid new text left it one bad some =
    let joined : concat (it.earlier ++ one.own ∷ []) ≡ concat it.earlier ++ one.own =
    concat-append it.earlier (one.own ∷ []) ∙ ap (λ (bs : List ℕ). concat it.earlier ++ bs) (append-nil one.own) in
    let longer : length (it.earlier ++ one.own ∷ []) ≡ length it.earlier + 1 = length-append it.earlier (one.own ∷ []) in
    record {
      earlier = it.earlier ++ one.own ∷ [];
      drew = known_more old mid new (concat it.earlier) one.own it.drew one.drew ∙ ap (append_known old) (sym joined);
      vain =
          list_all-append (is_vain clerks office) it.earlier (one.own ∷ [])
          ∙ and_from _ _ it.vain (and_from _ _ (is_not clerks office text one.own one.enough one.is bad) refl);
      many = omega (arith, longer, it.many, some);
    }

pub made_of : (clerks : ClerkRange) (office : Bool) (old mid new : Option (List ℕ)) (text : List ℕ) (left : ℕ)
    → HasDrawn clerks office old mid left → IsDrawn clerks office mid new text → IsMadeByDraws clerks office old new text
made_of clerks office old mid new text left it one =
    record {
      earlier = it.earlier;
      own = one.own;
      drew = known_more old mid new (concat it.earlier) one.own it.drew one.drew;
      vain = it.vain;
      enough = one.enough;
      is = one.is;
    }

pub all_vain : (clerks : ClerkRange) (office : Bool) (old new : Option (List ℕ)) (left : ℕ) → HasDrawn clerks office old new left → left ≤ 0 → IsInVain clerks office old new
all_vain clerks office old new left it none =
    let many : length it.earlier ≡ most_files = omega (arith, it.many, none) in
    record { earlier = it.earlier; own = []; drew = it.drew ∙ ap (append_known old) (sym (append-nil (concat it.earlier))); vain = it.vain; ends = inl (many, refl) }

-- ---- errors

pub undrawn : (clerks : ClerkRange) (office : Bool) (failed failed_mid failed_then : ℕ) (old new : Option (List ℕ)) (why : CodesError)
    → failed_mid ≡ failed → IsUndrawn failed_mid failed_then why → IsUnwritten clerks office failed failed_then old new why
undrawn clerks office failed failed_mid failed_then old new Memory same is = is ∙ same
undrawn clerks office failed failed_mid failed_then old new (Fault NoRandom) same is = is ∙ ap (λ n. n + 1) same
undrawn clerks office failed failed_mid failed_then old new (Fault other) same is = absurd is

pub unmade : (clerks : ClerkRange) (office : Bool) (failed failed_mid failed_then : ℕ) (old mid new : Option (List ℕ)) (left : ℕ) (why : CodesError)
    → HasDrawn clerks office old mid left → failed_mid ≡ failed → IsUnwritten clerks office failed_mid failed_then mid new why → IsUnmadeByDraws clerks office failed failed_then old new why
unmade clerks office failed failed_mid failed_then old mid new left Memory it same is = is ∙ same
unmade clerks office failed failed_mid failed_then old mid new left (Fault NoRandom) it same is = is ∙ ap (λ n. n + 1) same
unmade clerks office failed failed_mid failed_then old mid new left (Fault BadRandom) it same is = (
  is.0 ∙ same,
  record {
    earlier = it.earlier;
    own = is.1.own;
    drew = known_more old mid new (concat it.earlier) is.1.own it.drew is.1.drew;
    vain = it.vain;
    ends = inr is.1.few;
  },
)
unmade clerks office failed failed_mid failed_then old mid new left (Fault other) it same is = absurd is
