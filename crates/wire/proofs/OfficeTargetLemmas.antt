-- The target of a console read names exactly the read whose path it is.
use Rattle.std.proofs.Common.{◌≡◌, ◌∙◌, ◌-◌, ◌==◌, ◌&&◌, ◌∷◌, ◌++◌, ℕ, Bool, true, false, List, [], Option, Some, None, ap, arith, codes, drop, length, not, refl, subst, sym, take}
use Rattle.std.specs.Prelude.{bytes_eq, if◌then◌else◌, nat_eq, nat_le, option_map}
use Rattle.std.specs.Char.{is_ascii_digit}
use Rattle.std.specs.List.{list_all, prefix_len, starts_with}
use Rattle.std.proofs.Math.Seq.{drop-append_seam, take-append_seam}
use Rattle.std.proofs.lemmas.Bool.{and_parts}
use Rattle.std.proofs.lemmas.Bool.Decides.{Decides-eqb}
use Rattle.std.proofs.lemmas.List.{append-nil, length-drop, take-append-drop, take_all}
use Rattle.std.proofs.lemmas.Slice.Eq.{bytes_eq-Decides, starts_is}
use Rattle.wire.specs.Numbers.{is_number, most_digits, number_in}
use Rattle.wire.specs.OfficeTargets.{IsReadTarget, actor_in, batch_read, after_digits, leading_number, numbered_read, of_batch, of_ward, read_by, ward_read}
use Rattle.wire.specs.Targets.{named_by}
use Rattle.wire.specs.declared.office_read.OfficeRead.{OfficeRead}
use Rattle.wire.specs.declared.office_read.OfficeRead.TheVariants.{Wards, Ward, Batches, Doubtful, Differences, Papers, Receipts}
use Rattle.wire.specs.declared.target.Resource.TheVariants.{Office as Reads}
use Rattle.wire.specs.declared.target.Target.TheVariants.{Resource}
use Rattle.wire.proofs.PartLemmas.{chosen-true}

-- ---- a number, and what follows it

-- the text of a number consists of digits
pub number-digits : (part : List ℕ) (n : ℕ) → number_in part ≡ Some n → list_all is_ascii_digit part ≡ true
number-digits [] n is = refl
number-digits (b ∷ bs) n is =
    let test = chosen-true (is_number (b ∷ bs)) _ n is in
    let all = and_parts (not (b == 48)) (nat_le (length (b ∷ bs)) most_digits && list_all is_ascii_digit (b ∷ bs)) test in
    (and_parts (nat_le (length (b ∷ bs)) most_digits) (list_all is_ascii_digit (b ∷ bs)) all.1).1

-- the number of leading digits, if what follows them doesn't begin with a digit
digits-first : (part rest : List ℕ) → list_all is_ascii_digit part ≡ true → prefix_len is_ascii_digit rest ≡ 0 → prefix_len is_ascii_digit (part ++ rest) ≡ length part
digits-first [] rest digits none = none
digits-first (d ∷ part) rest digits none =
    let both = and_parts (is_ascii_digit d) (list_all is_ascii_digit part) digits in
    let more = digits-first part rest both.1 none in
    rw both.0 (omega (arith, more))

module _ (part rest : List ℕ) (n : ℕ) (own : number_in part ≡ Some n) (none : prefix_len is_ascii_digit rest ≡ 0) where
  pub number-first : leading_number (part ++ rest) ≡ Some n
  number-first = ap (λ k. number_in (take k (part ++ rest))) (digits-first part rest (number-digits part n own) none) ∙ ap number_in (take-append_seam part rest) ∙ own

  pub rest-behind : after_digits (part ++ rest) ≡ rest
  rest-behind = ap (λ k. drop k (part ++ rest)) (digits-first part rest (number-digits part n own) none) ∙ drop-append_seam part rest

  ward-numbered : ward_read (part ++ rest) ≡ of_ward rest n
  ward-numbered = rw (number-first, rest-behind) refl

  batch-numbered : batch_read (part ++ rest) ≡ of_batch rest n
  batch-numbered = rw (number-first, rest-behind) refl

-- ---- what is read, by the first word of the target that matches

-- what follows the first n bytes of a target
tail-of : (n : ℕ) (target : List ℕ) → take (length target - n) (drop n target) ≡ drop n target
tail-of n target = take_all (length target - n) (drop n target) (omega (arith, length-drop n target))

module _ (target : List ℕ) where
  pub of-wards : (r : Option OfficeRead) → starts_with nat_eq target (codes "/office/wards/") ≡ true → r ≡ ward_read (take (length target - 14) (drop 14 target))
      → r ≡ numbered_read target
  of-wards r begins is = is ∙ ap ward_read (tail-of 14 target) ∙ sym (rw begins refl)

  pub of-batches : (r : Option OfficeRead) → starts_with nat_eq target (codes "/office/wards/") ≡ false → starts_with nat_eq target (codes "/office/batches/") ≡ true
      → r ≡ batch_read (take (length target - 16) (drop 16 target)) → r ≡ numbered_read target
  of-batches r not_wards begins is = is ∙ ap batch_read (tail-of 16 target) ∙ sym (rw (not_wards, begins) refl)

  pub of-actor : (actor : Option ℕ) → starts_with nat_eq target (codes "/office/wards/") ≡ false → starts_with nat_eq target (codes "/office/batches/") ≡ false
      → starts_with nat_eq target (codes "/office/receipts?actor=") ≡ true → actor ≡ actor_in (take (length target - 23) (drop 23 target))
      → option_map (λ n. Receipts (Some n)) actor ≡ numbered_read target
  of-actor actor not_wards not_batches begins is =
      ap (option_map (λ n. Receipts (Some n))) (is ∙ ap actor_in (tail-of 23 target)) ∙ sym (rw (not_wards, not_batches, begins) refl)

-- ---- a target of a read names it

pub read-named : (target : List ℕ) (read : OfficeRead) → IsReadTarget read target → named_by target ≡ Some (Resource (Reads read))
read-named target Wards is = ap named_by is
read-named target (Ward n) (part, is, own) =
    ap named_by (is ∙ ap (λ p. codes "/office/wards/" ++ p) (sym (append-nil part))) ∙ rw (ward-numbered part [] n own refl) refl
read-named target (Batches n) (part, is, own) = ap named_by is ∙ rw (ward-numbered part (codes "/batches") n own refl) refl
read-named target (Doubtful n) (part, is, own) = ap named_by is ∙ rw (ward-numbered part (codes "/doubtful") n own refl) refl
read-named target (Differences n) (part, is, own) = ap named_by is ∙ rw (batch-numbered part (codes "/differences") n own refl) refl
read-named target (Papers n) (part, is, own) = ap named_by is ∙ rw (batch-numbered part (codes "/papers") n own refl) refl
read-named target (Receipts None) is = ap named_by is
read-named target (Receipts (Some actor)) (part, is, own) = ap named_by is ∙ rw own refl

-- ---- and no other target does

-- what a successful comparison with a text shows: the target is this text, and names this read
same-text : (text word target : List ℕ) (one read : OfficeRead) → (text ≡ word → IsReadTarget one target) → bytes_eq text word ≡ true → Some one ≡ Some read → IsReadTarget read target
same-text text word target one read own same named =
    let is : one ≡ read = cc in
    subst (λ r. IsReadTarget r target) is (own ((bytes_eq-Decides text word).0 same))

module _ (target part rest : List ℕ) (n : ℕ) (read : OfficeRead) (own : number_in part ≡ Some n) where
  of_ward-own : target ≡ codes "/office/wards/" ++ (part ++ rest) → of_ward rest n ≡ Some read → IsReadTarget read target
  of_ward-own is named = whole (bytes_eq rest []) refl named
    where
      at : (word : List ℕ) → rest ≡ word → target ≡ codes "/office/wards/" ++ (part ++ word)
      at word same = is ∙ ap (λ r. codes "/office/wards/" ++ (part ++ r)) same

      doubtful : (b : Bool) → bytes_eq rest (codes "/doubtful") ≡ b → (if b then Some (Doubtful n) else None) ≡ Some read → IsReadTarget read target
      doubtful true same named = same-text rest (codes "/doubtful") target (Doubtful n) read (λ e. (part, at (codes "/doubtful") e, own)) same named
      doubtful false other named = let no : ⊥ = cc in absurd no

      batches : (b : Bool) → bytes_eq rest (codes "/batches") ≡ b
          → (if b then Some (Batches n) else (if bytes_eq rest (codes "/doubtful") then Some (Doubtful n) else None)) ≡ Some read → IsReadTarget read target
      batches true same named = same-text rest (codes "/batches") target (Batches n) read (λ e. (part, at (codes "/batches") e, own)) same named
      batches false other named = doubtful (bytes_eq rest (codes "/doubtful")) refl named

      whole : (b : Bool) → bytes_eq rest [] ≡ b
          → (if b then Some (Ward n) else (if bytes_eq rest (codes "/batches") then Some (Batches n) else (if bytes_eq rest (codes "/doubtful") then Some (Doubtful n) else None)))
          ≡ Some read → IsReadTarget read target
      whole true same named =
          same-text rest [] target (Ward n) read (λ e. (part, at [] e ∙ ap (λ p. codes "/office/wards/" ++ p) (append-nil part), own)) same named
      whole false other named = batches (bytes_eq rest (codes "/batches")) refl named

  of_batch-own : target ≡ codes "/office/batches/" ++ (part ++ rest) → of_batch rest n ≡ Some read → IsReadTarget read target
  of_batch-own is named = differences (bytes_eq rest (codes "/differences")) refl named
    where
      at : (word : List ℕ) → rest ≡ word → target ≡ codes "/office/batches/" ++ (part ++ word)
      at word same = is ∙ ap (λ r. codes "/office/batches/" ++ (part ++ r)) same

      papers : (b : Bool) → bytes_eq rest (codes "/papers") ≡ b → (if b then Some (Papers n) else None) ≡ Some read → IsReadTarget read target
      papers true same named = same-text rest (codes "/papers") target (Papers n) read (λ e. (part, at (codes "/papers") e, own)) same named
      papers false other named = let no : ⊥ = cc in absurd no

      differences : (b : Bool) → bytes_eq rest (codes "/differences") ≡ b
          → (if b then Some (Differences n) else (if bytes_eq rest (codes "/papers") then Some (Papers n) else None)) ≡ Some read → IsReadTarget read target
      differences true same named = same-text rest (codes "/differences") target (Differences n) read (λ e. (part, at (codes "/differences") e, own)) same named
      differences false other named = papers (bytes_eq rest (codes "/papers")) refl named

-- after the prefix that all targets of one kind share
module _ (target behind : List ℕ) (read : OfficeRead) where
  abbrev digits : ℕ
  digits = prefix_len is_ascii_digit behind

  parted : (word : List ℕ) → target ≡ word ++ behind → target ≡ word ++ (take digits behind ++ drop digits behind)
  parted word is = is ∙ ap (λ b. word ++ b) (sym (take-append-drop digits behind))

  ward-own : target ≡ codes "/office/wards/" ++ behind → ward_read behind ≡ Some read → IsReadTarget read target
  ward-own is named = by (leading_number behind) refl named
    where
      by : (number : Option ℕ) → leading_number behind ≡ number → ward_read behind ≡ Some read → IsReadTarget read target
      by None found named =
          let turned = rw found at named in
          let no : ⊥ = cc in
          absurd no
      by (Some n) found named = of_ward-own target (take digits behind) (drop digits behind) n read found (parted (codes "/office/wards/") is) (rw found at named)

  batch-own : target ≡ codes "/office/batches/" ++ behind → batch_read behind ≡ Some read → IsReadTarget read target
  batch-own is named = by (leading_number behind) refl named
    where
      by : (number : Option ℕ) → leading_number behind ≡ number → batch_read behind ≡ Some read → IsReadTarget read target
      by None found named =
          let turned = rw found at named in
          let no : ⊥ = cc in
          absurd no
      by (Some n) found named = of_batch-own target (take digits behind) (drop digits behind) n read found (parted (codes "/office/batches/") is) (rw found at named)

  actor-own : target ≡ codes "/office/receipts?actor=" ++ behind → (actor : Option ℕ) → actor_in behind ≡ actor → option_map (λ n. Receipts (Some n)) actor ≡ Some read → IsReadTarget read target
  actor-own is None found named = let no : ⊥ = cc in absurd no
  actor-own is (Some n) found named =
      let same : Receipts (Some n) ≡ read = cc in
      subst (λ r. IsReadTarget r target) same (behind, is, found)

-- a target that begins with a word is that word followed by the rest
pub begun : (target word : List ℕ) → starts_with nat_eq target word ≡ true → target ≡ word ++ drop (length word) target
begun target word begins = (starts_is Decides-eqb target word (starts_with nat_eq target word) refl).0 begins

module _ (target : List ℕ) (read : OfficeRead) where
  abbrev actor_or : Bool → Option OfficeRead
  actor_or b = if b then option_map (λ actor. Receipts (Some actor)) (actor_in (drop 23 target)) else None

  abbrev batch_or : Bool → Option OfficeRead
  batch_or b = if b then batch_read (drop 16 target) else actor_or (starts_with nat_eq target (codes "/office/receipts?actor="))

  numbered-own : numbered_read target ≡ Some read → IsReadTarget read target
  numbered-own named = wards (starts_with nat_eq target (codes "/office/wards/")) refl named
    where
      actors : (b : Bool) → starts_with nat_eq target (codes "/office/receipts?actor=") ≡ b → actor_or b ≡ Some read → IsReadTarget read target
      actors true begins named = actor-own target (drop 23 target) read (begun target (codes "/office/receipts?actor=") begins) (actor_in (drop 23 target)) refl named
      actors false other named = let no : ⊥ = cc in absurd no

      batches : (b : Bool) → starts_with nat_eq target (codes "/office/batches/") ≡ b → batch_or b ≡ Some read → IsReadTarget read target
      batches true begins named = batch-own target (drop 16 target) read (begun target (codes "/office/batches/") begins) named
      batches false other named = actors (starts_with nat_eq target (codes "/office/receipts?actor=")) refl named

      wards : (b : Bool) → starts_with nat_eq target (codes "/office/wards/") ≡ b
          → (if b then ward_read (drop 14 target) else batch_or (starts_with nat_eq target (codes "/office/batches/"))) ≡ Some read → IsReadTarget read target
      wards true begins named = ward-own target (drop 14 target) read (begun target (codes "/office/wards/") begins) named
      wards false other named = batches (starts_with nat_eq target (codes "/office/batches/")) refl named

  pub read-own : read_by target ≡ Some read → IsReadTarget read target
  read-own named = wards (bytes_eq target (codes "/office/wards")) refl named
    where
      receipts : (b : Bool) → bytes_eq target (codes "/office/receipts") ≡ b → (if b then Some (Receipts None) else numbered_read target) ≡ Some read → IsReadTarget read target
      receipts true same named = same-text target (codes "/office/receipts") target (Receipts None) read (λ e. e) same named
      receipts false other named = numbered-own named

      wards : (b : Bool) → bytes_eq target (codes "/office/wards") ≡ b
          → (if b then Some Wards else (if bytes_eq target (codes "/office/receipts") then Some (Receipts None) else numbered_read target)) ≡ Some read → IsReadTarget read target
      wards true same named = same-text target (codes "/office/wards") target Wards read (λ e. e) same named
      wards false other named = receipts (bytes_eq target (codes "/office/receipts")) refl named
