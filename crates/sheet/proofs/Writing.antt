-- Texts that are written in order.
use Rattle.std.specs.Prelude.{OnOk, OnErr, IsErr}
use Rattle.std.proofs.Common.{◌≡◌, ℕ, ◌+◌, ◌<◌, List, [], ◌++◌, length, take, drop, get_or, Option, Result, Ok, Err, refl, sym, ◌∙◌, ap, subst}
use Rattle.std.specs.List.{flat_map}
use Rattle.std.specs.Io.KnownBytes.{Appends}
use Rattle.std.specs.Str.{IsUtf8}
use Rattle.std.proofs.KnownBytes.{Appends-nil, Appends-trans}
use Rattle.std.proofs.lemmas.Str.{IsUtf8-nil, IsUtf8-append}
use Rattle.streams.specs.Streams.{AppendsBeginning}
use Rattle.streams.proofs.Beginnings.{AppendsBeginning-front, AppendsBeginning-behind}
use Rattle.sheet.specs.Writing.{Puts, Writes}
use Rattle.sheet.proofs.Joined.{flat_map-take_more, flat_map-parted}

module _ {W : Type 0} {taken : W → Option (List ℕ)} {failed : W → ℕ} {X E : Type 0} where
  -- bytes that have been written, if they make up a text
  pub Writes-put : (old new : W) (bytes text : List ℕ) (r : Result X E) → bytes ≡ text → IsUtf8 text →
      OnOk r (Appends (taken old) (taken new) bytes) → OnOk r (failed new ≡ failed old) →
      OnErr r (AppendsBeginning (taken old) (taken new) bytes) → OnErr r (failed new ≡ failed old + 1) → Writes taken failed old new text r
  Writes-put old new bytes text (Ok x) is utf8 all ok cut_off err = record { written = subst (Appends (taken old) (taken new)) is all; utf8 = utf8; ok = ok; cut_off = tt; err = tt }
  Writes-put old new bytes text (Err e) is utf8 all ok cut_off err = record { written = tt; utf8 = tt; ok = tt; cut_off = subst (AppendsBeginning (taken old) (taken new)) is cut_off; err = err }

  -- nothing has been written yet
  pub Writes-none : (s : W) (x : X) → Writes {E = E} taken failed s s [] (Ok x)
  Writes-none s x = record { written = Appends-nil (taken s); utf8 = IsUtf8-nil; ok = refl; cut_off = tt; err = tt }

  -- a text, followed by another one
  pub Writes-then : {Y F : Type 0} {old mid new : W} {xs ys : List ℕ} {x : X} (r : Result Y F) →
      Writes {E = E} taken failed old mid xs (Ok x) → Writes taken failed mid new ys r → Writes taken failed old new (xs ++ ys) r
  Writes-then (Ok y) one two = record {
    written = Appends-trans _ _ _ _ _ one.written two.written;
    utf8 = IsUtf8-append _ _ one.utf8 two.utf8;
    ok = two.ok ∙ one.ok;
    cut_off = tt;
    err = tt;
  }
  Writes-then (Err f) one two = record {
    written = tt;
    utf8 = tt;
    ok = tt;
    cut_off = AppendsBeginning-behind _ _ _ _ _ one.written two.cut_off;
    err = two.err ∙ ap (λ n. n + 1) one.ok;
  }

  -- a failure is passed on
  pub Writes-failed : {Y F : Type 0} {old new : W} {xs : List ℕ} {e : E} (r : Result Y F) → IsErr r → Writes {X = X} taken failed old new xs (Err e) → Writes taken failed old new xs r
  Writes-failed (Ok y) is cut = absurd (cc is)
  Writes-failed (Err f) is cut = record { written = tt; utf8 = tt; ok = tt; cut_off = cut.cut_off; err = cut.err }

  -- after a failure, nothing more is written
  pub Writes-front : {old new : W} {xs : List ℕ} (ys : List ℕ) (r : Result X E) → IsErr r → Writes taken failed old new xs r → Writes taken failed old new (xs ++ ys) r
  Writes-front ys (Ok x) is cut = absurd (cc is)
  Writes-front ys (Err e) is cut = record { written = tt; utf8 = tt; ok = tt; cut_off = AppendsBeginning-front _ _ _ ys cut.cut_off; err = cut.err }

  -- the texts of the first elements and the text of the next one
  pub Writes-item : {A Y F : Type 0} {old mid new : W} {x : X} (f : A → List ℕ) (items : List A) (i : ℕ) (item : A) (r : Result Y F) → i < length items →
      item ≡ get_or items i item → Writes {E = E} taken failed old mid (flat_map f (take i items)) (Ok x) → Writes taken failed mid new (f item) r →
      Writes taken failed old new (flat_map f (take (i + 1) items)) r
  Writes-item {old = old} {mid = mid} {new = new} f items i item r within is front next =
      let there = subst (λ a. Writes taken failed mid new (f a) r) is next in
      subst (λ text. Writes taken failed old new text r) (sym (flat_map-take_more f items i item within)) (Writes-then r front there)

  -- writing the next element failed, and the failure is passed on: the later ones aren't written
  pub Writes-item_cut : {A : Type 0} {old mid new : W} {x : X} {e : E} (f : A → List ℕ) (items : List A) (i : ℕ) (item : A) (r : Result X E) → i < length items →
      item ≡ get_or items i item → Writes {E = E} taken failed old mid (flat_map f (take i items)) (Ok x) → Writes {X = X} taken failed mid new (f item) (Err e) →
      IsErr r → Writes taken failed old new (flat_map f items) r
  Writes-item_cut {old = old} {new = new} {e = e} f items i item r within is front next failure =
      let cut = Writes-failed r failure (Writes-item {F = E} f items i item (Err e) within is front next) in
      subst (λ text. Writes taken failed old new text r) (flat_map-parted f items (i + 1)) (Writes-front (flat_map f (drop (i + 1) items)) r failure cut)

  -- ---- bytes that are only part of a text

  -- no byte has been written yet
  pub Puts-none : (s : W) (x : X) → Puts {E = E} taken failed s s [] (Ok x)
  Puts-none s x = record { all = Appends-nil (taken s); ok = refl; cut_off = tt; err = tt }

  -- bytes, followed by other bytes
  pub Puts-then : {Y F : Type 0} {old mid new : W} {xs ys : List ℕ} {x : X} (r : Result Y F) →
      Puts {E = E} taken failed old mid xs (Ok x) → Puts taken failed mid new ys r → Puts taken failed old new (xs ++ ys) r
  Puts-then (Ok y) one two = record { all = Appends-trans _ _ _ _ _ one.all two.all; ok = two.ok ∙ one.ok; cut_off = tt; err = tt }
  Puts-then (Err f) one two = record { all = tt; ok = tt; cut_off = AppendsBeginning-behind _ _ _ _ _ one.all two.cut_off; err = two.err ∙ ap (λ n. n + 1) one.ok }

  -- a failure is passed on, and nothing more is written
  pub Puts-failed : {Y F : Type 0} {old new : W} {xs : List ℕ} {e : E} (ys : List ℕ) (r : Result Y F) → IsErr r → Puts {X = X} taken failed old new xs (Err e) → Puts taken failed old new (xs ++ ys) r
  Puts-failed ys (Ok y) is cut = absurd (cc is)
  Puts-failed ys (Err f) is cut = record { all = tt; ok = tt; cut_off = AppendsBeginning-front _ _ _ ys cut.cut_off; err = cut.err }

  -- the bytes of the first elements and those of the next one
  pub Puts-item : {A Y F : Type 0} {old mid new : W} {x : X} (f : A → List ℕ) (items : List A) (i : ℕ) (item : A) (r : Result Y F) → i < length items →
      item ≡ get_or items i item → Puts {E = E} taken failed old mid (flat_map f (take i items)) (Ok x) → Puts taken failed mid new (f item) r →
      Puts taken failed old new (flat_map f (take (i + 1) items)) r
  Puts-item {old = old} {mid = mid} {new = new} f items i item r within is front next =
      let there = subst (λ a. Puts taken failed mid new (f a) r) is next in
      subst (λ bytes. Puts taken failed old new bytes r) (sym (flat_map-take_more f items i item within)) (Puts-then r front there)

  -- writing the bytes of the next element failed, and the failure is passed on
  pub Puts-item_cut : {A : Type 0} {old mid new : W} {x : X} {e : E} (f : A → List ℕ) (items : List A) (i : ℕ) (item : A) (r : Result X E) → i < length items →
      item ≡ get_or items i item → Puts {E = E} taken failed old mid (flat_map f (take i items)) (Ok x) → Puts {X = X} taken failed mid new (f item) (Err e) →
      IsErr r → Puts taken failed old new (flat_map f items) r
  Puts-item_cut {old = old} {new = new} {e = e} f items i item r within is front next failure =
      let cut = Puts-item {F = E} f items i item (Err e) within is front next in
      subst (λ bytes. Puts taken failed old new bytes r) (flat_map-parted f items (i + 1)) (Puts-failed (flat_map f (drop (i + 1) items)) r failure cut)

  -- bytes that make up a text
  pub Writes-puts : {old new : W} {bytes : List ℕ} (r : Result X E) → IsUtf8 bytes → Puts taken failed old new bytes r → Writes taken failed old new bytes r
  Writes-puts r utf8 put = Writes-put _ _ _ _ r refl utf8 put.all put.ok put.cut_off put.err
