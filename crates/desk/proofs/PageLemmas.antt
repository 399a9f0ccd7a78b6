-- Texts that are written one after another, and how much of a page was written.
use Rattle.std.proofs.Common.{◌≡◌, ◌≢◌, ◌∙◌, ◌+◌, ◌<◌, inl, inr, ℕ, Bool, true, false, List, [], ◌∷◌, ◌++◌, length}
use Rattle.std.proofs.Common.{take, drop, get_or, Option, Some, None, Result, Ok, Err, refl, sym, ap, arith, subst, eqb-true, ne_eqb}
use Rattle.std.specs.Prelude.{◌==◌, IsErr}
use Rattle.std.specs.Io.KnownBytes.{Appends}
use Rattle.std.specs.List.{flat_map}
use Rattle.std.proofs.KnownBytes.{Appends-nil, Appends-trans}
use Rattle.std.proofs.lemmas.Bool.{true≢false}
use Rattle.std.proofs.lemmas.Grind.{flat_map-append}
use Rattle.std.proofs.lemmas.List.{append-nil, append_assoc, take_more, take-append-drop}
use Rattle.clap.specs.Words.{Text}
use Rattle.streams.proofs.Beginnings.{AppendsBeginning-front, AppendsBeginning-behind}
use Rattle.desk.specs.declared.lines.Failure.TheVariants.{Output}
use Rattle.desk.specs.Pages.{Cut, uncut, cut_behind, cut_error, IsErrorTold, IsOutputBroken, IsPut, IsShown, IsWhole, Outputs}
use Rattle.desk.specs.Pages.{Page, Shows, after_prefix, below, cut_below, empty_page, failed, fronted, line_front, outputs_of, printed, combined_status, unmended}

-- the pieces of another element are appended
pieces_more : {X : Type 0} (f : X → Text) (xs : List X) (i : ℕ) (d : X) → i < length xs → flat_map f (take (i + 1) xs) ≡ flat_map f (take i xs) ++ f (get_or xs i d)
pieces_more f xs i d within =
    ap (flat_map f) (take_more xs i d within) ∙ flat_map-append f (take i xs) (get_or xs i d ∷ []) ∙ ap (λ text. flat_map f (take i xs) ++ text) (append-nil (f (get_or xs i d)))

module _ {W : Type 0} {taken : W → Option (List ℕ)} {failed : W → ℕ} {X E : Type 0} where
  -- nothing has been written yet
  pub put_none : (s : W) (x : X) → IsPut {E = E} taken failed s s [] (Ok x)
  put_none s x = record { all = Appends-nil (taken s); ok = refl; cut_off = tt; err = tt }

  -- a text is written after another one
  pub put_behind : {Y F : Type 0} {old mid new : W} {xs ys : Text} {x : X} (r : Result Y F) → IsPut {E = E} taken failed old mid xs (Ok x) → IsPut taken failed mid new ys r
      → IsPut taken failed old new (xs ++ ys) r
  put_behind (Ok y) one two = record { all = Appends-trans _ _ _ _ _ one.all two.all; ok = two.ok ∙ one.ok; cut_off = tt; err = tt }
  put_behind (Err f) one two = record { all = tt; ok = tt; cut_off = AppendsBeginning-behind _ _ _ _ _ one.all two.cut_off; err = two.err ∙ ap (λ n. n + 1) one.ok }

  -- a failure is propagated: the text that follows isn't written
  pub put_failed : {Y F : Type 0} {old new : W} {xs : Text} {e : E} (ys : Text) (r : Result Y F) → IsErr r → IsPut {X = X} taken failed old new xs (Err e) → IsPut taken failed old new (xs ++ ys) r
  put_failed ys (Ok y) is cut = absurd (cc is)
  put_failed ys (Err f) is cut = record { all = tt; ok = tt; cut_off = AppendsBeginning-front _ _ _ ys cut.cut_off; err = cut.err }

  -- writing the next piece fails, so the pieces after it aren't written
  pub put_next_failed : {A : Type 0} {old mid new : W} {x : X} {e : E} (f : A → Text) (items : List A) (i : ℕ) (d : A) (text : Text) (r : Result X E) → i < length items → text ≡ f (get_or items i d)
      → IsPut {E = E} taken failed old mid (flat_map f (take i items)) (Ok x) → IsPut {X = X} taken failed mid new text (Err e) → IsErr r → IsPut taken failed old new (flat_map f items) r
  put_next_failed {old = old} {mid = mid} {new = new} {e = e} f items i d text r within is front next failure =
      let there = subst (λ a. IsPut {X = X} taken failed mid new a (Err e)) is next in
      let cut = subst (λ t. IsPut {X = X} taken failed old new t (Err e)) (sym (pieces_more f items i d within)) (put_behind {F = E} (Err e) front there) in
      let whole : flat_map f (take (i + 1) items) ++ flat_map f (drop (i + 1) items) ≡ flat_map f items = sym (flat_map-append f (take (i + 1) items) (drop (i + 1) items)) ∙ ap
      (flat_map f) (take-append-drop (i + 1) items) in
      subst (λ t. IsPut taken failed old new t r) whole (put_failed (flat_map f (drop (i + 1) items)) r failure cut)

-- ---- pages

module _ {O E : Type 0} (taken : O → Option (List ℕ)) (failed_out : O → ℕ) (taken_err : E → Option (List ℕ)) (failed_err : E → ℕ) where
  -- a text was printed to the output
  pub text_shown : {X F : Type 0} {x : X} (old new : O) (err : E) (text : Text) → IsPut {E = F} taken failed_out old new text (Ok x)
      → Shows (outputs_of taken failed_out taken_err failed_err old err) (outputs_of taken failed_out taken_err failed_err new err) (printed text) 0
  text_shown old new err text put = (uncut, record { out = put.all; out_failed = put.ok; err = Appends-nil (taken_err err); err_failed = refl; ends = refl })

  -- a prefix of the text was printed, and the failure was reported to the error output
  pub output_broken : {X F : Type 0} {f : F} (old new : O) (err told : E) (text : Text) (status : ℕ) → IsPut {X = X} taken failed_out old new text (Err f)
      → IsErrorTold taken_err failed_err err told (failed Output).err 3 status
      → Shows (outputs_of taken failed_out taken_err failed_err old err) (outputs_of taken failed_out taken_err failed_err new told) (printed text) status
  output_broken old new err told text status put line =
      (cut_behind (take n text), record { out = put.cut_off.appends; begins = (drop n text, take-append-drop n text); out_failed = put.err; told = line })
    where
      n : ℕ
      n = put.cut_off.count

  -- a line was printed to the error output
  pub error_shown : (out : O) (old new : E) (page : Page) (status : ℕ) → page.out ≡ [] → IsErrorTold taken_err failed_err old new page.err page.status status
      → Shows (outputs_of taken failed_out taken_err failed_err out old) (outputs_of taken failed_out taken_err failed_err out new) page status
  error_shown out old new page status none told = elim told [
    | inl whole ↦ (uncut, record { out = rw none (Appends-nil (taken out)); out_failed = refl; err = whole.0; err_failed = whole.1; ends = whole.2 })
    | inr cut ↦ (cut_error, record { out = rw none (Appends-nil (taken out)); out_failed = refl; err = cut.0; err_failed = cut.1; ends = cut.2 })
  ]

-- a page with text for both outputs
module _ {O E : Type 0} (taken : O → Option (List ℕ)) (failed_out : O → ℕ) (taken_err : E → Option (List ℕ)) (failed_err : E → ℕ) where
  -- its text was written, and its line was printed completely or in part
  both_shown : {X F : Type 0} {x : X} (old new : O) (err told : E) (page : Page) (status : ℕ) → IsPut {E = F} taken failed_out old new page.out (Ok x)
      → IsErrorTold taken_err failed_err err told page.err page.status status
      → Shows (outputs_of taken failed_out taken_err failed_err old err) (outputs_of taken failed_out taken_err failed_err new told) page status
  both_shown old new err told page status put line = elim line [
    | inl whole ↦ (uncut, record { out = put.all; out_failed = put.ok; err = whole.0; err_failed = whole.1; ends = whole.2 })
    | inr cut ↦ (cut_error, record { out = put.all; out_failed = put.ok; err = cut.0; err_failed = cut.1; ends = cut.2 })
  ]

  -- a prefix of its text was written, and the failure was reported after its line
  both_broken : {X F : Type 0} {f : F} (old new : O) (err told : E) (page : Page) (status : ℕ) → IsPut {X = X} taken failed_out old new page.out (Err f)
      → IsErrorTold taken_err failed_err err told (page.err ++ (failed Output).err) 3 status
      → Shows (outputs_of taken failed_out taken_err failed_err old err) (outputs_of taken failed_out taken_err failed_err new told) page status
  both_broken old new err told page status put line =
      (cut_behind (take n page.out), record { out = put.cut_off.appends; begins = (drop n page.out, take-append-drop n page.out); out_failed = put.err; told = line })
    where
      n : ℕ
      n = put.cut_off.count

-- the status is 3 if the output failed
pub broken_ends : {took : Text} {old new : Outputs} {page : Page} {status : ℕ} → IsOutputBroken took old new page status → status ≡ 3
broken_ends broken = elim broken.told [
  | inl whole ↦ whole.2
  | inr part ↦ part.2
]

-- ---- pages in sequence

-- the status after an empty page is unchanged
status_first : (status : ℕ) → combined_status 0 status ≡ status
status_first status = by (status == 0) refl
  where
    by : (b : Bool) → (status == 0) ≡ b → combined_status 0 status ≡ status
    by true e = rw e (sym (eqb-true status 0 e))
    by false e = rw e refl

-- a nonzero status replaces any status before it
status_stays : (before status : ℕ) → status ≢ 0 → combined_status before status ≡ status
status_stays before status other = let e : (status == 0) ≡ false = ne_eqb status 0 other in rw e refl

status_joined : (a b c : ℕ) → combined_status (combined_status a b) c ≡ combined_status a (combined_status b c)
status_joined a b c = by (c == 0) refl
  where
    by : (t : Bool) → (c == 0) ≡ t → combined_status (combined_status a b) c ≡ combined_status a (combined_status b c)
    by true e =
        let left : combined_status (combined_status a b) c ≡ combined_status a b = rw e refl in
        let inner : combined_status b c ≡ b = rw e refl in
        left ∙ sym (ap (combined_status a) inner)
    by false e =
        let left : combined_status (combined_status a b) c ≡ c = rw e refl in
        let inner : combined_status b c ≡ c = rw e refl in
        let right : combined_status a c ≡ c = rw e refl in
        left ∙ sym (ap (combined_status a) inner ∙ right)

abbrev made : Text → Text → ℕ → Page
made out err status = record { out = out; err = err; status = status }

-- an empty page before or after a page makes no difference
pub below_first : (page : Page) → below empty_page page ≡ page
below_first page = ap (made page.out page.err) (status_first page.status)

pub below_last : (page : Page) → below page empty_page ≡ page
below_last page = ap (λ out. made out (page.err ++ []) page.status) (append-nil page.out) ∙ ap (λ err. made page.out err page.status) (append-nil page.err)

pub below_joined : (a b c : Page) → below (below a b) c ≡ below a (below b c)
below_joined a b c =
    ap (λ out. made out ((a.err ++ b.err) ++ c.err) (combined_status (combined_status a.status b.status) c.status)) (append_assoc a.out b.out c.out)
    ∙ ap (λ err. made (a.out ++ (b.out ++ c.out)) err (combined_status (combined_status a.status b.status) c.status)) (append_assoc a.err b.err c.err)
    ∙ ap (made (a.out ++ (b.out ++ c.out)) (a.err ++ (b.err ++ c.err))) (status_joined a.status b.status c.status)

-- two pages were written completely, one after the other
pub whole_more : (old mid new : Outputs) (above page : Page) (before status : ℕ) → IsWhole old mid above before → IsWhole mid new page status
    → IsWhole old new (below above page) (combined_status before status)
whole_more old mid new above page before status first next = record {
  out = Appends-trans _ _ _ _ _ first.out next.out;
  out_failed = next.out_failed ∙ first.out_failed;
  err = Appends-trans _ _ _ _ _ first.err next.err;
  err_failed = next.err_failed ∙ first.err_failed;
  ends = ap (λ n. combined_status n status) first.ends ∙ ap (combined_status above.status) next.ends;
}

-- a text was printed to the error output, after a text that was written completely
error_behind : (old mid new : Outputs) (before text : Text) (status : ℕ) → Appends old.err mid.err before → mid.err_failed ≡ old.err_failed
    → IsErrorTold (λ (o : Outputs). o.err) (λ (o : Outputs). o.err_failed) mid new text 3 status
    → IsErrorTold (λ (o : Outputs). o.err) (λ (o : Outputs). o.err_failed) old new (before ++ text) 3 status
error_behind old mid new before text status one same (inl whole) = inl (Appends-trans _ _ _ _ _ one whole.0, whole.1 ∙ same, whole.2)
error_behind old mid new before text status one same (inr part) = inr (AppendsBeginning-behind _ _ _ _ _ one part.0, part.1 ∙ ap (λ n. n + 1) same, part.2)

-- a page with a nonzero status was printed after a page that was written completely
pub shown_last : (cut : Cut) (old mid new : Outputs) (above page : Page) (before status : ℕ) → IsWhole old mid above before → IsShown cut mid new page status → status ≢ 0
    → IsShown (cut_below above.out cut) old new (below above page) status
shown_last uncut old mid new above page before status first next other = record {
  out = Appends-trans _ _ _ _ _ first.out next.out;
  out_failed = next.out_failed ∙ first.out_failed;
  err = Appends-trans _ _ _ _ _ first.err next.err;
  err_failed = next.err_failed ∙ first.err_failed;
  ends = next.ends ∙ sym (status_stays above.status page.status (λ zero. other (next.ends ∙ zero)));
}
shown_last (cut_behind took) old mid new above page before status first next other = record {
  out = Appends-trans _ _ _ _ _ first.out next.out;
  begins = (next.begins.0, append_assoc above.out took next.begins.0 ∙ ap (λ all. above.out ++ all) next.begins.1);
  out_failed = next.out_failed ∙ ap (λ n. n + 1) first.out_failed;
  told = subst (λ text. IsErrorTold (λ (o : Outputs). o.err) (λ (o : Outputs). o.err_failed) old new text 3 status) (sym (append_assoc above.err page.err (failed Output).err))
      (error_behind old mid new above.err (page.err ++ (failed Output).err) status first.err first.err_failed next.told);
}
shown_last cut_error old mid new above page before status first next other = record {
  out = Appends-trans _ _ _ _ _ first.out next.out;
  out_failed = next.out_failed ∙ first.out_failed;
  err = AppendsBeginning-behind _ _ _ _ _ first.err next.err;
  err_failed = next.err_failed ∙ ap (λ n. n + 1) first.err_failed;
  ends = next.ends;
}

-- a page was printed after a page with status 0 that was written completely
pub shown_next : (cut : Cut) (old mid new : Outputs) (above page : Page) (status : ℕ) → above.status ≡ 0 → IsWhole old mid above 0 → IsShown cut mid new page status
    → IsShown (cut_below above.out cut) old new (below above page) status
shown_next uncut old mid new above page status zero first next =
    let both = whole_more old mid new above page 0 status first next in
    record { out = both.out; out_failed = both.out_failed; err = both.err; err_failed = both.err_failed; ends = sym (status_first status) ∙ both.ends }
shown_next (cut_behind took) old mid new above page status zero first next =
    let three : status ≡ 3 = broken_ends next in
    shown_last (cut_behind took) old mid new above page 0 status first next (λ none. absurd (omega arith))
shown_next cut_error old mid new above page status zero first next =
    let three : status ≡ 3 = next.ends in
    shown_last cut_error old mid new above page 0 status first next (λ none. absurd (omega arith))

-- ---- pages for a script's lines

pub fronted_status : (line : Option ℕ) (page : Page) → (fronted line page).status ≡ page.status
fronted_status None page = refl
fronted_status (Some number) page = refl

pub fronted_out : (line : Option ℕ) (page : Page) → (fronted line page).out ≡ page.out
fronted_out None page = refl
fronted_out (Some number) page = refl

-- what goes to the error output follows the line number
pub fronted_err : (line : Option ℕ) (page : Page) (byte : ℕ) (bytes : Text) → page.err ≡ byte ∷ bytes → (fronted line page).err ≡ line_front line ++ page.err
fronted_err None page byte bytes is = refl
fronted_err (Some number) page byte bytes is = ap (after_prefix (line_front (Some number))) is ∙ ap (λ text. line_front (Some number) ++ text) (sym is)

-- an empty text is printed without the line number, and any other after it
pub empty_fronted : (line : Option ℕ) (text : Text) → (length text == 0) ≡ true → text ≡ (fronted line (unmended text)).err
empty_fronted None text none = refl
empty_fronted (Some number) [] none = refl
empty_fronted (Some number) (byte ∷ bytes) none = absurd (omega (arith, eqb-true (length (byte ∷ bytes)) 0 none))

pub text_fronted : (line : Option ℕ) (text : Text) → (length text == 0) ≡ false → line_front line ++ text ≡ (fronted line (unmended text)).err
text_fronted None text some = refl
text_fronted (Some number) [] some = absurd (true≢false some)
text_fronted (Some number) (byte ∷ bytes) some = refl

-- a text for the output is printed without the line number
pub printed_shown : (line : Option ℕ) (old new : Outputs) (text : Text) (status : ℕ) → Shows old new (printed text) status → Shows old new (fronted line (printed text)) status
printed_shown None old new text status shown = shown
printed_shown (Some number) old new text status shown = shown

module _ {O E : Type 0} (taken : O → Option (List ℕ)) (failed_out : O → ℕ) (taken_err : E → Option (List ℕ)) (failed_err : E → ℕ) where
  -- a line was printed to the error output, after the line number
  pub front_shown : (line : Option ℕ) (out : O) (old new : E) (page : Page) (status : ℕ) (byte : ℕ) (bytes : Text) → page.out ≡ [] → page.err ≡ byte ∷ bytes
      → IsErrorTold taken_err failed_err old new (line_front line ++ page.err) page.status status
      → Shows (outputs_of taken failed_out taken_err failed_err out old) (outputs_of taken failed_out taken_err failed_err out new) (fronted line page) status
  front_shown line out old new page status byte bytes none some told =
      error_shown taken failed_out taken_err failed_err out old new (fronted line page) status (fronted_out line page ∙ none)
      (rw (fronted_err line page byte bytes some, fronted_status line page) told)

  -- a text, which may be empty, was printed to the error output as it stands on the page for the line
  pub fronted_shown : (line : Option ℕ) (out : O) (old new : E) (page : Page) (status : ℕ) → page.out ≡ [] → IsErrorTold taken_err failed_err old new (fronted line page).err page.status status
      → Shows (outputs_of taken failed_out taken_err failed_err out old) (outputs_of taken failed_out taken_err failed_err out new) (fronted line page) status
  fronted_shown line out old new page status none told =
      error_shown taken failed_out taken_err failed_err out old new (fronted line page) status (fronted_out line page ∙ none) (rw (fronted_status line page) told)

  -- a text was printed to the output, and a line to the error output, after the line number
  pub both_fronted : {X F : Type 0} {x : X} (line : Option ℕ) (old new : O) (err told : E) (page : Page) (status byte : ℕ) (bytes : Text)
      → page.err ≡ byte ∷ bytes → IsPut {E = F} taken failed_out old new page.out (Ok x)
      → IsErrorTold taken_err failed_err err told (line_front line ++ page.err) page.status status
      → Shows (outputs_of taken failed_out taken_err failed_err old err) (outputs_of taken failed_out taken_err failed_err new told) (fronted line page) status
  both_fronted {X} {F} {x} line old new err told page status byte bytes some put tells =
      both_shown taken failed_out taken_err failed_err {X = X} {F = F} {x = x} old new err told (fronted line page) status
      (subst (λ text. IsPut {E = F} taken failed_out old new text (Ok x)) (sym (fronted_out line page)) put)
      (subst (λ text. IsErrorTold taken_err failed_err err told text (fronted line page).status status) (sym (fronted_err line page byte bytes some))
      (subst (λ n. IsErrorTold taken_err failed_err err told (line_front line ++ page.err) n status) (sym (fronted_status line page)) tells))

  -- a prefix of the text was printed, and the failure was reported after that line
  pub both_cut : {X F : Type 0} {f : F} (line : Option ℕ) (old new : O) (err told : E) (page : Page) (status byte : ℕ) (bytes : Text) → page.err ≡ byte ∷ bytes
      → IsPut {X = X} taken failed_out old new page.out (Err f)
      → IsErrorTold taken_err failed_err err told ((line_front line ++ page.err) ++ (failed Output).err) 3 status
      → Shows (outputs_of taken failed_out taken_err failed_err old err) (outputs_of taken failed_out taken_err failed_err new told) (fronted line page) status
  both_cut {X} {F} {f} line old new err told page status byte bytes some put tells =
      both_broken taken failed_out taken_err failed_err {X = X} {F = F} {f = f} old new err told (fronted line page) status
      (subst (λ text. IsPut {X = X} taken failed_out old new text (Err f)) (sym (fronted_out line page)) put)
      (subst (λ text. IsErrorTold taken_err failed_err err told (text ++ (failed Output).err) 3 status) (sym (fronted_err line page byte bytes some)) tells)
