-- A script that goes on: whole lines, and another whole line appended to them.
use Rattle.std.proofs.Common.{◌≡◌, ◌⊎◌, ◌∙◌, ◌==◌, ◌&&◌, ◌≤◌, inl, inr, ℕ, suc, Bool, true, false, List, [], ◌∷◌, ◌++◌, Some, length, map}
use Rattle.std.proofs.Common.{take, drop, refl, sym, ap, ap₂, arith, subst, eqb-true, leb, leb-true, leb-false}
use Rattle.std.specs.Prelude.{◌||◌}
use Rattle.std.specs.List.{list_any}
use Rattle.std.proofs.lemmas.List.{append-nil, append_assoc, map-append, take-append-drop, take-append-le, take_all, length-append}
use Rattle.std.proofs.lemmas.List.Folds.{list_any-append}
use Rattle.clap.specs.Words.{Text}
use Rattle.register.specs.declared.command.Request.{Request}
use Rattle.desk.specs.Journals.{AreSent, IsScriptOf}
use Rattle.desk.specs.Scripts.{whole_lines, whole_lines_from}
use Rattle.desk.specs.RequestLines.{IsWholeLine}
use Rattle.desk.specs.Scripts.{AreTurns, Numbered, Typed, behind_byte_order_mark, lines_from, lines_of, numbered_from, passes_over, script_lines, typed_line, words_of}
use Rattle.desk.specs.declared.orders.Errand.{Errand}
use Rattle.desk.specs.declared.orders.Errand.TheVariants as errand
use Rattle.desk.specs.declared.scripts.ScriptStep.{ScriptStep}

-- ---- a line feed in a text

-- the whole lines up to a line feed are all bytes up to it
whole_break : (line t u : Text) → whole_lines_from line (t ++ 10 ∷ u) ≡ line ++ (t ++ 10 ∷ whole_lines_from [] u)
whole_break line [] u = refl
whole_break line (b ∷ t) u = by (whole_break [] t u) (whole_break (line ++ b ∷ []) t u) (b == 10) refl
  where
    by : whole_lines_from [] (t ++ 10 ∷ u) ≡ t ++ 10 ∷ whole_lines_from [] u
        → whole_lines_from (line ++ b ∷ []) (t ++ 10 ∷ u) ≡ (line ++ b ∷ []) ++ (t ++ 10 ∷ whole_lines_from [] u)
        → (e : Bool) → (b == 10) ≡ e → whole_lines_from line (b ∷ (t ++ 10 ∷ u)) ≡ line ++ (b ∷ (t ++ 10 ∷ whole_lines_from [] u))
    by ends goes true e = rw e (ap (λ (rest : Text). line ++ b ∷ rest) ends)
    by ends goes false e = rw e (goes ∙ append_assoc line (b ∷ []) (t ++ 10 ∷ whole_lines_from [] u))

-- the lines up to a line feed, and those after it
lines_break : (line t u : Text) → lines_from line (t ++ 10 ∷ u) ≡ lines_from line t ++ lines_from [] u
lines_break line [] u = refl
lines_break line (b ∷ t) u = by (lines_break [] t u) (lines_break (line ++ b ∷ []) t u) (b == 10) refl
  where
    by : lines_from [] (t ++ 10 ∷ u) ≡ lines_from [] t ++ lines_from [] u → lines_from (line ++ b ∷ []) (t ++ 10 ∷ u) ≡ lines_from (line ++ b ∷ []) t ++ lines_from [] u
        → (e : Bool) → (b == 10) ≡ e → lines_from line (b ∷ (t ++ 10 ∷ u)) ≡ lines_from line (b ∷ t) ++ lines_from [] u
    by ends goes true e = rw e (ap (λ (rest : List Text). line ∷ rest) ends)
    by ends goes false e = rw e goes

-- a byte order mark ends before a line feed
mark_break : (t u : Text) → behind_byte_order_mark (t ++ 10 ∷ u) ≡ behind_byte_order_mark t ++ 10 ∷ u
mark_break [] [] = refl
mark_break [] (b ∷ []) = refl
mark_break [] (b ∷ c ∷ u) = refl
mark_break (a ∷ []) [] = refl
mark_break (a ∷ []) (c ∷ u) = by (a == 239) refl
  where
    by : (e : Bool) → (a == 239) ≡ e → behind_byte_order_mark (a ∷ 10 ∷ c ∷ u) ≡ a ∷ 10 ∷ c ∷ u
    by true e = rw e refl
    by false e = rw e refl
mark_break (a ∷ b ∷ []) u = by (a == 239) (b == 187) refl refl
  where
    by : (e f : Bool) → (a == 239) ≡ e → (b == 187) ≡ f → behind_byte_order_mark (a ∷ b ∷ 10 ∷ u) ≡ a ∷ b ∷ 10 ∷ u
    by true true e f = rw (e, f) refl
    by true false e f = rw (e, f) refl
    by false f e is = rw e refl
mark_break (a ∷ b ∷ c ∷ t) u = by (a == 239 && (b == 187 && c == 191)) refl
  where
    by : (e : Bool) → (a == 239 && (b == 187 && c == 191)) ≡ e → behind_byte_order_mark (a ∷ b ∷ c ∷ (t ++ 10 ∷ u)) ≡ behind_byte_order_mark (a ∷ b ∷ c ∷ t) ++ 10 ∷ u
    by true e = rw e refl
    by false e = rw e refl

-- ---- whole lines

-- without a line feed there is no whole line
unbroken : (line t : Text) → list_any (λ byte. byte == 10) t ≡ false → whole_lines_from line t ≡ []
unbroken line [] none = refl
unbroken line (b ∷ t) none = by (unbroken (line ++ b ∷ []) t) (b == 10) refl
  where
    by : (list_any (λ byte. byte == 10) t ≡ false → whole_lines_from (line ++ b ∷ []) t ≡ []) → (e : Bool) → (b == 10) ≡ e → whole_lines_from line (b ∷ t) ≡ []
    by goes true e = absurd (let bad : true ≡ false = rw e at none in cc bad)
    by goes false e = let rest : list_any (λ byte. byte == 10) t ≡ false = rw e at none in rw e (goes rest)

-- whole lines are empty, or end with a line feed
ends_whole : (line t : Text) → (whole_lines_from line t ≡ []) ⊎ ((front : Text) × (whole_lines_from line t ≡ front ++ 10 ∷ []))
ends_whole line [] = inl refl
ends_whole line (b ∷ t) = by (ends_whole [] t) (ends_whole (line ++ b ∷ []) t) (b == 10) refl
  where
    by : (whole_lines_from [] t ≡ []) ⊎ ((front : Text) × (whole_lines_from [] t ≡ front ++ 10 ∷ []))
        → (whole_lines_from (line ++ b ∷ []) t ≡ []) ⊎ ((front : Text) × (whole_lines_from (line ++ b ∷ []) t ≡ front ++ 10 ∷ []))
        → (e : Bool) → (b == 10) ≡ e → (whole_lines_from line (b ∷ t) ≡ []) ⊎ ((front : Text) × (whole_lines_from line (b ∷ t) ≡ front ++ 10 ∷ []))
    by (inl none) goes true e =
        inr (line, rw e (ap (λ (rest : Text). line ++ b ∷ rest) none ∙ ap (λ (n : ℕ). line ++ n ∷ []) (eqb-true b 10 e)))
    by (inr more) goes true e = inr (line ++ b ∷ more.0, rw e (ap (λ (rest : Text). line ++ b ∷ rest) more.1 ∙ sym (append_assoc line (b ∷ more.0) (10 ∷ []))))
    by ends goes false e = rw e goes

whole_text : (text : Text) → whole_lines text ≡ text → (text ≡ []) ⊎ ((front : Text) × (text ≡ front ++ 10 ∷ []))
whole_text text whole =
    elim (ends_whole [] text) [
      | inl none ↦ inl (sym whole ∙ none)
      | inr more ↦ inr (more.0, sym whole ∙ more.1)
    ]

-- what follows whole lines has whole lines of its own
pub whole_more : (text more : Text) → whole_lines text ≡ text → whole_lines (text ++ more) ≡ text ++ whole_lines more
whole_more text more whole =
    elim (whole_text text whole) [
      | inl none ↦ rw none refl
      | inr (front, is) ↦ rw is (ap whole_lines (append_assoc front (10 ∷ []) more) ∙ whole_break [] front more ∙ sym (append_assoc front (10 ∷ []) (whole_lines more)))
    ]

pub whole_line : (line : Text) → IsWholeLine line → whole_lines line ≡ line
whole_line line it = ap whole_lines it.ends ∙ whole_break [] it.words [] ∙ sym it.ends

-- whole lines and another are whole lines
pub whole_with : (text line : Text) → whole_lines text ≡ text → IsWholeLine line → whole_lines (text ++ line) ≡ text ++ line
whole_with text line whole it = whole_more text line whole ∙ ap (λ (rest : Text). text ++ rest) (whole_line line it)

none_in_front : (k : ℕ) (t : Text) → list_any (λ byte. byte == 10) t ≡ false → list_any (λ byte. byte == 10) (take k t) ≡ false
none_in_front k t none = by (list_any (λ byte. byte == 10) (take k t)) refl
  where
    both : (list_any (λ byte. byte == 10) (take k t) || list_any (λ byte. byte == 10) (drop k t)) ≡ false
    both = sym (list_any-append (λ byte. byte == 10) (take k t) (drop k t)) ∙ ap (list_any (λ byte. byte == 10)) (take-append-drop k t) ∙ none

    by : (e : Bool) → list_any (λ byte. byte == 10) (take k t) ≡ e → list_any (λ byte. byte == 10) (take k t) ≡ false
    by true e = absurd (let bad : true ≡ false = rw e at both in cc bad)
    by false e = e

-- a beginning of a line adds no whole line to whole lines, unless it is all of it
pub whole_cut : (text line : Text) (k : ℕ) → whole_lines text ≡ text → IsWholeLine line → (whole_lines (text ++ take k line) ≡ text) ⊎ (take k line ≡ line)
whole_cut text line k whole it = by (leb k (length it.words)) refl
  where
    by : (e : Bool) → leb k (length it.words) ≡ e → (whole_lines (text ++ take k line) ≡ text) ⊎ (take k line ≡ line)
    by true e =
        let within : k ≤ length it.words = leb-true k (length it.words) e in
        let cut : take k line ≡ take k it.words = ap (take k) it.ends ∙ take-append-le k it.words (10 ∷ []) within in
        inl (whole_more text (take k line) whole ∙ ap (λ (rest : Text). text ++ whole_lines rest) cut
        ∙ ap (λ (rest : Text). text ++ rest) (unbroken [] (take k it.words) (none_in_front k it.words it.one)) ∙ append-nil text)
    by false e =
        let past : length line ≤ k = omega (arith, leb-false k (length it.words) e, ap length it.ends, length-append it.words (10 ∷ [])) in
        inr (take_all k line past)

-- ---- the lines of a script

turns_append : (a b : List Typed) (turns others : List ScriptStep) → AreTurns a turns → AreTurns b others → AreTurns (a ++ b) (turns ++ others)
turns_append [] b turns others none are = rw none are
turns_append (line ∷ a) b turns others (turn, later, is, step, rest) are = (turn, later ++ others, ap (λ ts. ts ++ others) is, step, turns_append a b later others rest are)

-- the lines after some lines have other numbers, and are otherwise the same
numbered_append : (k : ℕ) (a b : List Text) → (m : ℕ) × (numbered_from k (a ++ b) ≡ numbered_from k a ++ numbered_from m b)
numbered_append k [] b = (k, refl)
numbered_append k (line ∷ a) b = by (numbered_append (suc k) a b) (passes_over line) refl
  where
    by : (m : ℕ) × (numbered_from (suc k) (a ++ b) ≡ numbered_from (suc k) a ++ numbered_from m b)
        → (e : Bool) → passes_over line ≡ e → (m : ℕ) × (numbered_from k (line ∷ (a ++ b)) ≡ numbered_from k (line ∷ a) ++ numbered_from m b)
    by rest true e = rw e rest
    by rest false e = (rest.0, rw e (ap (λ (lines : List Numbered). record { number = k; words = words_of line } ∷ lines) rest.1))

-- with other numbers, the lines mean the same errands
abbrev MeanAlso : List Numbered → List ScriptStep → Type 0
MeanAlso lines turns = (others : List ScriptStep) × AreTurns (map typed_line lines) others × (map (λ (t : ScriptStep). t.errand) others ≡ map (λ (t : ScriptStep). t.errand) turns)

renumbered : (k m : ℕ) (lines : List Text) (turns : List ScriptStep) → AreTurns (map typed_line (numbered_from k lines)) turns → MeanAlso (numbered_from m lines) turns
renumbered k m [] turns are = ([], refl, sym (ap (map (λ (t : ScriptStep). t.errand)) are))
renumbered k m (line ∷ lines) turns are = by (renumbered (suc k) (suc m) lines) (passes_over line) refl
  where
    by : ((later : List ScriptStep) → AreTurns (map typed_line (numbered_from (suc k) lines)) later → MeanAlso (numbered_from (suc m) lines) later)
        → (e : Bool) → passes_over line ≡ e → MeanAlso (numbered_from m (line ∷ lines)) turns
    by goes true e = rw e (goes turns (rw e at are))
    by goes false e =
        let it = rw e at are in
        let rest = goes it.1 it.4 in
        let other : ScriptStep = record { line = Some m; errand = it.0.errand } in (
          other ∷ rest.0,
          rw e (other, rest.0, refl, record { line_number = refl; means = it.3.means }, rest.1),
          ap (λ (es : List Errand). it.0.errand ∷ es) rest.2 ∙ sym (ap (map (λ (t : ScriptStep). t.errand)) it.2),
        )

-- the requests that follow those of a script
sent_append : (turns others : List ScriptStep) (requests more : List Request) → AreSent turns requests → AreSent others more → AreSent (turns ++ others) (requests ++ more)
sent_append turns others requests more sent also =
    map-append (λ (t : ScriptStep). t.errand) turns others ∙ ap₂ (λ (a b : List Errand). a ++ b) sent also ∙ sym (map-append (λ (r : Request). errand.Send r) requests more)

no_requests : (turns : List ScriptStep) (requests : List Request) → turns ≡ [] → AreSent turns requests → requests ≡ []
no_requests turns [] none sent = refl
no_requests turns (r ∷ rs) none sent = absurd (let bad : [] ≡ errand.Send r ∷ map (λ (x : Request). errand.Send x) rs = sym (ap (map (λ (t : ScriptStep). t.errand)) none) ∙ sent in cc bad)

-- the lines of a text that ends with a line feed: those before it, and an empty one
lines_whole : (front : Text) → lines_of (front ++ 10 ∷ []) ≡ lines_of front ++ [] ∷ []
lines_whole front = ap (lines_from []) (mark_break front []) ∙ lines_break [] (behind_byte_order_mark front) []

lines_with : (front line : Text) → behind_byte_order_mark line ≡ line → lines_of ((front ++ 10 ∷ []) ++ line) ≡ lines_of front ++ lines_of line
lines_with front line unmarked =
    ap lines_of (append_assoc front (10 ∷ []) line) ∙ ap (lines_from []) (mark_break front line) ∙ lines_break [] (behind_byte_order_mark front) line
    ∙ ap (λ (t : Text). lines_of front ++ lines_from [] t) (sym unmarked)

-- the steps of whole lines, without the empty line after the last line feed
front_turns : (lines : List Text) (turns : List ScriptStep) → AreTurns (map typed_line (numbered_from 1 (lines ++ [] ∷ []))) turns → AreTurns (map typed_line (numbered_from 1 lines)) turns
front_turns lines turns are =
    let it = numbered_append 1 lines ([] ∷ []) in
    let same : numbered_from 1 (lines ++ [] ∷ []) ≡ numbered_from 1 lines = it.1 ∙ append-nil (numbered_from 1 lines) in
    subst (λ (ns : List Numbered). AreTurns (map typed_line ns) turns) same are

-- a script of whole lines, and another one appended to it
pub script_continues : (text line : Text) (requests more : List Request) → whole_lines text ≡ text → IsWholeLine line → IsScriptOf text requests → IsScriptOf line more
    → IsScriptOf (text ++ line) (requests ++ more)
script_continues text line requests more whole one script also =
    elim (whole_text text whole) [
      | inl none ↦ nothing none
      | inr (front, is) ↦ something front is
    ]
  where
    nothing : text ≡ [] → IsScriptOf (text ++ line) (requests ++ more)
    nothing none =
        let empty : script.turns ≡ [] = subst (λ (t : Text). AreTurns (script_lines t) script.turns) none script.script in
        rw (none, no_requests script.turns requests empty script.sends) also

    something : (front : Text) → text ≡ front ++ 10 ∷ [] → IsScriptOf (text ++ line) (requests ++ more)
    something front is =
        let lines = lines_of front in
        let before : AreTurns (map typed_line (numbered_from 1 lines)) script.turns =
        front_turns lines script.turns
        (subst (λ (ls : List Text). AreTurns (map typed_line (numbered_from 1 ls)) script.turns) (ap lines_of is ∙ lines_whole front) script.script) in
        let it = numbered_append 1 lines (lines_of line) in
        let next = renumbered 1 it.0 (lines_of line) also.turns also.script in
        let all : script_lines (text ++ line) ≡ map typed_line (numbered_from 1 lines) ++ map typed_line (numbered_from it.0 (lines_of line)) =
        ap (λ (t : Text). script_lines (t ++ line)) is ∙ ap (λ (ls : List Text). map typed_line (numbered_from 1 ls)) (lines_with front line one.unmarked)
        ∙ ap (map typed_line) it.1 ∙ map-append typed_line (numbered_from 1 lines) (numbered_from it.0 (lines_of line)) in
        record {
          turns = script.turns ++ next.0;
          script = subst (λ (ls : List Typed). AreTurns ls (script.turns ++ next.0)) (sym all)
              (turns_append (map typed_line (numbered_from 1 lines)) (map typed_line (numbered_from it.0 (lines_of line))) script.turns next.0 before next.1);
          sends = sent_append script.turns next.0 requests more script.sends (next.2 ∙ also.sends);
        }
