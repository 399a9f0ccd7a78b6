-- A text that isn't a script of requests: a line has a flaw, or a step does something other than send a given request.
use Rattle.std.proofs.Common.{◌≡◌, ◌∙◌, ◌<◌, ℕ, suc, zero, Bool, true, false, true≢false, List, [], ◌∷◌, Option, Some, None, Result, Ok, Err, IfOk}
use Rattle.std.proofs.Common.{inl, inr, refl, sym, ap, ap₂, arith, get_or, length, map}
use Rattle.std.specs.Prelude.{◌==◌, IfNone, IsOkAnd}
use Rattle.std.specs.List.{list_any}
use Rattle.std.proofs.lemmas.List.{length-map}
use Rattle.clap.specs.Words.{Text}
use Rattle.register.specs.declared.command.Request.{Request}
use Rattle.office.specs.declared.sheets.WardText.{WardText}
use Rattle.office.specs.declared.sheets.WardText.TheVariants as ward_text
use Rattle.desk.specs.Journals.{AreSent, IsScriptOf, IsScriptOfNone}
use Rattle.desk.specs.Orders.{Meant, Sent, sent_as, told, told_errand, told_text}
use Rattle.desk.specs.Orders.{count, import_batches, import_candidates, import_keying, no_digest, no_form, no_origin, no_verdict, seal_expected, send, title_alone}
use Rattle.desk.specs.Scripts.{AreTurns, IsFirstFlaw, IsFlawOf, IsFlawOfWords, Means, Typed, is_allowed_in_script, script_lines, sends_requests}
use Rattle.desk.specs.Words.{status_of_kind, wrong_with}
use Rattle.desk.specs.declared.orders.Errand.{Errand}
use Rattle.desk.specs.declared.orders.Errand.TheVariants as errand
use Rattle.desk.specs.declared.orders.Job.TheVariants as job
use Rattle.desk.specs.declared.orders.Order.{Order}
use Rattle.desk.specs.declared.orders.Order.TheVariants as order
use Rattle.desk.specs.declared.orders.Task.TheVariants as task
use Rattle.desk.specs.declared.scripts.Garbled.{Garbled}
use Rattle.desk.specs.declared.scripts.LineFlaw.{LineFlaw}
use Rattle.desk.specs.declared.scripts.LineFlaw.TheVariants as flaw
use Rattle.desk.specs.declared.scripts.ScriptStep.{ScriptStep}

-- ---- the meaning of an order decides whether it is allowed in a script

is_allowed : Meant → Bool
is_allowed (send sent) = true
is_allowed (import_candidates file id digest) = true
is_allowed (import_batches file id digest) = true
is_allowed (import_keying clerk batch round file id digest) = true
is_allowed (seal_expected ward papers id) = true
is_allowed (count ward id) = true
is_allowed other = false

allowed_text : (ward : ℕ) (text : WardText) → is_allowed (told_text ward text) ≡ false
unfolding is_allowed
allowed_text ward ward_text.Sheet = refl
allowed_text ward ward_text.Declaration = refl
allowed_text ward ward_text.Ballots = refl
allowed_text ward (ward_text.Page title) = refl
allowed_text ward ward_text.Table = refl
allowed_text ward ward_text.Results = refl

allowed_errand : (e : Errand) → is_allowed (told_errand e) ≡ sends_requests e
unfolding is_allowed
allowed_errand (errand.Send request) = refl
allowed_errand (errand.ImportCandidates file id digest) = refl
allowed_errand (errand.ImportBatches file id digest) = refl
allowed_errand (errand.ImportKeying keying) = refl
allowed_errand (errand.SealExpected seal) = refl
allowed_errand (errand.Count ward id) = refl
allowed_errand (errand.PrintStatus ward) = refl
allowed_errand (errand.PrintNext ward) = refl
allowed_errand (errand.Print ward text) = allowed_text ward text
allowed_errand (errand.PrintIndex title) = refl
allowed_errand (errand.Ask question) = refl

allowed_order : (o : Order) → is_allowed (told o) ≡ is_allowed_in_script o
unfolding is_allowed
allowed_order (order.Perform task.Init) = refl
allowed_order (order.Perform task.Migrate) = refl
allowed_order (order.Perform (task.InOffice (job.Run e))) = allowed_errand e
allowed_order (order.Perform (task.InOffice (job.Replay script))) = refl
allowed_order (order.Copy path) = refl
allowed_order order.Journal = refl
allowed_order (order.Second path) = refl
allowed_order (order.Mend m) = refl
allowed_order (order.Publish p) = refl
allowed_order (order.Codes path clerks with_office) = refl
allowed_order (order.Slips path address) = refl
allowed_order (order.Serve port connections origin codes public) = refl

-- ---- a line with a flaw isn't a step

-- words with a meaning that isn't allowed in a script aren't those of a step
not_meant : (found : Option Meant) (meant : Meant) (e : Errand) → found ≡ Some meant → is_allowed meant ≡ false → found ≡ Some (told_errand e) → sends_requests e ≡ true → ⊥
not_meant found meant e is none means sends =
    let same : meant ≡ told_errand e = cc in true≢false (sym sends ∙ (sym (allowed_errand e) ∙ (ap is_allowed (sym same) ∙ none)))

-- nothing is wrong with the words of a step
none_wrong : {X : Type 0} (test : X → Bool) (kinds : List X) → kinds ≡ [] → list_any test kinds ≡ true → ⊥
none_wrong test [] none wrong = true≢false (sym wrong)
none_wrong test (kind ∷ kinds) none wrong = absurd (cc none)

flawed_words : (words : List Text) (found : LineFlaw) (e : Errand) → IsFlawOfWords words found → Means words e → ⊥
unfolding is_allowed
flawed_words words (flaw.NoWords why) e is means = absurd is
flawed_words words flaw.Verdict e is means = not_meant _ no_verdict e is.1 refl means.means means.sends
flawed_words words flaw.Origin e is means = not_meant _ no_origin e is.1 refl means.means means.sends
flawed_words words flaw.Digest e is means = not_meant _ no_digest e is.1 refl means.means means.sends
flawed_words words flaw.TitleAlone e is means = not_meant _ title_alone e is.1 refl means.means means.sends
flawed_words words flaw.Form e is means = not_meant _ no_form e is.1 refl means.means means.sends
flawed_words words (flaw.Words text) e (status, other, reported) means = none_wrong (λ kind. status_of_kind kind == status) (wrong_with words) means.right reported.0
flawed_words words flaw.Elsewhere e (inl wrong) means = none_wrong (λ kind. status_of_kind kind == 0) (wrong_with words) means.right wrong
flawed_words words flaw.Elsewhere e (inr (o, is, none)) means = not_meant _ (told o) e is (allowed_order o ∙ none) means.means means.sends

flawed_line : (words : Result (List Text) Garbled) (found : LineFlaw) (e : Errand) → IsFlawOf words found → IsOkAnd words (λ ws. Means ws e) → ⊥
flawed_line (Err why) found e is means = absurd means
flawed_line (Ok words) found e is means = flawed_words words found e is means

-- lines of which one has a flaw aren't steps
pub flawed_lines : (lines : List Typed) (number : ℕ) (found : LineFlaw) (turns : List ScriptStep) → IsFirstFlaw lines number found → AreTurns lines turns → ⊥
flawed_lines [] number found turns is are = absurd is
flawed_lines (line ∷ lines) number found turns (inl (here, is)) (turn, others, same, step, later) = flawed_line line.words found turn.errand is step.means
flawed_lines (line ∷ lines) number found turns (inr (first, step, is)) (turn, others, same, also, later) = flawed_lines lines number found others is later

-- a text of which a line has a flaw isn't a script
pub flawed_script : (text : Text) (number : ℕ) (found : LineFlaw) → IsFirstFlaw (script_lines text) number found → IsScriptOfNone text
flawed_script text number found is requests script = flawed_lines (script_lines text) number found script.turns is script.script

-- ---- a step that does something else

-- one of the steps doesn't send a given request
pub sends_else : (turns : List ScriptStep) (place : ℕ) (turn : ScriptStep) → place < length turns → turn ≡ get_or turns place turn
    → ((request : Request) → turn.errand ≡ errand.Send request → ⊥) → (requests : List Request) → AreSent turns requests → ⊥
sends_else [] place turn within is other requests sent = absurd (omega (arith, within))
sends_else (first ∷ turns) place turn within is other [] sent = absurd (cc sent)
sends_else (first ∷ turns) zero turn within is other (request ∷ requests) sent =
    let here : first.errand ≡ errand.Send request = cc sent in other request (ap (λ (t : ScriptStep). t.errand) is ∙ here)
sends_else (first ∷ turns) (suc n) turn within is other (request ∷ requests) sent = sends_else turns n turn (omega (arith, within)) is other requests (cc sent)

-- the meaning of an errand decides whether it sends a given request
not_sent : (ward : ℕ) (text : WardText) (sent : Sent) → told_text ward text ≡ send sent → ⊥
not_sent ward ward_text.Sheet sent is = absurd (cc is)
not_sent ward ward_text.Declaration sent is = absurd (cc is)
not_sent ward ward_text.Ballots sent is = absurd (cc is)
not_sent ward (ward_text.Page title) sent is = absurd (cc is)
not_sent ward ward_text.Table sent is = absurd (cc is)
not_sent ward ward_text.Results sent is = absurd (cc is)

is_sent : (e : Errand) (sent : Sent) → told_errand e ≡ send sent → (request : Request) × (e ≡ errand.Send request)
is_sent (errand.Send request) sent is = (request, refl)
is_sent (errand.ImportCandidates file id digest) sent is = absurd (cc is)
is_sent (errand.ImportBatches file id digest) sent is = absurd (cc is)
is_sent (errand.ImportKeying keying) sent is = absurd (cc is)
is_sent (errand.SealExpected seal) sent is = absurd (cc is)
is_sent (errand.Count ward id) sent is = absurd (cc is)
is_sent (errand.PrintStatus ward) sent is = absurd (cc is)
is_sent (errand.PrintNext ward) sent is = absurd (cc is)
is_sent (errand.Print ward text) sent is = absurd (not_sent ward text sent is)
is_sent (errand.PrintIndex title) sent is = absurd (cc is)
is_sent (errand.Ask question) sent is = absurd (cc is)

-- a line means one thing
one_meaning : (words : Result (List Text) Garbled) (one other : Errand) → IsOkAnd words (λ ws. Means ws one) → IsOkAnd words (λ ws. Means ws other) → told_errand one ≡ told_errand other
one_meaning (Err why) one other means also = absurd means
one_meaning (Ok words) one other means also = let same : Some (told_errand one) ≡ Some (told_errand other) = sym means.means ∙ also.means in cc

-- if the lines mean steps that send requests, whatever steps they mean send requests
sent_also : (lines : List Typed) (turns others : List ScriptStep) (requests : List Request) → AreTurns lines turns → AreTurns lines others → AreSent others requests
    → (same : List Request) × AreSent turns same
sent_also [] turns others requests none none_too sent = ([], ap (map (λ (t : ScriptStep). t.errand)) none)
sent_also (line ∷ lines) turns others [] (turn, later, is, step, are) (other, later_too, is_too, also, are_too) sent =
    absurd (let none : map (λ (t : ScriptStep). t.errand) (other ∷ later_too) ≡ [] = ap (map (λ (t : ScriptStep). t.errand)) (sym is_too) ∙ sent in cc none)
sent_also (line ∷ lines) turns others (request ∷ requests) (turn, later, is, step, are) (other, later_too, is_too, also, are_too) sent =
    let first : other.errand ∷ map (λ (t : ScriptStep). t.errand) later_too ≡ errand.Send request ∷ map (λ (r : Request). errand.Send r) requests =
    ap (map (λ (t : ScriptStep). t.errand)) (sym is_too) ∙ sent in
    let here : other.errand ≡ errand.Send request = cc first in
    let next : map (λ (t : ScriptStep). t.errand) later_too ≡ map (λ (r : Request). errand.Send r) requests = cc first in
    let it = is_sent turn.errand (sent_as request) (one_meaning line.words turn.errand other.errand step.means also.means ∙ ap told_errand here) in
    let rest = sent_also lines later later_too requests are are_too next in
    (it.0 ∷ rest.0, ap (map (λ (t : ScriptStep). t.errand)) is ∙ ap₂ (λ (e : Errand) (es : List Errand). e ∷ es) it.1 rest.1)

-- a text with such a step isn't a script of requests
pub none_found : {V E : Type 0} (text : Text) (turns : List ScriptStep) → AreTurns (script_lines text) turns → (r : Result (Option V) E)
    → IfOk r (λ found. IfNone found ((requests : List Request) → AreSent turns requests → ⊥)) → IfOk r (λ found. IfNone found (IsScriptOfNone text))
none_found text turns are (Ok (Some v)) none = tt
none_found text turns are (Ok None) none = λ requests script.
    let it = sent_also (script_lines text) turns script.turns requests are script.script script.sends in none it.0 it.1
none_found text turns are (Err e) none = tt

-- ---- how many requests a script has

as_many_turns : (lines : List Typed) (turns : List ScriptStep) → AreTurns lines turns → length turns ≡ length lines
as_many_turns [] turns none = ap length none
as_many_turns (line ∷ lines) turns (turn, later, is, step, are) = ap length is ∙ ap suc (as_many_turns lines later are)

as_many_requests : (turns : List ScriptStep) (requests : List Request) → AreSent turns requests → length turns ≡ length requests
as_many_requests turns requests sent =
    sym (length-map turns (λ (t : ScriptStep). t.errand)) ∙ (ap length sent ∙ length-map requests (λ (r : Request). errand.Send r))

-- all lists of requests of which a text is the script have the same length
pub same_number : (text : Text) (one other : List Request) → IsScriptOf text one → IsScriptOf text other → length one ≡ length other
same_number text one other script also =
    sym (as_many_requests script.turns one script.sends) ∙ (as_many_turns (script_lines text) script.turns script.script
    ∙ (sym (as_many_turns (script_lines text) also.turns also.script) ∙ as_many_requests also.turns other also.sends))

-- ---- what a script of one request sends

-- all single requests of which a text is the script have the same actor and id, and ask for the same
pub same_request : (text : Text) (one other : Request) → IsScriptOf text (one ∷ []) → IsScriptOf text (other ∷ []) → sent_as one ≡ sent_as other
same_request text one other script also = by (script_lines text) script.turns also.turns script.script also.script script.sends also.sends
  where
    by : (lines : List Typed) (turns others : List ScriptStep) → AreTurns lines turns → AreTurns lines others → AreSent turns (one ∷ []) → AreSent others (other ∷ []) → sent_as one ≡ sent_as other
    by [] turns others none none_too sent sent_too =
        let bad : [] ≡ errand.Send one ∷ [] = ap (map (λ (t : ScriptStep). t.errand)) (sym none) ∙ sent in absurd (cc bad)
    by (line ∷ lines) turns others (turn, later, is, step, are) (second, later_too, is_too, step_too, are_too) sent sent_too =
        let first : turn.errand ∷ map (λ (t : ScriptStep). t.errand) later ≡ errand.Send one ∷ [] = ap (map (λ (t : ScriptStep). t.errand)) (sym is) ∙ sent in
        let next : second.errand ∷ map (λ (t : ScriptStep). t.errand) later_too ≡ errand.Send other ∷ [] = ap (map (λ (t : ScriptStep). t.errand)) (sym is_too) ∙ sent_too in
        let here : turn.errand ≡ errand.Send one = cc first in
        let there : second.errand ≡ errand.Send other = cc next in
        let same : told_errand turn.errand ≡ told_errand second.errand = one_meaning line.words turn.errand second.errand step.means step_too.means in
        let both : send (sent_as one) ≡ send (sent_as other) = ap told_errand (sym here) ∙ (same ∙ ap told_errand there) in
        cc both
