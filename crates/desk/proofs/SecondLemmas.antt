-- Comparing the office with a second record of it.
use Rattle.std.proofs.Common.{◌≡◌, ◌⊎◌, ◌∙◌, ◌<◌, ◌≤◌, inl, inr, ℕ, Bool, true, false, List, [], ◌∷◌, ◌++◌, length, Option, Some, None, Result, Ok, Err, IfOk, IfErr}
use Rattle.std.proofs.Common.{refl, sym, ap, ap₂, subst, arith}
use Rattle.std.specs.Prelude.{option_and_then}
use Rattle.std.proofs.lemmas.List.{length-append}
use Rattle.clap.specs.Words.{Text}
use Rattle.register.specs.Offices.{OfficeState}
use Rattle.register.specs.declared.command.Request.{Request}
use Rattle.tables.specs.declared.fault.Fault.TheVariants.{Memory}
use Rattle.office.specs.Runs.{LeadTo}
use Rattle.desk.specs.Folders.{File, Folder, HoldsText, IsFileAt}
use Rattle.desk.specs.Journals.{AreSent, IsScriptOf}
use Rattle.desk.specs.Mends.{out_of_memory}
use Rattle.desk.specs.Pages.{Page, printed, unequal, unjournalled}
use Rattle.desk.specs.Scripts.{AreTurns, script_lines, whole_lines}
use Rattle.desk.specs.Seconds.{HasUngiven, IsCompared, IsDifference, IsNoRecord, IsSecondTold, IsTextTold}
use Rattle.desk.specs.Seconds.{apart_text, first_ungiven, is_given, more_here_text, more_there_text, record_page, same_text}
use Rattle.desk.specs.declared.orders.Errand.{Errand}
use Rattle.desk.specs.declared.orders.Errand.TheVariants as errand
use Rattle.desk.specs.declared.scripts.ScriptStep.{ScriptStep}
use Rattle.desk.specs.declared.second_record.NoRecord.{NoRecord}
use Rattle.desk.specs.declared.second_record.NoRecord.TheVariants as no_record
use Rattle.desk.proofs.ScriptEnds.{holds_also, no_output}

-- ---- the steps of a record

given_errand : (e : Errand) → is_given e ≡ true → (request : Request) × (e ≡ errand.Send request)
given_errand (errand.Send request) given = (request, refl)
given_errand (errand.ImportCandidates file id digest) given = absurd (cc given)
given_errand (errand.ImportBatches file id digest) given = absurd (cc given)
given_errand (errand.ImportKeying keying) given = absurd (cc given)
given_errand (errand.SealExpected seal) given = absurd (cc given)
given_errand (errand.Count ward id) given = absurd (cc given)
given_errand (errand.PrintStatus ward) given = absurd (cc given)
given_errand (errand.PrintNext ward) given = absurd (cc given)
given_errand (errand.Print ward text) given = absurd (cc given)
given_errand (errand.PrintIndex title) given = absurd (cc given)
given_errand (errand.Ask question) given = absurd (cc given)

-- steps of which none does anything else send requests
all_given : (turns : List ScriptStep) → first_ungiven turns ≡ None → (requests : List Request) × AreSent turns requests
all_given [] none = ([], refl)
all_given (turn ∷ turns) none = by (is_given turn.errand) refl (all_given turns)
  where
    by : (b : Bool) → is_given turn.errand ≡ b → (first_ungiven turns ≡ None → (requests : List Request) × AreSent turns requests)
        → (requests : List Request) × AreSent (turn ∷ turns) requests
    by true given more =
        let first = given_errand turn.errand given in
        let rest = more (rw given at none) in
        (first.0 ∷ rest.0, ap₂ (λ (e : Errand) (es : List Errand). e ∷ es) first.1 rest.1)
    by false other more = let some : Some turn ≡ None = rw other at none in absurd (cc some)

-- if no requests are all that the steps send, the line is that of the first step that does something else
pub ungiven_found : (turns : List ScriptStep) (line : Option ℕ) → line ≡ option_and_then (λ (t : ScriptStep). t.line) (first_ungiven turns)
    → ((requests : List Request) → AreSent turns requests → ⊥) → HasUngiven turns (no_record.Ungiven line)
ungiven_found turns line is none = by (first_ungiven turns) refl
  where
    by : (o : Option ScriptStep) → first_ungiven turns ≡ o → HasUngiven turns (no_record.Ungiven line)
    by None e = let all = all_given turns e in absurd (none all.0 all.1)
    by (Some turn) e = (turn, e, is ∙ ap (option_and_then (λ (t : ScriptStep). t.line)) e)

-- the requests that the steps send are those of the script
pub given_script : {V F E : Type 0} (items : V → List Request) (text : Text) (turns : List ScriptStep) → AreTurns (script_lines text) turns → (r : Result (Result V F) E)
    → IfOk r (λ found. IfOk found (λ v. AreSent turns (items v))) → IfOk r (λ found. IfOk found (λ v. IsScriptOf text (items v)))
given_script items text turns are (Ok (Ok v)) sent = record { turns = turns; script = are; sends = sent }
given_script items text turns are (Ok (Err f)) sent = tt
given_script items text turns are (Err e) sent = tt

-- one of them does something else
pub ungiven_script : {V E : Type 0} (text : Text) (turns : List ScriptStep) → AreTurns (script_lines text) turns → (r : Result (Result V NoRecord) E)
    → IfOk r (λ found. IfErr found (λ f. HasUngiven turns f)) → IfOk r (λ found. IfErr found (λ f. IsNoRecord text f))
ungiven_script text turns are (Ok (Ok v)) why = tt
ungiven_script text turns are (Ok (Err (no_record.Script f))) why = absurd why
ungiven_script text turns are (Ok (Err (no_record.Ungiven line))) why = (turns, are, why)
ungiven_script text turns are (Err e) why = tt

-- the page has nothing for the output
pub no_record_output : (why : NoRecord) → (record_page why).out ≡ []
no_record_output (no_record.Script why) = no_output why
no_record_output (no_record.Ungiven line) = refl

-- ---- how an office and a record differ

-- lists that end with one more element begin with the same elements if they are the same
same_front : (xs ys : List Request) (x y : Request) → xs ++ x ∷ [] ≡ ys ++ y ∷ [] → xs ≡ ys
same_front [] [] x y same = refl
same_front [] (b ∷ ys) x y same = let n = ap length same in absurd (omega (arith, n, length-append ys (y ∷ [])))
same_front (a ∷ xs) [] x y same = let n = ap length same in absurd (omega (arith, n, length-append xs (x ∷ [])))
same_front (a ∷ xs) (b ∷ ys) x y same =
    let first : a ≡ b = cc same in
    let rest : xs ++ x ∷ [] ≡ ys ++ y ∷ [] = cc same in
    ap₂ (λ (z : Request) (zs : List Request). z ∷ zs) first (same_front xs ys x y rest)

module _ (s : OfficeState) (path : Text) (requests : List Request) (page : Page) where
  -- the page has both numbers, or an allocation for it failed
  pub told_apart : (there here : ℕ) → there ≡ length requests → here ≡ length s.receipts → (page ≡ unequal (apart_text path there here)) ⊎ (page ≡ out_of_memory)
      → (length s.receipts < length requests → (earlier : List Request) (r : Request) → requests ≡ earlier ++ r ∷ [] → LeadTo earlier s → ⊥) → IsDifference s path requests page
  told_apart there here one two (inl told) other =
      inl (inr (inr (inl (record { told = told ∙ (ap (λ n. unequal (apart_text path n here)) one ∙ ap (λ n. unequal (apart_text path (length requests) n)) two); other = other }))))
  told_apart there here one two (inr memory) other = inr (Memory, memory, inl refl)

  -- the office has no fewer requests
  pub none_fewer : (there here : ℕ) → there ≡ length requests → here ≡ length s.receipts → there ≤ here
      → length s.receipts < length requests → (earlier : List Request) (r : Request) → requests ≡ earlier ++ r ∷ [] → LeadTo earlier s → ⊥
  none_fewer there here one two low few earlier r is lead = absurd (omega (arith, one, two, low, few))

  -- the requests before the last don't lead to the state
  pub not_last : (front : List Request) (last : Request) → requests ≡ front ++ last ∷ [] → (LeadTo front s → ⊥)
      → length s.receipts < length requests → (earlier : List Request) (r : Request) → requests ≡ earlier ++ r ∷ [] → LeadTo earlier s → ⊥
  not_last front last whole other few earlier r is lead = other (subst (λ (l : List Request). LeadTo l s) (sym (same_front front earlier last r (sym whole ∙ is))) lead)

  -- the office has this request more
  pub told_here : (r : Request) (all : List Request) → all ≡ requests ++ r ∷ [] → page ≡ unequal (more_here_text path r) → LeadTo all s → IsDifference s path requests page
  told_here r all is told lead = inl (inl (r, told, subst (λ (l : List Request). LeadTo l s) is lead))

  -- the record has this request more
  pub told_there : (front : List Request) (last : Request) → requests ≡ front ++ last ∷ [] → (page ≡ unequal (more_there_text path last)) ⊎ (page ≡ out_of_memory)
      → LeadTo front s → IsDifference s path requests page
  told_there front last whole (inl told) lead = inl (inr (inl (front, last, whole, told, lead)))
  told_there front last whole (inr memory) lead = inr (Memory, memory, inl refl)

  -- the office has more requests, but no journal; or an allocation failed
  pub told_unjournalled : (there here : ℕ) → there ≡ length requests → here ≡ length s.receipts → there < here → (page ≡ unjournalled) ⊎ (page ≡ out_of_memory) → IsDifference s path requests page
  told_unjournalled there here one two more (inl none) = inl (inr (inr (inr (none, omega (arith, one, two, more)))))
  told_unjournalled there here one two more (inr memory) = inr (Memory, memory, inl refl)

  -- both hold the same
  pub told_same : (count : ℕ) → count ≡ length requests → (page ≡ printed (same_text path count)) ⊎ (page ≡ out_of_memory) → LeadTo requests s → IsCompared s path requests page
  told_same count is (inl told) lead = inl (told ∙ ap (λ n. printed (same_text path n)) is, lead)
  told_same count is (inr memory) lead = inr (inr (Memory, memory, inl refl))

  -- they differ
  pub told_different : (LeadTo requests s → ⊥) → IsDifference s path requests page → IsCompared s path requests page
  told_different other (inl differs) = inr (inl (other, differs))
  told_different other (inr failed) = inr (inr failed)

-- ---- the outcome

-- what is printed for a text is what is printed for the file that contains it
pub file_told : (s : OfficeState) (path : Text) (file : File) (bytes : Text) (page : Page) → HoldsText file (λ text. bytes ≡ text) → IsTextTold s path bytes page → IsSecondTold s path file page
file_told s path file bytes page holds (inl (requests, script, told)) =
    inl (requests, holds_also (λ text. bytes ≡ text) (λ text. IsScriptOf (whole_lines text) requests) file (λ text is. subst (λ (t : Text). IsScriptOf (whole_lines t) requests) is script) holds, told)
file_told s path file bytes page holds (inr (inl (why, told, wrong))) =
    inr (inl (why, told, holds_also (λ text. bytes ≡ text) (λ text. IsNoRecord (whole_lines text) why) file (λ text is. subst (λ (t : Text). IsNoRecord (whole_lines t) why) is wrong) holds))
file_told s path file bytes page holds (inr (inr failed)) = inr (inr (inr failed))

-- the file at the path
pub at_path : (folder : Folder) (s : OfficeState) (path : Text) (file : File) (page : Page) → IsFileAt folder (Some path) file → IsSecondTold s path file page
    → (found : File) × IsFileAt folder (Some path) found × IsSecondTold s path found page
at_path folder s path file page found told = (file, found, told)
