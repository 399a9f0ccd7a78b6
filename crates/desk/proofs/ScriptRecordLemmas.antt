-- What a stop leaves of a record to which the entry of a request was appended.
use Rattle.std.proofs.Common.{◌≡◌, ◌⊎◌, ◌∙◌, ◌≤◌, ◌-◌, inl, inr, ℕ, zero, suc, Bool, true, false, List, [], ◌∷◌, ◌++◌, Option, Some, None, IfSome}
use Rattle.std.proofs.Common.{Result, Ok, Err, length, take, refl, sym, ap, arith, subst, leb, leb-true, leb-false}
use Rattle.std.specs.Prelude.{◌&&◌, OnErr}
use Rattle.std.proofs.lemmas.List.{append-nil, append_assoc, take-append-le, take_all}
use Rattle.register.specs.Machine.{after, after_one, is_accepted, state_after, step_of}
use Rattle.register.specs.Offices.{OfficeState, empty_office}
use Rattle.register.specs.declared.command.Request.{Request}
use Rattle.clap.specs.Words.{Text}
use Rattle.office.specs.Runs.{LeadTo, are_accepted}
use Rattle.desk.specs.Journals.{IsJournalOf, IsScriptOf}
use Rattle.desk.specs.Records.{Appended, AppendsAll, AppendsSome, FlushesAll, IsLeftOf, IsRecordOf, Leaves, LeavesRecord, Records}
use Rattle.desk.specs.Scripts.{whole_lines}
use Rattle.desk.specs.RequestLines.{IsComment, IsEntryOf, IsLineOf}
use Rattle.desk.specs.ScriptRecords.{HoldsJournal, PutsAll}
use Rattle.desk.proofs.ContentLemmas.{same_step}
use Rattle.desk.proofs.ScriptContinues.{script_continues, whole_cut, whole_with}

-- ---- another request that is accepted

both : (a b : Bool) → (a && b) ≡ true → (a ≡ true) × (b ≡ true)
both true b is = (refl, is)
both false b is = absurd (cc is)

accepted_more : (s : OfficeState) (requests : List Request) (said : Request) → are_accepted s requests ≡ true → is_accepted (step_of (after s requests) said) ≡ true
    → are_accepted s (requests ++ said ∷ []) ≡ true
accepted_more s [] said all one = rw one refl
accepted_more s (r ∷ rs) said all one =
    let it = both (is_accepted (step_of s r)) (are_accepted (after_one s r) rs) all in
    rw it.0 (accepted_more (after_one s r) rs said it.1 one)

after_more : (s : OfficeState) (requests : List Request) (said : Request) → after s (requests ++ said ∷ []) ≡ after_one (after s requests) said
after_more s [] said = refl
after_more s (r ∷ rs) said = after_more (after_one s r) rs said

lead_more : (s : OfficeState) (requests : List Request) (said : Request) → LeadTo requests s → is_accepted (step_of s said) ≡ true → LeadTo (requests ++ said ∷ []) (after_one s said)
lead_more s requests said lead one =
    record {
      accepted = accepted_more empty_office requests said lead.accepted (rw lead.leads one);
      leads = after_more empty_office requests said ∙ ap (λ (x : OfficeState). after_one x said) lead.leads;
    }

-- ---- a journal and the entry of a request

-- a journal of whole lines, and the line of an accepted request
journal_with_line : (s : OfficeState) (text line : Text) (request : Request) → whole_lines text ≡ text → IsJournalOf s text → IsLineOf line request → is_accepted (step_of s request) ≡ true
    → IsJournalOf (after_one s request) (text ++ line)
journal_with_line s text line request whole (requests, script, lead) it accepted =
    let step : step_of s it.said ≡ step_of s request = same_step s it.said request it.same in
    let next : LeadTo (requests ++ it.said ∷ []) (after_one s it.said) = lead_more s requests it.said lead (ap is_accepted step ∙ accepted) in (
      requests ++ it.said ∷ [],
      script_continues text line requests (it.said ∷ []) whole it.whole script it.script,
      subst (λ (x : OfficeState). LeadTo (requests ++ it.said ∷ []) x) (ap (state_after s) step) next,
    )

-- a journal of whole lines, and a comment
journal_with_comment : (s : OfficeState) (text comment : Text) → whole_lines text ≡ text → IsJournalOf s text → IsComment comment
    → (whole_lines (text ++ comment) ≡ text ++ comment) × IsJournalOf s (text ++ comment)
journal_with_comment s text comment whole journal (inl none) =
    let same : text ++ comment ≡ text = ap (λ (t : Text). text ++ t) none ∙ append-nil text in
    (ap whole_lines same ∙ whole ∙ sym same, subst (IsJournalOf s) (sym same) journal)
journal_with_comment s text comment whole (requests, script, lead) (inr (one, nothing)) = (
  whole_with text comment whole one,
  (requests, subst (IsScriptOf (text ++ comment)) (append-nil requests) (script_continues text comment requests [] whole one script nothing), lead),
)

-- whole lines and an entry are whole lines, and a journal of the state after the request
entry_whole : (s : OfficeState) (text entry : Text) (request : Request) → whole_lines text ≡ text → IsJournalOf s text → IsEntryOf entry request → is_accepted (step_of s request) ≡ true
    → (whole_lines (text ++ entry) ≡ text ++ entry) × IsJournalOf (after_one s request) (text ++ entry)
entry_whole s text entry request whole journal it accepted =
    let front = journal_with_comment s text it.comment whole journal it.skipped in
    let same : (text ++ it.comment) ++ it.line ≡ text ++ entry = append_assoc text it.comment it.line ∙ ap (λ (t : Text). text ++ t) (sym it.is) in (
      ap whole_lines (sym same) ∙ whole_with (text ++ it.comment) it.line front.0 it.sends.whole ∙ same,
      subst (IsJournalOf (after_one s request)) same (journal_with_line s (text ++ it.comment) it.line request front.0 front.1 it.sends accepted),
    )

-- the states to which a record may lead while a request is recorded
abbrev IsBeforeOrAfter : OfficeState → Request → OfficeState → Type 0
IsBeforeOrAfter s request x = (x ≡ s) ⊎ (x ≡ after_one s request)

abbrev LeadsAlong : OfficeState → Request → Text → Type 0
LeadsAlong s request text = (x : OfficeState) × IsBeforeOrAfter s request x × IsJournalOf x (whole_lines text)

still : (s : OfficeState) (request : Request) (text whole : Text) → whole_lines text ≡ whole → IsJournalOf s whole → LeadsAlong s request text
still s request text whole is journal = (s, inl refl, subst (IsJournalOf s) (sym is) journal)

-- a part of a comment adds nothing
comment_cut : (s : OfficeState) (request : Request) (text comment : Text) (k : ℕ) → whole_lines text ≡ text → IsJournalOf s text → IsComment comment → LeadsAlong s request (text ++ take k comment)
comment_cut s request text comment k whole journal (inl none) =
    let same : text ++ take k comment ≡ text = ap (λ (t : Text). text ++ take k t) none ∙ ap (λ (t : Text). text ++ t) (take_all k [] (omega arith)) ∙ append-nil text in
    still s request (text ++ take k comment) text (ap whole_lines same ∙ whole) journal
comment_cut s request text comment k whole journal (inr (one, nothing)) =
    elim (whole_cut text comment k whole one) [
      | inl cut ↦ still s request (text ++ take k comment) text cut journal
      | inr all ↦
          let front = journal_with_comment s text comment whole journal (inr (one, nothing)) in
          still s request (text ++ take k comment) (text ++ comment) (ap (λ (t : Text). whole_lines (text ++ t)) all ∙ front.0) front.1
    ]

-- of a line that was cut off, nothing is left; a whole one leads to the state after the request
line_cut : (s : OfficeState) (text line : Text) (request : Request) (k : ℕ) → whole_lines text ≡ text → IsJournalOf s text → IsLineOf line request → is_accepted (step_of s request) ≡ true
    → LeadsAlong s request (text ++ take k line)
line_cut s text line request k whole journal it accepted =
    elim (whole_cut text line k whole it.whole) [
      | inl cut ↦ still s request (text ++ take k line) text cut journal
      | inr all ↦ (
        after_one s request,
        inr refl,
        subst (IsJournalOf (after_one s request)) (sym (ap (λ (t : Text). whole_lines (text ++ t)) all ∙ whole_with text line whole it.whole))
            (journal_with_line s text line request whole journal it accepted),
      )
    ]

-- the beginning of a list that ends within its second part
take_past : {X : Type 0} (k : ℕ) (xs ys : List X) → length xs ≤ k → take k (xs ++ ys) ≡ xs ++ take (k - length xs) ys
take_past k [] ys within = let same : k ≡ k - 0 = omega arith in ap (λ (n : ℕ). take n ys) same
take_past zero (x ∷ xs) ys within = absurd (omega (arith, within))
take_past (suc k) (x ∷ xs) ys within =
    let same : k - length xs ≡ suc k - length (x ∷ xs) = omega arith in
    ap (λ zs. x ∷ zs) (take_past k xs ys (omega (arith, within)) ∙ ap (λ (n : ℕ). xs ++ take n ys) same)

-- whatever part of an entry was appended
entry_cut : (s : OfficeState) (text entry : Text) (request : Request) (k : ℕ) → whole_lines text ≡ text → IsJournalOf s text → IsEntryOf entry request → is_accepted (step_of s request) ≡ true
    → LeadsAlong s request (text ++ take k entry)
entry_cut s text entry request k whole journal it accepted = subst (λ (e : Text). LeadsAlong s request (text ++ take k e)) (sym it.is) (by (leb k (length it.comment)) refl)
  where
    by : (e : Bool) → leb k (length it.comment) ≡ e → LeadsAlong s request (text ++ take k (it.comment ++ it.line))
    by true e =
        subst (λ (t : Text). LeadsAlong s request (text ++ t)) (sym (take-append-le k it.comment it.line (leb-true k (length it.comment) e)))
        (comment_cut s request text it.comment k whole journal it.skipped)
    by false e =
        let within : length it.comment ≤ k = omega (arith, leb-false k (length it.comment) e) in
        let n = k - length it.comment in
        let front = journal_with_comment s text it.comment whole journal it.skipped in
        let same : (text ++ it.comment) ++ take n it.line ≡ text ++ take k (it.comment ++ it.line) =
        append_assoc text it.comment (take n it.line) ∙ ap (λ (t : Text). text ++ t) (sym (take_past k it.comment it.line within)) in
        subst (LeadsAlong s request) same (line_cut s (text ++ it.comment) it.line request n front.0 front.1 it.sends accepted)

-- ---- a file

-- all that was appended to a file
abbrev all_of : Appended → Text
all_of file = file.flushed ++ file.pending

left_all : (file : Appended) → IsLeftOf file (all_of file)
left_all file = record { count = length file.pending; is = ap (λ (t : Text). file.flushed ++ t) (sym (take_all (length file.pending) file.pending (omega arith))) }

-- a file that holds a journal is a record
holds_record : (text : Text) (s : OfficeState) → whole_lines text ≡ text → IsJournalOf s text → IsRecordOf (Leaves (Some (record { flushed = text; pending = [] }))) s
holds_record text s whole journal =
    record {
      known = (text, record { count = 0; is = sym (append-nil text) });
      whole = λ other left. subst (λ (t : Text). whole_lines t ≡ t) (sym (same other left)) whole;
      leads = λ other left. (s, refl, subst (IsJournalOf s) (sym (ap whole_lines (same other left) ∙ whole)) journal);
    }
  where
    same : (other : Text) → IsLeftOf (record { flushed = text; pending = [] }) other → other ≡ text
    same other left = left.is ∙ ap (λ (t : Text). text ++ t) (take_all left.count [] (omega arith)) ∙ append-nil text

pub begins_record : (kept : Option Appended) (s : OfficeState) → HoldsJournal kept s → IsRecordOf (Leaves kept) s
begins_record kept s it = subst (λ (k : Option Appended). IsRecordOf (Leaves k) s) (sym it.is) (holds_record it.text s it.whole it.journal)

-- what a record leads to is a journal
leads_exactly : (file : Appended) (s : OfficeState) (text : Text) → IsRecordOf (Leaves (Some file)) s → IsLeftOf file text → IsJournalOf s text
leads_exactly file s text is left =
    let it = is.leads text left in
    subst (IsJournalOf s) (is.whole text left) (subst (λ (x : OfficeState). IsJournalOf x (whole_lines text)) it.1 it.2)

-- the file after the entry was appended and flushed
abbrev with_entry : Appended → Text → Appended
with_entry file entry = record { flushed = file.flushed ++ (file.pending ++ entry); pending = [] }

left_whole : (file : Appended) (entry text : Text) → IsLeftOf (with_entry file entry) text → text ≡ all_of file ++ entry
left_whole file entry text left =
    left.is ∙ ap (λ (t : Text). (file.flushed ++ (file.pending ++ entry)) ++ t) (take_all left.count [] (omega arith)) ∙ append-nil (file.flushed ++ (file.pending ++ entry))
    ∙ sym (append_assoc file.flushed file.pending entry)

record_whole : (file : Appended) (entry : Text) (request : Request) (s : OfficeState) → IsEntryOf entry request → is_accepted (step_of s request) ≡ true → IsRecordOf (Leaves (Some file)) s
    → IsRecordOf (Leaves (Some (with_entry file entry))) (after_one s request)
record_whole file entry request s it accepted is =
    let next = entry_whole s (all_of file) entry request (is.whole (all_of file) (left_all file)) (leads_exactly file s (all_of file) is (left_all file)) it accepted in
    record {
      known = ((with_entry file entry).flushed, record { count = 0; is = sym (append-nil (with_entry file entry).flushed) });
      whole = λ text left. subst (λ (t : Text). whole_lines t ≡ t) (sym (left_whole file entry text left)) next.0;
      leads = λ text left. (after_one s request, refl, subst (IsJournalOf (after_one s request)) (sym (ap whole_lines (left_whole file entry text left) ∙ next.0)) next.1);
    }

-- what a stop leaves of a record that is complete after a request
leaves_after : (new : Option Appended) (request : Request) (s : OfficeState) → IsRecordOf (Leaves new) (after_one s request) → LeavesRecord (Leaves new) (IsBeforeOrAfter s request)
leaves_after new request s is text left = let it = is.leads text left in (it.0, inr it.1, it.2)

leaves_before : (new : Option Appended) (request : Request) (s : OfficeState) → IsRecordOf (Leaves new) s → LeavesRecord (Leaves new) (IsBeforeOrAfter s request)
leaves_before new request s is text left = let it = is.leads text left in (it.0, inl it.1, it.2)

-- the entry was appended and flushed
pub records_all : (old new : Option Appended) (entry : Text) (request : Request) → IsEntryOf entry request → PutsAll old new entry → Records request (Leaves old) (Leaves new) false
records_all None new entry request it puts =
    record { whole = λ fine s accepted is. absurd is.known.1; leaves = λ s accepted is. absurd is.known.1 }
records_all (Some file) new entry request it puts =
    record {
      whole = λ fine s accepted is. subst (λ (f : Option Appended). IsRecordOf (Leaves f) (after_one s request)) (sym puts) (record_whole file entry request s it accepted is);
      leaves = λ s accepted is.
          leaves_after new request s (subst (λ (f : Option Appended). IsRecordOf (Leaves f) (after_one s request)) (sym puts) (record_whole file entry request s it accepted is));
    }

-- the file after a beginning of the entry was appended
abbrev with_part : Appended → Text → ℕ → Appended
with_part file entry count = record { flushed = file.flushed; pending = file.pending ++ take count entry }

-- the beginning of a beginning of a list is a beginning of it
take_within : {X : Type 0} (k n : ℕ) (xs : List X) → (m : ℕ) × (take k (take n xs) ≡ take m xs)
take_within zero n xs = (0, refl)
take_within (suc k) zero xs = (0, refl)
take_within (suc k) (suc n) [] = (0, refl)
take_within (suc k) (suc n) (x ∷ xs) = let it = take_within k n xs in (suc it.0, ap (λ ys. x ∷ ys) it.1)

leaves_part : (file : Appended) (entry : Text) (count : ℕ) (request : Request) (s : OfficeState) → IsEntryOf entry request → is_accepted (step_of s request) ≡ true
    → IsRecordOf (Leaves (Some file)) s → LeavesRecord (Leaves (Some (with_part file entry count))) (IsBeforeOrAfter s request)
leaves_part file entry count request s it accepted is text left = by (leb left.count (length file.pending)) refl
  where
    by : (e : Bool) → leb left.count (length file.pending) ≡ e → LeadsAlong s request text
    by true e =
        let same : text ≡ file.flushed ++ take left.count file.pending =
        left.is ∙ ap (λ (t : Text). file.flushed ++ t) (take-append-le left.count file.pending (take count entry) (leb-true left.count (length file.pending) e)) in
        let found = is.leads text (record { count = left.count; is = same }) in
        (found.0, inl found.1, found.2)
    by false e =
        let part = take count entry in
        let past : length file.pending ≤ left.count = omega (arith, leb-false left.count (length file.pending) e) in
        let n = left.count - length file.pending in
        let m = take_within n count entry in
        let same : text ≡ all_of file ++ take m.0 entry =
        left.is ∙ ap (λ (t : Text). file.flushed ++ t) (take_past left.count file.pending part past) ∙ sym (append_assoc file.flushed file.pending (take n part))
        ∙ ap (λ (t : Text). all_of file ++ t) m.1 in
        subst (LeadsAlong s request) (sym same)
        (entry_cut s (all_of file) entry request m.0 (is.whole (all_of file) (left_all file)) (leads_exactly file s (all_of file) is (left_all file)) it accepted)

-- a beginning of the entry was appended, and the record failed
pub records_some : (old new : Option Appended) (entry : Text) (request : Request) → IsEntryOf entry request → AppendsSome old new entry → Records request (Leaves old) (Leaves new) true
records_some None new entry request it some = record { whole = λ fine s accepted is. absurd is.known.1; leaves = λ s accepted is. absurd is.known.1 }
records_some (Some file) new entry request it some =
    record {
      whole = λ fine s accepted is. absurd (cc fine);
      leaves = λ s accepted is.
          subst (λ (f : Option Appended). LeavesRecord (Leaves f) (IsBeforeOrAfter s request)) (sym some.1) (leaves_part file entry some.0 request s it accepted is);
    }

-- nothing was appended, and the record failed
pub records_none : (old new : Option Appended) (request : Request) → new ≡ old → Records request (Leaves old) (Leaves new) true
records_none old new request same =
    record {
      whole = λ fine s accepted is. absurd (cc fine);
      leaves = λ s accepted is. leaves_before new request s (subst (λ (f : Option Appended). IsRecordOf (Leaves f) s) (sym same) is);
    }

-- ---- appending and flushing

pub puts_all : (old middle new : Option Appended) (bytes : Text) → AppendsAll old middle bytes → FlushesAll middle new → PutsAll old new bytes
puts_all None middle new bytes appended flushed = tt
puts_all (Some file) middle new bytes appended flushed =
    subst (λ (f : Option Appended). FlushesAll f new) appended flushed

pub unflushed : (old middle new : Option Appended) (bytes : Text) → AppendsAll old middle bytes → IfSome middle (λ file. new ≡ Some file) → AppendsSome old new bytes
unflushed None middle new bytes appended same = tt
unflushed (Some file) middle new bytes appended same =
    let it : new ≡ Some (record { flushed = file.flushed; pending = file.pending ++ bytes }) = subst (λ (f : Option Appended). IfSome f (λ (g : Appended). new ≡ Some g)) appended same in
    (length bytes, it ∙ ap (λ (t : Text). Some (record { flushed = file.flushed; pending = file.pending ++ t })) (sym (take_all (length bytes) bytes (omega arith))))

-- the flush failed after the bytes had been appended
pub flush_failed : {V E : Type 0} (r : Result V E) (old middle new : Option Appended) (bytes : Text) → AppendsAll old middle bytes → OnErr r (IfSome middle (λ file. new ≡ Some file))
    → OnErr r (AppendsSome old new bytes)
flush_failed (Ok v) old middle new bytes appended same = tt
flush_failed (Err e) old middle new bytes appended same = unflushed old middle new bytes appended same
