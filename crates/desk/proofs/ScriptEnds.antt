-- The outcome of a script from which nothing is sent.
use Rattle.std.proofs.Common.{◌≡◌, ◌≢◌, ◌⊎◌, ◌∙◌, inl, inr, ℕ, Bool, true, false, true≢false, List, [], map, Some, None, refl, sym, ap, subst, arith, eqb-true}
use Rattle.std.specs.Prelude.{◌==◌}
use Rattle.clap.specs.Words.{Text}
use Rattle.sqlite.specs.State.{State}
use Rattle.register.specs.Offices.{OfficeState}
use Rattle.tables.specs.declared.fault.Fault.TheVariants.{Memory}
use Rattle.office.specs.Answers.{IsOpenAt}
use Rattle.desk.specs.Lexing.{IsFaultOfLines, IsReplayOfBy}
use Rattle.desk.specs.Folders.{File, Folder, HoldsText, IsFileAt}
use Rattle.desk.specs.Headline.{Course, IsDoneBy, IsStopped, IsUnsent, ended}
use Rattle.desk.specs.Pages.{Cut, Page, failed, goes_on, script_page}
use Rattle.desk.specs.Parts.{IsUnreadScript}
use Rattle.desk.specs.Told.{IsRefusedScript}
use Rattle.desk.specs.declared.orders.Job.TheVariants as job
use Rattle.desk.specs.declared.orders.ReplayOrder.{ReplayOrder}
use Rattle.desk.specs.declared.lines.Failure.TheVariants.{Office}
use Rattle.desk.specs.declared.scripts.LineFlaw.{LineFlaw}
use Rattle.desk.specs.Scripts.{AreTurns, IsFirstFlaw, IsNumberedPart, IsScriptRead, Numbered, Typed, leaves_out, part_read, script_lines, typed_line}
use Rattle.desk.specs.declared.scripts.ScriptFault.{ScriptFault}
use Rattle.desk.specs.declared.scripts.ScriptFault.TheVariants as script
use Rattle.desk.specs.declared.scripts.ScriptStep.{ScriptStep}

pub holds_also : (P Q : Text → Type 0) (file : File) → ((text : Text) → P text → Q text) → HoldsText file P → HoldsText file Q
holds_also P Q None also holds = absurd holds
holds_also P Q (Some None) also holds = tt
holds_also P Q (Some (Some text)) also holds = also text holds

-- the lines are those of the part of a text that is read, and this says whether its end is left out
abbrev pub AreTyped : Bool → List Typed → Bool → Text → Type 0
AreTyped cut lines left_out text = (lines ≡ script_lines (part_read cut text)) × (left_out ≡ leaves_out cut text)

-- the lines of a file are the lines of its script
pub holds_lines : (cut : Bool) (file : File) (read : List Numbered) (lines : List Typed) (left_out : Bool) → lines ≡ map typed_line read → HoldsText file (IsNumberedPart cut read left_out)
    → HoldsText file (AreTyped cut lines left_out)
holds_lines cut file read lines left_out are holds =
    holds_also (IsNumberedPart cut read left_out) (AreTyped cut lines left_out) file (λ text is. (are ∙ ap (map typed_line) is.0, is.1)) holds

-- the steps in a file's lines are the steps of its script
holds_turns : (cut : Bool) (file : File) (lines : List Typed) (left_out : Bool) (turns : List ScriptStep) → AreTurns lines turns → HoldsText file (AreTyped cut lines left_out)
    → HoldsText file (IsScriptRead cut left_out turns)
holds_turns cut file lines left_out turns are holds =
    holds_also (AreTyped cut lines left_out) (IsScriptRead cut left_out turns) file (λ text is. (subst (λ ls. AreTurns ls turns) is.0 are, is.1)) holds

refused_script : (cut : Bool) (file : File) (page : Page) → IsUnreadScript page → IsRefusedScript cut file page ⊎ (page ≡ failed (Office Memory))
refused_script cut None page (inl unread) = inl unread
refused_script cut (Some told) page (inl unread) = inl (inl unread)
refused_script cut file page (inr memory) = inr memory

first_flaw : (cut : Bool) (file : File) (lines : List Typed) (left_out : Bool) (number : ℕ) (flaw : LineFlaw) → IsFirstFlaw lines number flaw → HoldsText file (AreTyped cut lines left_out)
    → IsRefusedScript cut file (script_page (script.ScriptLine number flaw))
first_flaw cut None lines left_out number flaw is holds = absurd holds
first_flaw cut (Some None) lines left_out number flaw is holds = inr (number, flaw, refl, tt)
first_flaw cut (Some (Some text)) lines left_out number flaw is holds = inr (number, flaw, refl, subst (λ ls. IsFirstFlaw ls number flaw) holds.0 is)

-- ---- what ends a job before its first step

-- the sequence doesn't continue after a nonzero status
stops_at : (page : Page) → page.status ≢ 0 → goes_on false page.status ≡ true → ⊥
stops_at page other goes = by (page.status == 0) refl
  where
    by : (b : Bool) → (page.status == 0) ≡ b → ⊥
    by true e = other (eqb-true page.status 0 e)
    by false e = let none : goes_on false page.status ≡ false = rw e refl in true≢false (sym goes ∙ none)

unread_ends : (page : Page) → IsUnreadScript page → page.status ≢ 0
unread_ends page (inl is) zero = let three : page.status ≡ 3 = ap (λ (p : Page). p.status) is in absurd (omega arith)
unread_ends page (inr is) zero = let three : page.status ≡ 3 = ap (λ (p : Page). p.status) is in absurd (omega arith)

unsent_ended : (Tells : Page → Type 0) (old : State) (closed : Bool) (st : State) (s : OfficeState) (page : Page) (cut : Cut) → page.status ≢ 0
    → (Tells page × IsOpenAt s closed st) ⊎ IsStopped old closed st s page
    → IsUnsent old closed st false None Tells (λ rest. ⊥) s (ended None [] 0 page cut)
unsent_ended Tells old closed st s page cut other why = inr (page, cut, refl, (λ goes. absurd (stops_at page other goes)), why)

-- a script's file at a path, and an office that is open in the given state
module _ (recorded : Bool) (folder : Folder) (s : OfficeState) (asked : ReplayOrder) (file : File) (found : IsFileAt folder (Some asked.file.now) file) (old : State) (closed : Bool) (st : State) where
  out_of_memory : (page : Page) (cut : Cut) → page ≡ failed (Office Memory) → IsOpenAt s closed st → IsDoneBy recorded old closed st folder s (job.Replay asked) (ended None [] 0 page cut)
  out_of_memory page cut is here = inr (unsent_ended _ old closed st s page cut (unread_ends page (inr is)) (inr (Memory, is, (inl refl, inl (record { memory = refl; open_at = here })))))

  -- the outcome of a script that can't be read
  pub replay_unread : (page : Page) (cut : Cut) → IsUnreadScript page → IsOpenAt s closed st → IsDoneBy recorded old closed st folder s (job.Replay asked) (ended None [] 0 page cut)
  replay_unread page cut why here = elim (refused_script asked.cut file page why) [
    | inl refused ↦ inr (unsent_ended _ old closed st s page cut (unread_ends page why) (inl ((file, found, refused), here)))
    | inr memory ↦ out_of_memory page cut memory here
  ]

  -- the outcome if a line isn't understood or an allocation fails
  replay_fault : (lines : List Typed) (left_out : Bool) (fault : ScriptFault) (cut : Cut) → IsFaultOfLines lines fault → HoldsText file (AreTyped asked.cut lines left_out)
      → IsOpenAt s closed st → IsDoneBy recorded old closed st folder s (job.Replay asked) (ended None [] 0 (script_page fault) cut)
  replay_fault lines left_out script.Memory cut is holds here = out_of_memory (script_page script.Memory) cut refl here
  replay_fault lines left_out (script.ScriptLine number flaw) cut is holds here =
      inr (unsent_ended _ old closed st s (script_page (script.ScriptLine number flaw)) cut (λ zero. absurd (omega arith))
      (inl ((file, found, first_flaw asked.cut file lines left_out number flaw is holds), here)))

  -- the outcome of a script's lines
  pub replay_of : (lines : List Typed) (left_out : Bool) (c : Course) → HoldsText file (AreTyped asked.cut lines left_out)
      → IsReplayOfBy recorded left_out asked.keep_going folder s lines c old closed st → IsDoneBy recorded old closed st folder s (job.Replay asked) c
  replay_of lines left_out c holds (inl (turns, are, begun)) = inl (turns, left_out, (file, found, holds_turns asked.cut file lines left_out turns are holds), begun)
  replay_of lines left_out c holds (inr (why, cut, is, wrong, here)) =
      subst (λ e. IsDoneBy recorded old closed st folder s (job.Replay asked) e) (sym is) (replay_fault lines left_out why cut wrong holds here)

pub no_output : (fault : ScriptFault) → (script_page fault).out ≡ []
no_output script.Memory = refl
no_output (script.ScriptLine number flaw) = refl
