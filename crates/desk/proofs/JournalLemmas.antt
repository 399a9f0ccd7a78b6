-- Parsing a text as a script, for a journal and for a script whose files are sent along with it.
use Rattle.std.proofs.Common.{◌≡◌, ◌∙◌, ℕ, List, Option, Some, None, Result, Ok, Err, IfOk, IfSome, inl, map, ap, subst}
use Rattle.clap.specs.Words.{Text}
use Rattle.register.specs.declared.command.Request.{Request}
use Rattle.desk.specs.ScriptFiles.{AreNamedIn, files_of}
use Rattle.desk.specs.Journals.{AreSent, IsScriptOf}
use Rattle.desk.specs.Scripts.{AreTurns, IsFirstFlaw, Numbered, Typed, lines_of, numbered_from, script_lines, typed_line}
use Rattle.desk.specs.declared.scripts.LineFlaw.{LineFlaw}
use Rattle.desk.specs.declared.scripts.ScriptStep.{ScriptStep}

-- the steps in a text's lines are the steps of its script
pub turns_of_text : (text : Text) (read : List Numbered) (said : List Typed) (turns : List ScriptStep) → read ≡ numbered_from 1 (lines_of text) → said ≡ map typed_line read → AreTurns said turns
    → AreTurns (script_lines text) turns
turns_of_text text read said turns is so are = subst (λ (lines : List Typed). AreTurns lines turns) (so ∙ ap (map typed_line) is) are

-- a flaw in one of the text's lines is a flaw in the script
pub flaw_of_text : (text : Text) (read : List Numbered) (said : List Typed) (number : ℕ) (flaw : LineFlaw) → read ≡ numbered_from 1 (lines_of text)
    → said ≡ map typed_line read → IsFirstFlaw said number flaw
    → IsFirstFlaw (script_lines text) number flaw
flaw_of_text text read said number flaw is so first = subst (λ (lines : List Typed). IsFirstFlaw lines number flaw) (so ∙ ap (map typed_line) is) first

-- the requests that the steps send are the script's requests
pub script_found : {V E : Type 0} (items : V → List Request) (text : Text) (turns : List ScriptStep) → AreTurns (script_lines text) turns → (r : Result (Option V) E)
    → IfOk r (λ found. IfSome found (λ requests. AreSent turns (items requests))) → IfOk r (λ found. IfSome found (λ requests. IsScriptOf text (items requests)))
script_found items text turns are (Ok (Some requests)) sent = record { turns = turns; script = are; sends = sent }
script_found items text turns are (Ok None) sent = tt
script_found items text turns are (Err e) sent = tt

-- the files that the steps read are the files that the text names
pub files_found : {V E : Type 0} (paths_of : V → List Text) (text : Text) (turns : List ScriptStep) → AreTurns (script_lines text) turns → (r : Result V E)
    → IfOk r (λ found. paths_of found ≡ files_of turns)
    → IfOk r (λ found. AreNamedIn text (paths_of found))
files_found paths_of text turns are (Ok found) is = inl (turns, are, is)
files_found paths_of text turns are (Err e) is = tt
