-- The mathematical values that the program's values for a script represent.
use Rattle.std.specs.Prelude.{◌≡◌, ◌⊎◌, ⊤, Bool, List, [], None, Result, Ok, Err, map, option_map}
use Rattle.std.specs.Borrow.{Bor}
use Rattle.std.specs.declared.vec.Vec.{Vec}
use Rattle.std.specs.declared.alloc.Global.{Global}
use Rattle.clap.specs.Words.{Text}
use Rattle.sqlite.specs.State.{State}
use Rattle.register.specs.Offices.{OfficeState}
use Rattle.office.specs.Answers.{IsOpenAt}
use Rattle.desk.specs.Headline.{Course, IsBegunBy, ended}
use Rattle.desk.specs.Folders.{Folder}
use Rattle.desk.specs.Pages.{Cut, script_page}
use Rattle.desk.specs.Scripts.{AreTurns, LexerEntry, IsFirstFlaw, IsFlawOf, Numbered, Typed}
use Rattle.desk.specs.declared.lexer.Lexer.{Lexer}
use Rattle.desk.specs.declared.scripts.ScriptLine.{ScriptLine}
use Rattle.desk.specs.declared.scripts.TypedLine.{TypedLine}
use Rattle.desk.specs.declared.scripts.Garbled.{Garbled}
use Rattle.desk.specs.declared.scripts.ScriptFault.{ScriptFault}
use Rattle.desk.specs.declared.scripts.ScriptStep.{ScriptStep}
use Rattle.desk.specs.declared.scripts.ScriptFault.TheVariants as fault

-- the state of splitting a line
abbrev pub lexer_entry : Lexer → LexerEntry
lexer_entry c = record { words = map (λ w. w.items) c.words.items; word = c.word.items; place = c.place }

-- a line and its number
abbrev pub line_entry : ScriptLine → Numbered
line_entry line = record { number = line.number; words = option_map (λ ws. map (λ w. w.items) ws.items) line.words }

-- the words as typed
abbrev pub said_words : Result (Vec (Bor Text) Global) Garbled → Result (List Text) Garbled
said_words (Ok texts) = Ok (map (λ text. text.now) texts.items)
said_words (Err why) = Err why

-- the line as typed
abbrev pub typed_line_entry : TypedLine → Typed
typed_line_entry said = record { number = said.number; words = said_words said.words }

-- the fault says what is wrong with the given line, or that an allocation failed
abbrev pub IsFaultOfLine : Typed → ScriptFault → Type 0
IsFaultOfLine line fault.Memory = ⊤
IsFaultOfLine line (fault.ScriptLine number flaw) = (line.number ≡ number) × IsFlawOf line.words flaw

-- the fault says what is wrong with the first line that isn't a step, or that an allocation failed
abbrev pub IsFaultOfLines : List Typed → ScriptFault → Type 0
IsFaultOfLines lines fault.Memory = ⊤
IsFaultOfLines lines (fault.ScriptLine number flaw) = IsFirstFlaw lines number flaw

-- the outcome of a script's lines: either their steps are run, after a note if the end of the script is left out; or what is wrong with the lines is reported, and
-- nothing is sent
abbrev pub IsReplayOfBy : Bool → Bool → Bool → Folder → OfficeState → List Typed → Course → State → Bool → State → Type 0
IsReplayOfBy recorded left_out keep folder s lines course old closed st =
    ((turns : List ScriptStep) × AreTurns lines turns × IsBegunBy recorded old closed st left_out keep folder s turns course)
    ⊎ ((why : ScriptFault) × (cut : Cut) × (course ≡ ended None [] 0 (script_page why) cut) × IsFaultOfLines lines why × IsOpenAt s closed st)
