-- The orders of a script: the lines of its text, the words of a line, and the order that those words mean.
use Rattle.std.specs.Prelude.{◌≡◌, ◌≢◌, ◌⊎◌, ◌==◌, ◌&&◌, ◌||◌, ◌++◌, ℕ, suc, Bool, true, false, List, [], ◌∷◌, Option, Some, None, Result, Ok, Err}
use Rattle.std.specs.Prelude.{codes, if◌then◌else◌, length, map, nat_lt, fold, string_bytes, IsOkAnd}
use Rattle.std.specs.List.{list_all, list_any}
use Rattle.std.specs.Str.{is_utf8}
use Rattle.clap.specs.Words.{Text, subcommand_of}
use Rattle.desk.specs.Folders.{File, Folder, HoldsText, IsFileAt}
use Rattle.desk.specs.Orders.{no_digest, no_form, no_origin, no_verdict, title_alone, told}
use Rattle.desk.specs.Words.{IsToldOf, bad_digest, bad_form, bad_origin, bad_title, meaning, office_words, status_of_kind, wrong_with}
use Rattle.desk.specs.declared.orders.Errand.{Errand}
use Rattle.desk.specs.declared.orders.Errand.TheVariants as errand
use Rattle.desk.specs.declared.orders.Order.{Order}
use Rattle.desk.specs.declared.orders.Order.TheVariants as order
use Rattle.desk.specs.declared.orders.Job.{Job}
use Rattle.desk.specs.declared.orders.Job.TheVariants as job
use Rattle.desk.specs.declared.orders.Task.TheVariants as task
use Rattle.desk.specs.declared.words.WordsFault.TheVariants as words_fault
use Rattle.desk.specs.declared.lexer.LexerState.{LexerState}
use Rattle.desk.specs.declared.lexer.LexerState.TheVariants.{Between, Within, Quoted}
use Rattle.desk.specs.declared.scripts.Garbled.{Garbled}
use Rattle.desk.specs.declared.scripts.Garbled.TheVariants as garbled
use Rattle.desk.specs.declared.scripts.LineFlaw.{LineFlaw}
use Rattle.desk.specs.declared.scripts.LineFlaw.TheVariants as flaw
use Rattle.desk.specs.declared.scripts.ScriptStep.{ScriptStep}

-- ---- the lines of a text

-- the lines of a text, given the beginning of the first one; a line feed ends a line
abbrev pub lines_from : Text → Text → List Text
lines_from line [] = line ∷ []
lines_from line (byte ∷ bytes) = if byte == 10 then line ∷ lines_from [] bytes else lines_from (line ++ byte ∷ []) bytes

-- a text without its byte order mark, if it has one
abbrev pub behind_byte_order_mark : Text → Text
behind_byte_order_mark (a ∷ b ∷ c ∷ text) = if a == 239 && (b == 187 && c == 191) then text else a ∷ b ∷ c ∷ text
behind_byte_order_mark text = text

-- the lines of a text; a byte order mark at the beginning is skipped
abbrev pub lines_of : Text → List Text
lines_of text = lines_from [] (behind_byte_order_mark text)

-- ---- what is read of a text

-- the whole lines of a text, given the beginning of the first one: each with its line feed, up to the last line feed
abbrev pub whole_lines_from : Text → Text → Text
whole_lines_from line [] = []
whole_lines_from line (byte ∷ bytes) = if byte == 10 then line ++ byte ∷ whole_lines_from [] bytes else whole_lines_from (line ++ byte ∷ []) bytes

-- the whole lines of a text: the text up to and including its last line feed
abbrev pub whole_lines : Text → Text
whole_lines text = whole_lines_from [] text

-- the part of a text that is read: all of it; or only its whole lines, if its last line was cut
abbrev pub part_read : Bool → Text → Text
part_read false text = text
part_read true text = whole_lines text

-- whether the end of a text isn't read
abbrev pub leaves_out : Bool → Text → Bool
leaves_out cut text = nat_lt (length (part_read cut text)) (length text)

-- ---- the words of a line

-- whether a byte is whitespace within a line: a space, a tab, or a carriage return, which may precede a line feed
abbrev pub is_blank : ℕ → Bool
is_blank byte = byte == 32 || (byte == 9 || byte == 13)

-- whether a byte is either kind of quote, " or '
abbrev pub is_quote : ℕ → Bool
is_quote byte = byte == 34 || byte == 39

-- whether a line is skipped: it consists only of whitespace, or its first non-whitespace byte is #
abbrev pub passes_over : Text → Bool
passes_over [] = true
passes_over (byte ∷ bytes) = if is_blank byte then passes_over bytes else byte == 35

-- the state of splitting a line: its complete words, the current word, and the context of the next byte
pub record LexerEntry : Type 0 where
  pub words : List Text
  pub word : Text
  pub place : LexerState

-- the state in which the next byte has the given context
abbrev pub moved_to : LexerState → LexerEntry → LexerEntry
moved_to place c = record { words = c.words; word = c.word; place = place }

-- appends a byte to the current word
abbrev pub with_byte : LexerEntry → ℕ → LexerEntry
with_byte c byte = record { words = c.words; word = c.word ++ byte ∷ []; place = c.place }

-- completes the current word
abbrev pub with_word : LexerEntry → LexerEntry
with_word c = record { words = c.words ++ c.word ∷ []; word = []; place = Between }

-- a non-whitespace byte outside quotes: a quote opens, and any other byte belongs to the word
abbrev pub cut_open : LexerEntry → ℕ → LexerEntry
cut_open c byte = if is_quote byte then moved_to (Quoted byte) c else moved_to Within (with_byte c byte)

-- another byte: inside quotes, each byte up to the same quote belongs to the word; outside quotes, whitespace ends the word
abbrev pub cut_at : LexerState → LexerEntry → ℕ → LexerEntry
cut_at Between c byte = if is_blank byte then c else cut_open c byte
cut_at Within c byte = if is_blank byte then with_word c else cut_open c byte
cut_at (Quoted quote) c byte = if byte == quote then moved_to Within c else with_byte c byte

abbrev pub cut_byte : LexerEntry → ℕ → LexerEntry
cut_byte c byte = cut_at c.place c byte

-- the words of a line after all its bytes have been processed; None if a quote isn't closed
abbrev pub words_at : LexerState → LexerEntry → Option (List Text)
words_at Between c = Some c.words
words_at Within c = Some (c.words ++ c.word ∷ [])
words_at (Quoted quote) c = None

abbrev pub words_cut : LexerEntry → Option (List Text)
words_cut c = words_at c.place c

-- the words of a line; None if a quote isn't closed
abbrev pub words_of : Text → Option (List Text)
words_of line = words_cut (fold cut_byte (record { words = []; word = []; place = Between }) line)

-- ---- a script's lines

-- a line and its number
pub record Numbered : Type 0 where
  pub number : ℕ
  pub words : Option (List Text)

-- the lines that aren't skipped, numbered from `k`
abbrev pub numbered_from : ℕ → List Text → List Numbered
numbered_from k [] = []
numbered_from k (line ∷ lines) = if passes_over line then numbered_from (suc k) lines else record { number = k; words = words_of line } ∷ numbered_from (suc k) lines

-- the words as typed after the program's name, including DB; or the reason why there are none: a quote isn't closed, or a word isn't UTF-8
abbrev pub typed : Option (List Text) → Result (List Text) Garbled
typed None = Err garbled.Quote
typed (Some words) = if list_all is_utf8 words then Ok (codes "DB" ∷ words) else Err garbled.NotUtf8

-- a line as typed
pub record Typed : Type 0 where
  pub number : ℕ
  pub words : Result (List Text) Garbled

abbrev pub typed_line : Numbered → Typed
typed_line line = record { number = line.number; words = typed line.words }

-- the numbered lines of the part of a text that is read, and whether its end is left out
abbrev pub IsNumberedPart : Bool → List Numbered → Bool → Text → Type 0
IsNumberedPart cut lines left_out text = (lines ≡ numbered_from 1 (lines_of (part_read cut text))) × (left_out ≡ leaves_out cut text)

-- a script's lines
abbrev pub script_lines : Text → List Typed
script_lines text = map typed_line (numbered_from 1 (lines_of text))

-- ---- the order of a line

-- whether an errand sends requests; only such errands are allowed in a script
abbrev pub sends_requests : Errand → Bool
sends_requests (errand.Send request) = true
sends_requests (errand.ImportCandidates file id digest) = true
sends_requests (errand.ImportBatches file id digest) = true
sends_requests (errand.ImportKeying keying) = true
sends_requests (errand.SealExpected seal) = true
sends_requests (errand.Count ward id) = true
sends_requests other = false

-- whether an order is allowed in a script: its errand sends requests
abbrev pub is_allowed_in_script : Order → Bool
is_allowed_in_script (order.Perform (task.InOffice (job.Run errand))) = sends_requests errand
is_allowed_in_script other = false

-- the words mean an order that is allowed in a script and has the given errand
pub record Means (words : List Text) (errand : Errand) : Type 0 where
  pub right : wrong_with words ≡ []
  pub means : meaning (subcommand_of office_words words) ≡ Some (told (order.Perform (task.InOffice (job.Run errand))))
  pub sends : sends_requests errand ≡ true

-- a line means the given step
pub record IsStep (line : Typed) (turn : ScriptStep) : Type 0 where
  pub line_number : turn.line ≡ Some line.number
  pub means : IsOkAnd line.words (λ words. Means words turn.errand)

-- the lines mean the given steps, one step per line
abbrev pub AreTurns : List Typed → List ScriptStep → Type 0
AreTurns [] turns = turns ≡ []
AreTurns (line ∷ lines) turns = (turn : ScriptStep) × (others : List ScriptStep) × (turns ≡ turn ∷ others) × IsStep line turn × AreTurns lines others

-- the part of a text that is read is a script with the given steps; and whether its end is left out
abbrev pub IsScriptRead : Bool → Bool → List ScriptStep → Text → Type 0
IsScriptRead cut left_out turns text = AreTurns (script_lines (part_read cut text)) turns × (left_out ≡ leaves_out cut text)

-- The steps of a job, and whether the end of its script is left out. A single errand is one step, without a line number; the steps of a script are the errands that
-- the lines mean which are read of it.
abbrev pub HasSteps : Folder → Job → Bool → List ScriptStep → Type 0
HasSteps folder (job.Run errand) left_out turns = (turns ≡ record { line = None; errand = errand } ∷ []) × (left_out ≡ false)
HasSteps folder (job.Replay script) left_out turns =
    (file : File) × IsFileAt folder (Some script.file.now) file × HoldsText file (IsScriptRead script.cut left_out turns)

-- whether a job continues after refusals: a script does so with `keep_going`
abbrev pub keeps_going : Job → Bool
keeps_going (job.Run errand) = false
keeps_going (job.Replay script) = script.keep_going

-- ---- what is wrong with a line

-- what is wrong with a line, in words
abbrev pub line_flaw_text : LineFlaw → Text
line_flaw_text (flaw.NoWords garbled.Quote) = codes "error: a quote is not closed\n"
line_flaw_text (flaw.NoWords garbled.NotUtf8) = codes "error: a word is not UTF-8\n"
line_flaw_text flaw.Verdict = codes "bad verdict word\n"
line_flaw_text flaw.Origin = bad_origin
line_flaw_text flaw.Digest = bad_digest
line_flaw_text flaw.TitleAlone = bad_title
line_flaw_text flaw.Form = bad_form
line_flaw_text (flaw.Words text) = string_bytes text
line_flaw_text flaw.Elsewhere = codes "error: this order can't be used in a script\n"

-- what is wrong with the words of a line. Either `clap` accepts them, but a verdict, an origin or a digest is invalid, a title is given although nothing is shown
-- in public, or the words after `forms` name no form. Or it is what `clap` reports for them. Or the order, such as one that asks for help, isn't allowed in a script.
abbrev pub IsFlawOfWords : List Text → LineFlaw → Type 0
IsFlawOfWords words (flaw.NoWords why) = ⊥
IsFlawOfWords words flaw.Verdict = (wrong_with words ≡ []) × (meaning (subcommand_of office_words words) ≡ Some no_verdict)
IsFlawOfWords words flaw.Origin = (wrong_with words ≡ []) × (meaning (subcommand_of office_words words) ≡ Some no_origin)
IsFlawOfWords words flaw.Digest = (wrong_with words ≡ []) × (meaning (subcommand_of office_words words) ≡ Some no_digest)
IsFlawOfWords words flaw.TitleAlone = (wrong_with words ≡ []) × (meaning (subcommand_of office_words words) ≡ Some title_alone)
IsFlawOfWords words flaw.Form = (wrong_with words ≡ []) × (meaning (subcommand_of office_words words) ≡ Some no_form)
IsFlawOfWords words (flaw.Words text) = (status : ℕ) × (status ≢ 0) × IsToldOf (wrong_with words) (words_fault.Words text status)
IsFlawOfWords words flaw.Elsewhere =
    (list_any (λ kind. status_of_kind kind == 0) (wrong_with words) ≡ true)
    ⊎ ((o : Order) × (meaning (subcommand_of office_words words) ≡ Some (told o)) × (is_allowed_in_script o ≡ false))

-- what is wrong with a line
abbrev pub IsFlawOf : Result (List Text) Garbled → LineFlaw → Type 0
IsFlawOf (Err why) found = found ≡ flaw.NoWords why
IsFlawOf (Ok words) found = IsFlawOfWords words found

-- line number `k` has the given flaw, and nothing is wrong with the lines before it
abbrev pub IsFirstFlaw : List Typed → ℕ → LineFlaw → Type 0
IsFirstFlaw [] k found = ⊥
IsFirstFlaw (line ∷ lines) k found = ((line.number ≡ k) × IsFlawOf line.words found) ⊎ ((turn : ScriptStep) × IsStep line turn × IsFirstFlaw lines k found)
