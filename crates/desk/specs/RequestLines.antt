-- The line of a script that sends a request.
use Rattle.std.specs.Prelude.{◌==◌, ◌++◌, ℕ, Bool, List, codes, if◌then◌else◌, nat_eq, ◌≡◌, ◌⊎◌, false, [], ◌∷◌}
use Rattle.std.specs.Char.{encode_utf8}
use Rattle.std.specs.Fmt.{decimal}
use Rattle.std.specs.List.{flat_map, starts_with, list_any}
use Rattle.std.specs.Str.{chars}
use Rattle.clap.specs.Words.{Text}
use Rattle.register.specs.declared.command.Request.{Request}
use Rattle.desk.specs.Orders.{Asked, Sent, batch_for_third_clerk, batch_to_add, batch_to_key_again, candidate_to_add, candidate_to_withdraw, keying_to_keep, lot_to_record}
use Rattle.desk.specs.Orders.{paper_to_judge, sent_as, stage_to_count, ward_to_add, ward_to_close, ward_to_declare, ward_to_seal}
use Rattle.desk.specs.Verdicts.{Judgement, accepted, rejected}
use Rattle.desk.specs.Journals.{IsScriptOf}
use Rattle.desk.specs.Scripts.{behind_byte_order_mark}

-- ---- how the line of a request is written

-- a character within double quotes; a double quote is written in single quotes
abbrev pub quoted_character : ℕ → Text
quoted_character c = if c == 34 then codes "\"'\"'\"" else encode_utf8 c

-- a text as one word in double quotes
unfoldable pub quoted : Text → Text
quoted text = codes "\"" ++ (flat_map quoted_character (chars text) ++ codes "\"")

-- whether a word would be read as an option
abbrev pub looks_like_option : Text → Bool
looks_like_option word = starts_with nat_eq word (codes "-")

-- an id, after the words of an order
unfoldable pub id_words : Text → Text
id_words id = (if looks_like_option id then codes " --id=" else codes " --id ") ++ id

-- the line of an order with the given words and id
unfoldable pub line_with : Text → Text → Text
line_with words id = words ++ (id_words id ++ codes "\n")

-- the line of an order whose words end with a name; a name that would be read as an option follows `--`, which ends the options
unfoldable pub named_line : Text → Text → Text → Text
named_line words name id =
    if looks_like_option name then words ++ (id_words id ++ (codes " -- " ++ (quoted name ++ codes "\n")))
    else words ++ (codes " " ++ (quoted name ++ (id_words id ++ codes "\n")))

-- a paper's marks, after the words of a keying
abbrev pub marks_words : Text → Text
marks_words marks = codes " " ++ marks

-- the line of an order that stores a keying: the marks of its papers follow its id
unfoldable pub keying_line : Text → Text → List Text → Text
keying_line words id papers = words ++ (id_words id ++ (flat_map marks_words papers ++ codes "\n"))

-- a verdict, as one word
abbrev pub verdict_word : Judgement → Text
verdict_word (accepted marks) = codes "accept:" ++ marks
verdict_word (rejected code) = codes "reject:" ++ decimal code

-- an order's name, and numbers
abbrev pub one_number : Text → ℕ → Text
one_number name a = name ++ (codes " " ++ decimal a)

abbrev pub two_numbers : Text → ℕ → ℕ → Text
two_numbers name a b = name ++ (codes " " ++ (decimal a ++ (codes " " ++ decimal b)))

abbrev pub three_numbers : Text → ℕ → ℕ → ℕ → Text
three_numbers name a b c = name ++ (codes " " ++ (decimal a ++ (codes " " ++ (decimal b ++ (codes " " ++ decimal c)))))

abbrev pub five_numbers : Text → ℕ → ℕ → ℕ → ℕ → ℕ → Text
five_numbers name a b c d e = name ++ (codes " " ++ (decimal a ++ (codes " " ++ (decimal b ++ (codes " " ++ (decimal c ++ (codes " " ++ (decimal d ++ (codes " " ++ decimal e)))))))))

-- the line of an actor's order under an id, given what it asks for
abbrev pub line_asking : ℕ → Text → Asked → Text
line_asking actor id (ward_to_add ward seats name) = named_line (two_numbers (codes "ward") ward seats) name id
line_asking actor id (ward_to_close ward) = line_with (one_number (codes "close") ward) id
line_asking actor id (candidate_to_add ward candidate name) = named_line (two_numbers (codes "candidate") ward candidate) name id
line_asking actor id (candidate_to_withdraw ward candidate) = line_with (two_numbers (codes "withdraw") ward candidate) id
line_asking actor id (batch_to_add batch ward size first_clerk second_clerk) = line_with (five_numbers (codes "batch") batch ward size first_clerk second_clerk) id
line_asking actor id (batch_to_key_again batch) = line_with (one_number (codes "again") batch) id
line_asking actor id (batch_for_third_clerk batch clerk) = line_with (two_numbers (codes "third") batch clerk) id
line_asking actor id (keying_to_keep batch round papers) = keying_line (three_numbers (codes "key") actor batch round) id papers
line_asking actor id (paper_to_judge batch paper judgement) = line_with (two_numbers (codes "judge") batch paper ++ (codes " " ++ verdict_word judgement)) id
line_asking actor id (ward_to_seal ward) = line_with (one_number (codes "seal") ward) id
line_asking actor id (stage_to_count ward) = line_with (one_number (codes "advance") ward) id
line_asking actor id (lot_to_record ward stage candidate) = line_with (three_numbers (codes "lot") ward stage candidate) id
line_asking actor id (ward_to_declare ward) = line_with (one_number (codes "declare") ward) id

-- the line of a request
abbrev pub line_text : Sent → Text
line_text sent = line_asking sent.actor sent.id sent.asked

-- ---- what a line sends

-- One whole line of a script: a line feed ends it, there is no other line feed in it, and it doesn't begin with a byte order mark.
pub record IsWholeLine (line : Text) : Type 0 where
  pub words : Text
  pub ends : line ≡ words ++ 10 ∷ []
  pub one : list_any (λ byte. byte == 10) words ≡ false
  pub unmarked : behind_byte_order_mark line ≡ line

-- The line sends the request: it is one whole line, and a script of a single request, which has the same actor and id and asks for the same.
pub record IsLineOf (line : Text) (request : Request) : Type 0 where
  pub said : Request
  pub same : sent_as said ≡ sent_as request
  pub script : IsScriptOf line (said ∷ [])
  pub whole : IsWholeLine line

-- nothing, or one whole line that sends nothing
abbrev pub IsComment : Text → Type 0
IsComment text = (text ≡ []) ⊎ (IsWholeLine text × IsScriptOf text [])

-- What is appended to a record for a request: the line that sends it, perhaps after a comment.
pub record IsEntryOf (text : Text) (request : Request) : Type 0 where
  pub comment : Text
  pub line : Text
  pub is : text ≡ comment ++ line
  pub skipped : IsComment comment
  pub sends : IsLineOf line request

-- The request has no line: the one that would be written for it isn't one that sends it.
abbrev pub HasNoLine : Request → Type 0
HasNoLine request = IsLineOf (line_text (sent_as request)) request → ⊥
