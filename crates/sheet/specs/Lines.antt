-- Lines and the columns in them.
use Rattle.std.specs.Prelude.{ℕ, ◌-◌, ◌||◌, ◌==◌, if◌then◌else◌, List, [], ◌∷◌, ◌++◌, length, replicate, codes, decimal}
use Rattle.std.specs.List.{flat_map}
use Rattle.votes.specs.Text.{votes_text}
use Rattle.count.specs.declared.stages.Action.{Action}
use Rattle.count.specs.declared.stages.Action.TheVariants.{First, Surplus, Exclude, ExcludeLast}

-- the parts of a text, joined in order
unfoldable pub joined : List (List ℕ) → List ℕ
joined parts = flat_map (λ part. part) parts

-- a line consists of its parts in order, and one newline
unfoldable pub line : List (List ℕ) → List ℕ
line parts = flat_map (λ part. part) parts ++ codes "\n"

-- a text, right-aligned in the given number of columns
abbrev pub right_in : ℕ → List ℕ → List ℕ
right_in places text = replicate (places - length text) 32 ++ text

-- a candidate's number, right-aligned in 2 columns
abbrev pub number_column : ℕ → List ℕ
number_column c = right_in 2 (decimal c)

-- the text of a value, right-aligned in 13 columns
abbrev pub value_column : ℕ → List ℕ
value_column units = right_in 13 (votes_text units)

-- a range of stages, given the numbers of the first and the last: `Stages 1 to 8`, `Stage 9`
abbrev pub span : ℕ → ℕ → List ℕ
span first last = if first == last then codes "Stage " ++ decimal first else codes "Stages " ++ decimal first ++ codes " to " ++ decimal last

-- a candidate's number, preceded by a space
abbrev pub preference : ℕ → List ℕ
preference c = codes " " ++ decimal c

-- the numbers of the given candidates, each preceded by a space
abbrev pub preferences : List ℕ → List ℕ
preferences list = flat_map preference list

-- a byte of a quoted text: a quotation mark (34) and a backslash (92) are each preceded by a backslash
abbrev pub escaped : ℕ → List ℕ
escaped byte = if (byte == 34) || (byte == 92) then 92 ∷ byte ∷ [] else byte ∷ []

-- a text in quotation marks
abbrev pub quoted : List ℕ → List ℕ
quoted text = codes "\"" ++ flat_map escaped text ++ codes "\""

-- a byte of a text on a page: each of the five bytes that could be markup (`&`, `<`, `>`, `"`, `'`) becomes its entity, and every other byte is unchanged
abbrev pub plain_byte : ℕ → List ℕ
plain_byte byte =
    if byte == 38 then codes "&amp;" else (
    if byte == 60 then codes "&lt;" else (
    if byte == 62 then codes "&gt;" else (
    if byte == 34 then codes "&quot;" else (
    if byte == 39 then codes "&#39;" else byte ∷ []))))

-- a text on a page, escaped so that it is never treated as markup, whatever its bytes
abbrev pub plain : List ℕ → List ℕ
plain text = flat_map plain_byte text

-- `7 <bdi>Ann</bdi>`: a number and a name on a page; the name's own writing direction doesn't affect the text around it
abbrev pub named : ℕ → List ℕ → List ℕ
named number name = decimal number ++ codes " <bdi>" ++ plain name ++ codes "</bdi>"

-- `exclusion of 3 <bdi>Cy</bdi>`: the action of a stage, on a page, with the number and the name of the candidate that it concerns
abbrev pub action_named : Action → List ℕ → List ℕ
action_named First name = codes "first preferences"
action_named (Surplus c) name = codes "surplus of " ++ named c name
action_named (Exclude c) name = codes "exclusion of " ++ named c name
action_named (ExcludeLast c) name = codes "exclusion of " ++ named c name ++ codes ", last vacancies"
