-- The result of a ward as JSON (RFC 8259): one object, with figures as text, so that no reader rounds them.
use Rattle.std.specs.Prelude.{ℕ, ◌+◌, ◌++◌, Bool, true, List, [], ◌∷◌, map, slice_index, codes, decimal, Option, Some, None, is_some, option_map}
use Rattle.json.specs.Json.{Json, null, boolean, number, string, array, object, Items, no_items, item, Members, no_members, member}
use Rattle.json.specs.Print.{print}
use Rattle.json.specs.Token.{Token}
use Rattle.json.specs.Tree.{json_tokens}
use Rattle.votes.specs.Units.{quota_of}
use Rattle.votes.specs.Text.{votes_text}
use Rattle.count.specs.Law.Contest.{votes_at}
use Rattle.count.specs.declared.stages.Stage.{Stage}
use Rattle.count.specs.declared.stages.Action.{Action}
use Rattle.count.specs.declared.stages.Action.TheVariants.{First, Surplus, Exclude, ExcludeLast}
use Rattle.sheet.specs.Chart.{elected_place, excluded_place}
use Rattle.sheet.specs.Entries.{SheetEntry}
use Rattle.sheet.specs.Stages.{is_elected_at}
use Rattle.sheet.specs.declared.ward.Poll.{Poll}

-- ---- values of JSON

-- the given values in order
abbrev pub items_of : List Json → Items
items_of [] = no_items
items_of (value ∷ values) = item value (items_of values)

-- the given members in order, each a name and a value
abbrev pub members_of : List (List ℕ × Json) → Members
members_of [] = no_members
members_of (m ∷ ms) = member m.0 m.1 (members_of ms)

abbrev pub array_of : List Json → Json
array_of values = array (items_of values)

abbrev pub object_of : List (List ℕ × Json) → Json
object_of members = object (members_of members)

-- a whole number
abbrev pub whole : ℕ → Json
whole n = number (decimal n)

-- a value in votes, as on the stage sheet: `"2.33332"`
abbrev pub value : ℕ → Json
value units = string (votes_text units)

-- the number of a stage; null if there is none
abbrev pub stage_number : Option ℕ → Json
stage_number None = null
stage_number (Some k) = whole k

-- ---- what depends on a poll: an uncontested ward has no papers, no stages and no lots, and all its candidates are elected

abbrev pub valid_papers : Option Poll → Json
valid_papers None = null
valid_papers (Some poll) = whole poll.valid

-- the rejected papers with each code, 1 to 5
abbrev pub rejected_papers : Option Poll → Json
rejected_papers None = null
rejected_papers (Some poll) = array_of (
    whole (slice_index poll.rejected 0) ∷ whole (slice_index poll.rejected 1) ∷ whole (slice_index poll.rejected 2) ∷
    whole (slice_index poll.rejected 3) ∷ whole (slice_index poll.rejected 4) ∷ [])

abbrev pub quota : ℕ → Option Poll → Json
quota seats None = null
quota seats (Some poll) = value (quota_of poll.valid seats)

abbrev pub if_contested : {X : Type 0} → Option Poll → List X → List X
if_contested None xs = []
if_contested (Some poll) xs = xs

abbrev pub is_elected : Option Poll → List Stage → ℕ → Bool
is_elected None stages c = true
is_elected (Some poll) stages c = is_elected_at stages c

-- ---- candidates, stages and lots

-- the number of the stage at which a candidate was elected, or excluded
abbrev pub elected_at : List Stage → ℕ → Option ℕ
elected_at stages c = option_map (λ place. place + 1) (elected_place stages c)

abbrev pub excluded_at : List Stage → ℕ → Option ℕ
excluded_at stages c = option_map (λ place. place + 1) (excluded_place stages c)

-- a candidate: `{"number":1,"name":"Ann","elected":true,"elected_at":1,"excluded_at":null}`
abbrev pub candidate_result : Option Poll → List Stage → (ℕ × List ℕ) → Json
candidate_result poll stages candidate = object_of (
    (codes "number", whole candidate.0) ∷
    (codes "name", string candidate.1) ∷
    (codes "elected", boolean (is_elected poll stages candidate.0)) ∷
    (codes "elected_at", stage_number (elected_at stages candidate.0)) ∷
    (codes "excluded_at", stage_number (excluded_at stages candidate.0)) ∷ [])

-- what was done at a stage
abbrev pub action_word : Action → List ℕ
action_word First = codes "first preferences"
action_word (Surplus c) = codes "surplus"
action_word (Exclude c) = codes "exclusion"
action_word (ExcludeLast c) = codes "exclusion, last vacancies"

-- the candidate whom the action of a stage concerns; null for the first stage
abbrev pub concerned : Action → Json
concerned First = null
concerned (Surplus c) = whole c
concerned (Exclude c) = whole c
concerned (ExcludeLast c) = whole c

-- the votes of the candidates at a stage, in their order
abbrev pub votes_result : List (ℕ × List ℕ) → Stage → List Json
votes_result candidates stage = map (λ candidate. value (votes_at stage candidate.0)) candidates

-- a stage: `{"stage":2,"action":"surplus","of":1,"votes":["4.00000","2.33332"],"non_transferable":"0.00000","lost":"0.00002"}`
abbrev pub stage_result : List (ℕ × List ℕ) → ℕ → Stage → Json
stage_result candidates k stage = object_of (
    (codes "stage", whole k) ∷
    (codes "action", string (action_word stage.action)) ∷
    (codes "of", concerned stage.action) ∷
    (codes "votes", array_of (votes_result candidates stage)) ∷
    (codes "non_transferable", value stage.non_transferable) ∷
    (codes "lost", value stage.lost) ∷ [])

-- the given stages in order, the first of which has number k
abbrev pub stages_result : List (ℕ × List ℕ) → ℕ → List Stage → List Json
stages_result candidates k [] = []
stages_result candidates k (stage ∷ later) = stage_result candidates k stage ∷ stages_result candidates (k + 1) later

-- a lot: `{"stage":2,"candidate":3}`
abbrev pub lot_result : (ℕ × ℕ) → Json
lot_result lot = object_of ((codes "stage", whole lot.0) ∷ (codes "candidate", whole lot.1) ∷ [])

-- ---- the result of a ward

-- the ward, and the status of its result
abbrev pub ward_members : SheetEntry → Bool → List (List ℕ × Json)
ward_members ward is_declared =
    (codes "ward", whole ward.number) ∷
    (codes "name", string ward.name) ∷
    (codes "seats", whole ward.seats) ∷
    (codes "declared", boolean is_declared) ∷
    (codes "contested", boolean (is_some ward.poll)) ∷ []

-- its papers and its quota
abbrev pub paper_members : SheetEntry → List (List ℕ × Json)
paper_members ward =
    (codes "valid", valid_papers ward.poll) ∷
    (codes "rejected", rejected_papers ward.poll) ∷
    (codes "quota", quota ward.seats ward.poll) ∷ []

-- its candidates, stages and lots
abbrev pub list_members : SheetEntry → List Stage → List (ℕ × ℕ) → List (List ℕ × Json)
list_members ward stages lots =
    (codes "candidates", array_of (map (candidate_result ward.poll stages) ward.candidates)) ∷
    (codes "stages", array_of (stages_result ward.candidates 1 stages)) ∷
    (codes "lots", array_of (map lot_result lots)) ∷ []

-- the result of a ward: whether it is declared, the stages of its count, and the lots drawn, each a stage and a candidate
abbrev pub ward_result : SheetEntry → Bool → List Stage → List (ℕ × ℕ) → Json
ward_result ward is_declared stages lots =
    object_of (ward_members ward is_declared ++ (paper_members ward ++ list_members ward (if_contested ward.poll stages) (if_contested ward.poll lots)))

-- its text: one line, without spaces between its parts
abbrev pub results : SheetEntry → Bool → List Stage → List (ℕ × ℕ) → List ℕ
results ward is_declared stages lots = print (json_tokens (ward_result ward is_declared stages lots)) ++ codes "\n"

-- ---- for private clauses

-- the tokens of members, without the brackets
abbrev pub members_part : List (List ℕ × Json) → List Token
members_part [] = []
members_part (m ∷ ms) = Token.key m.0 ∷ (json_tokens m.1 ++ members_part ms)
