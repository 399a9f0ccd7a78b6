-- The JSON of responses: each body character by character, and the value that it represents.
use Rattle.std.specs.Prelude.{List, ◌++◌, codes, decimal, map, ℕ}
use Rattle.json.specs.Print.{quoted}
use Rattle.serde_json.specs.Data.{Data, array, boolean, member, no_members, number, object, string, unsigned}
use Rattle.serde_json.specs.View.{items_of}
use Rattle.serde_json.specs.Written.{compact_text}
use Rattle.register.specs.Offices.{CandidateEntry, KeyedEntry}
use Rattle.register.specs.Status.{BallotPaperEntry, WorkEntry}
use Rattle.store.specs.EarlierKeyings.{KeyedRoundEntry}

-- a reply
abbrev pub reply_data : List ℕ → Data
reply_data text = object (member (codes "reply") (string text) no_members)

abbrev pub reply_body : List ℕ → List ℕ
reply_body text = codes "{\"reply\":" ++ (quoted text ++ codes "}")

-- the outcome of an order: its error output, its output, and its status
abbrev pub order_data : ℕ → List ℕ → List ℕ → Data
order_data status output errors = object
    (member (codes "errors") (string errors)
    (member (codes "output") (string output)
    (member (codes "status") (number (unsigned status)) no_members)))

abbrev pub order_body : ℕ → List ℕ → List ℕ → List ℕ
order_body status output errors = compact_text (order_data status output errors)

-- a refusal
abbrev pub refusal_data : ℕ → List ℕ → Data
refusal_data n text = object (member (codes "refusal") (number (unsigned n)) (member (codes "text") (string text) no_members))

abbrev pub refusal_body : ℕ → List ℕ → List ℕ
refusal_body n text = codes "{\"refusal\":" ++ (decimal n ++ (codes ",\"text\":" ++ (quoted text ++ codes "}")))

-- a fault
abbrev pub fault_data : ℕ → Data
fault_data n = object (member (codes "fault") (number (unsigned n)) no_members)

abbrev pub fault_body : ℕ → List ℕ
fault_body n = codes "{\"fault\":" ++ (decimal n ++ codes "}")

-- a list of values
abbrev pub list_data : {X : Type 0} → (X → Data) → List X → Data
list_data value xs = array (items_of (map value xs))

-- a number
abbrev pub number_data : ℕ → Data
number_data n = number (unsigned n)

-- a batch of a clerk's work
abbrev pub work_data : WorkEntry → Data
work_data w = object
    (member (codes "batch") (number_data w.batch)
    (member (codes "columns") (list_data number_data w.columns)
    (member (codes "keyed") (boolean w.keyed)
    (member (codes "round") (number_data w.round)
    (member (codes "size") (number_data w.size)
    (member (codes "ward") (number_data w.ward) no_members))))))

-- the work of a clerk
abbrev pub clerk_data : ℕ → List WorkEntry → Data
clerk_data clerk work = object (member (codes "clerk") (number_data clerk) (member (codes "work") (list_data work_data work) no_members))

-- the JSON for a clerk's work
abbrev pub work_body : ℕ → List WorkEntry → List ℕ
work_body clerk work = compact_text (clerk_data clerk work)

-- a candidate on a ballot paper
abbrev pub candidate_data : CandidateEntry → Data
candidate_data c = object (member (codes "candidate") (number_data c.number) (member (codes "name") (string c.name) no_members))

-- what is on a batch's papers: the ward, with its name and its candidates
abbrev pub paper_data : ℕ → BallotPaperEntry → Data
paper_data batch p = object
    (member (codes "batch") (number_data batch)
    (member (codes "candidates") (list_data candidate_data p.candidates)
    (member (codes "name") (string p.name)
    (member (codes "ward") (number_data p.ward) no_members))))

-- the JSON for what is on a batch's papers
abbrev pub paper_body : ℕ → BallotPaperEntry → List ℕ
paper_body batch p = compact_text (paper_data batch p)

-- the marks of a keyed paper
abbrev pub marks_data : KeyedEntry → Data
marks_data k = string k.marks

-- what a clerk keyed for a batch in a round: the marks of each paper, in order
abbrev pub keyed_data : ℕ → KeyedRoundEntry → Data
keyed_data batch k = object
    (member (codes "batch") (number_data batch)
    (member (codes "papers") (list_data marks_data k.papers)
    (member (codes "round") (number_data k.round) no_members)))
