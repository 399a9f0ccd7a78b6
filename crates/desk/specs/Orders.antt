-- The orders of the program: the name and words of each, and what it means for given values of those words.
use Rattle.std.specs.Prelude.{ℕ, Bool, true, false, List, [], ◌∷◌, ◌++◌, Option, Some, None, codes, map, option_map, string_bytes, bytes_eq, if◌then◌else◌}
use Rattle.clap.specs.Words.{Text}
use Rattle.register.specs.declared.command.Command.{Command}
use Rattle.register.specs.declared.command.Command.TheVariants as command
use Rattle.register.specs.declared.command.Request.{Request}
use Rattle.register.specs.declared.wards.WardCommand.TheVariants as ward_command
use Rattle.register.specs.declared.candidates.CandidateCommand.TheVariants as candidate_command
use Rattle.register.specs.declared.batches.BatchCommand.TheVariants as batch_command
use Rattle.register.specs.declared.counts.CountCommand.TheVariants as count_command
use Rattle.office.specs.declared.sheets.WardText.{WardText}
use Rattle.office.specs.declared.sheets.WardText.TheVariants as ward_text
use Rattle.origins.specs.Origins.{origin_text}
use Rattle.keyfile.specs.Digests.{asked_digest}
use Rattle.desk.specs.Numbers.{number_in}
use Rattle.desk.specs.Verdicts.{Judgement, judgement_given}
use Rattle.desk.specs.declared.order_entry.Kind.{Kind}
use Rattle.desk.specs.declared.order_entry.Kind.TheVariants as kind
use Rattle.desk.specs.declared.order_entry.Word.{Word}
use Rattle.desk.specs.declared.order_entry.Entry.{Entry}
use Rattle.desk.specs.declared.orders.Errand.{Errand}
use Rattle.desk.specs.declared.orders.Errand.TheVariants as errand
use Rattle.desk.specs.declared.orders.Form.{Form}
use Rattle.desk.specs.declared.orders.Form.TheVariants as form
use Rattle.desk.specs.declared.orders.Question.{Question}
use Rattle.desk.specs.declared.orders.Question.TheVariants as question
use Rattle.desk.specs.declared.orders.Order.{Order}
use Rattle.desk.specs.declared.orders.Order.TheVariants as order
use Rattle.desk.specs.declared.orders.Job.TheVariants as job
use Rattle.desk.specs.declared.orders.Task.{Task}
use Rattle.desk.specs.declared.orders.Task.TheVariants as task

-- ---- the words of an order

-- a word of an order
pub record WordEntry : Type 0 where
  pub name : Text
  pub kind : Kind

-- an order's name and words
pub record OrderWords : Type 0 where
  pub name : Text
  pub words : List WordEntry

-- the word that the program's table contains
abbrev pub word_of : Word → WordEntry
word_of w = record { name = w.name.now; kind = w.kind }

-- the name and the words of an entry in the program's table
abbrev pub words_of : Entry → OrderWords
words_of e = record { name = e.name.now; words = map word_of e.words.now }

-- a word that is a number from 0 to 4294967295
abbrev pub number : Text → WordEntry
number name = record { name = name; kind = kind.Number }

-- an optional word that is such a number
abbrev pub number_or_none : Text → WordEntry
number_or_none name = record { name = name; kind = kind.NumberOrNone }

-- a word that is a port, and an optional word that is the number of connections
abbrev pub port : Text → WordEntry
port name = record { name = name; kind = kind.Port }

abbrev pub connections : Text → WordEntry
connections name = record { name = name; kind = kind.Connections }

-- a word that is any text
abbrev pub text : Text → WordEntry
text name = record { name = name; kind = kind.Text }

-- a word that is a verdict
abbrev pub verdict : Text → WordEntry
verdict name = record { name = name; kind = kind.Verdict }

-- the id: any text after `--id`
abbrev pub id : WordEntry
id = record { name = codes "id"; kind = kind.Id }

-- an origin after `--` and the word's name, optional
abbrev pub origin : Text → WordEntry
origin name = record { name = name; kind = kind.Origin }

-- the path of a codes file after `--` and the word's name, optional
abbrev pub codes_file : WordEntry
codes_file = record { name = codes "codes"; kind = kind.CodesFile }

-- a title after `--` and the word's name, optional
abbrev pub title : WordEntry
title = record { name = codes "title"; kind = kind.Title }

-- the digest of a file after `--` and the word's name, optional
abbrev pub digest : WordEntry
digest = record { name = codes "sha256"; kind = kind.Digest }

-- the expected number of papers after `--` and the word's name, optional
abbrev pub papers : WordEntry
papers = record { name = codes "papers"; kind = kind.Papers }

-- zero or more words after the others, each of which is any text
abbrev pub texts : Text → WordEntry
texts name = record { name = name; kind = kind.Texts }

-- zero or more texts, each after `--` and the word's name
abbrev pub options : Text → WordEntry
options name = record { name = name; kind = kind.Options }

-- a flag: `--` and the word's name, optional
abbrev pub flag : Text → WordEntry
flag name = record { name = name; kind = kind.Flag }

-- ---- what a command asks for

-- what a command asks for, with names as text
pub data Asked : Type 0 where
  ward_to_add : ℕ → ℕ → Text → Asked
  ward_to_close : ℕ → Asked
  candidate_to_add : ℕ → ℕ → Text → Asked
  candidate_to_withdraw : ℕ → ℕ → Asked
  batch_to_add : ℕ → ℕ → ℕ → ℕ → ℕ → Asked
  batch_to_key_again : ℕ → Asked
  batch_for_third_clerk : ℕ → ℕ → Asked
  keying_to_keep : ℕ → ℕ → List Text → Asked
  paper_to_judge : ℕ → ℕ → Judgement → Asked
  ward_to_seal : ℕ → Asked
  stage_to_count : ℕ → Asked
  lot_to_record : ℕ → ℕ → ℕ → Asked
  ward_to_declare : ℕ → Asked

-- what a command of the register asks for
abbrev pub asked_by : Command → Asked
asked_by (command.Ward (ward_command.Add ward seats name)) = ward_to_add ward seats (string_bytes name)
asked_by (command.Ward (ward_command.Close ward)) = ward_to_close ward
asked_by (command.Candidate (candidate_command.Add ward candidate name)) = candidate_to_add ward candidate (string_bytes name)
asked_by (command.Candidate (candidate_command.Withdraw ward candidate)) = candidate_to_withdraw ward candidate
asked_by (command.Batch (batch_command.Add batch ward size first_clerk second_clerk)) = batch_to_add batch ward size first_clerk second_clerk
asked_by (command.Batch (batch_command.Again batch)) = batch_to_key_again batch
asked_by (command.Batch (batch_command.Third batch clerk)) = batch_for_third_clerk batch clerk
asked_by (command.Keying k) = keying_to_keep k.batch k.round (map string_bytes k.papers.items)
asked_by (command.Verdict v) = paper_to_judge v.batch v.paper (judgement_given v.verdict)
asked_by (command.Count (count_command.Seal ward)) = ward_to_seal ward
asked_by (command.Count (count_command.Advance ward)) = stage_to_count ward
asked_by (command.Count (count_command.Lot ward stage candidate)) = lot_to_record ward stage candidate
asked_by (command.Count (count_command.Declare ward)) = ward_to_declare ward

-- a request: its actor, its id and what it asks for
pub record Sent : Type 0 where
  pub actor : ℕ
  pub id : Text
  pub asked : Asked

-- a request of the register
abbrev pub sent_as : Request → Sent
sent_as r = record { actor = r.actor; id = string_bytes r.id; asked = asked_by r.command }

-- a request of the office itself
abbrev pub by_office : Text → Asked → Sent
by_office id asked = record { actor = 0; id = id; asked = asked }

-- a request of a clerk
abbrev pub by_clerk : ℕ → Text → Asked → Sent
by_clerk clerk id asked = record { actor = clerk; id = id; asked = asked }

-- ---- what an order means

-- what the words request; or nothing, because a verdict, an origin or a digest is invalid, a title is given although nothing is shown in public, or the words after
-- `forms` name no form
pub data Meant : Type 0 where
  make : Meant
  migrate : Meant
  send : Sent → Meant
  import_candidates : Text → Text → Option (List ℕ) → Meant
  import_batches : Text → Text → Option (List ℕ) → Meant
  import_keying : ℕ → ℕ → ℕ → Text → Text → Option (List ℕ) → Meant
  seal_expected : ℕ → ℕ → Text → Meant
  count : ℕ → Text → Meant
  tell_status : ℕ → Meant
  tell_next : ℕ → Meant
  print : ℕ → WardText → Meant
  print_page : ℕ → Text → Meant
  print_index : Text → Meant
  ask : Question → Meant
  replay : Text → Bool → Bool → Meant
  copy : Text → Meant
  journal : Meant
  second : Text → Meant
  mend : Bool → Text → List Text → List Text → Meant
  publish : Text → Text → Bool → Meant
  make_codes : Text → Text → Bool → Meant
  print_slips : Text → Text → Meant
  serve : ℕ → Option ℕ → Option Text → Option Text → Option Text → Meant
  no_verdict : Meant
  no_origin : Meant
  no_digest : Meant
  title_alone : Meant
  no_form : Meant

-- the meaning of printing one of a ward's texts; the title of a page is represented as text
abbrev pub told_text : ℕ → WardText → Meant
told_text ward (ward_text.Page title) = print_page ward title.now
told_text ward text = print ward text

-- the meaning of an errand, with its request and its texts as mathematical values
abbrev pub told_errand : Errand → Meant
told_errand (errand.Send r) = send (sent_as r)
told_errand (errand.ImportCandidates file id digest) = import_candidates file.now id.now (asked_digest digest)
told_errand (errand.ImportBatches file id digest) = import_batches file.now id.now (asked_digest digest)
told_errand (errand.SealExpected e) = seal_expected e.ward e.papers e.id.now
told_errand (errand.ImportKeying k) = import_keying k.clerk k.batch k.round k.file.now k.id.now (asked_digest k.digest)
told_errand (errand.Count ward id) = count ward id.now
told_errand (errand.PrintStatus ward) = tell_status ward
told_errand (errand.PrintNext ward) = tell_next ward
told_errand (errand.Print ward text) = told_text ward text
told_errand (errand.PrintIndex title) = print_index title.now
told_errand (errand.Ask question) = ask question

-- the meaning of an order
abbrev pub told : Order → Meant
told (order.Perform task.Init) = make
told (order.Perform task.Migrate) = migrate
told (order.Perform (task.InOffice (job.Run errand))) = told_errand errand
told (order.Perform (task.InOffice (job.Replay script))) = replay script.file.now script.keep_going script.cut
told (order.Copy path) = copy path.now
told order.Journal = journal
told (order.Second path) = second path.now
told (order.Mend m) = mend m.takes_over m.path.now (map string_bytes m.without.items) (map string_bytes m.instead.items)
told (order.Publish p) = publish p.path.now p.title.now p.with_ballots
told (order.Codes path clerks with_office) = make_codes path.now clerks.now with_office
told (order.Slips path address) = print_slips path.now (origin_text address)
told (order.Serve port connections origin file public) =
    serve port connections (option_map origin_text origin) (option_map (λ path. path.now) file) (option_map (λ title. title.now) public)

-- the task that an order performs, if it has one
abbrev pub task_of : Order → Option Task
task_of (order.Perform task) = Some task
task_of other = None

-- ---- the orders

-- the type of a word's values
abbrev pub WordValue : Kind → Type 0
WordValue kind.Number = ℕ
WordValue kind.NumberOrNone = Option ℕ
WordValue kind.Port = ℕ
WordValue kind.Connections = Option ℕ
WordValue kind.Text = Text
WordValue kind.Verdict = Judgement
WordValue kind.Id = Text
WordValue kind.Origin = Option Text
WordValue kind.CodesFile = Option Text
WordValue kind.Title = Text
WordValue kind.Digest = Option (List ℕ)
WordValue kind.Papers = Option ℕ
WordValue kind.Texts = List Text
WordValue kind.Options = List Text
WordValue kind.Flag = Bool

-- a function of the values of the given words, in order
abbrev pub OfWords : List WordEntry → Type 0 → Type 0
OfWords [] T = T
OfWords (w ∷ ws) T = WordValue w.kind → OfWords ws T

-- an order's name and words, its meaning as a function of the values of its words, and whether that meaning is a command from the office
pub record OrderEntry : Type 0 where
  pub typed : OrderWords
  pub means : OfWords typed.words Meant
  pub is_command : Bool

-- an order with the given name and the given words, in order, and with the given meaning as a function of their values
abbrev pub takes : Text → (words : List WordEntry) → OfWords words Meant → OrderEntry
takes name words means = record { typed = record { name = name; words = words }; means = means; is_command = false }

-- the office sends a command, made from the values of the given words, under the id that follows them
abbrev pub under_id : (words : List WordEntry) → OfWords words Asked → OfWords (words ++ id ∷ []) Meant
under_id [] asked = λ id. send (by_office id asked)
under_id (w ∷ ws) asked = λ value. under_id ws (asked value)

-- an order with the given name, the given words and an id, which sends a command from the office
abbrev pub sends : Text → (words : List WordEntry) → OfWords words Asked → OrderEntry
sends name words asked = record { typed = record { name = name; words = words ++ id ∷ [] }; means = under_id words asked; is_command = true }

-- a clerk, and never the office, stores the clerk's keying of a batch in a round: the marks of its papers, in order, under an id
abbrev pub key : ℕ → ℕ → ℕ → List Text → Text → Meant
key clerk batch round papers id = send (by_clerk clerk id (keying_to_keep batch round papers))

-- the title of what is shown in public, if anything is; or None if a title is given and nothing is shown
abbrev pub public_of : Bool → Text → Option (Option Text)
public_of true title = Some (Some title)
public_of false [] = Some None
public_of false (c ∷ cs) = None

-- the given meaning, or that a title is given although nothing is shown in public
abbrev pub shown_as : Option (Option Text) → (Option Text → Meant) → Meant
shown_as None means = title_alone
shown_as (Some public) means = means public

-- serving on a port, with something shown in public under a title
abbrev pub serve_shown : ℕ → Option ℕ → Option Text → Option Text → Bool → Text → Meant
serve_shown port connections origin file public title = shown_as (public_of public title) (serve port connections origin file)

-- the office seals a ward; if a number of papers is expected, it does so only if that many were given out
abbrev pub seal : ℕ → Text → Option ℕ → Meant
seal ward id None = send (by_office id (ward_to_seal ward))
seal ward id (Some papers) = seal_expected ward papers id

-- the form of a ward with this name, if there is one
abbrev pub ward_form_in : Text → Option Form
ward_form_in name =
    if bytes_eq name (codes "covers") then Some form.Covers else (
    if bytes_eq name (codes "adjudication") then Some form.Adjudication else (
    if bytes_eq name (codes "lots") then Some form.Lots else (
    if bytes_eq name (codes "declaration") then Some form.Declaration else None)))

-- the office prints the form of the ward with this number; or no form is meant, if either is missing
abbrev pub form_of_ward : Option Form → Option ℕ → Meant
form_of_ward None ward = no_form
form_of_ward (Some form) None = no_form
form_of_ward (Some form) (Some ward) = ask (question.Form form ward)

-- the form with this name, given the word after the name and the optional address: slips of a file of codes need an address, and a form of a ward has none
abbrev pub form_meant : Text → Text → Option Text → Meant
form_meant name word None = form_of_ward (ward_form_in name) (number_in word)
form_meant name word (Some address) = if bytes_eq name (codes "slips") then print_slips word address else no_form

-- the table of orders, in the order in which an election uses them
unfoldable pub orders : List OrderEntry
orders =
    takes (codes "init") [] make
    ∷ sends (codes "ward") (number (codes "WARD") ∷ number (codes "SEATS") ∷ text (codes "NAME") ∷ []) ward_to_add
    ∷ sends (codes "candidate") (number (codes "WARD") ∷ number (codes "CANDIDATE") ∷ text (codes "NAME") ∷ []) candidate_to_add
    ∷ takes (codes "import-candidates") (text (codes "FILE") ∷ id ∷ digest ∷ []) import_candidates
    ∷ sends (codes "withdraw") (number (codes "WARD") ∷ number (codes "CANDIDATE") ∷ []) candidate_to_withdraw
    ∷ sends (codes "close") (number (codes "WARD") ∷ []) ward_to_close
    ∷ sends (codes "batch") (number (codes "BATCH") ∷ number (codes "WARD") ∷ number (codes "SIZE") ∷ number (codes "FIRST_CLERK") ∷ number (codes "SECOND_CLERK") ∷ []) batch_to_add
    ∷ takes (codes "import-batches") (text (codes "FILE") ∷ id ∷ digest ∷ []) import_batches
    ∷ takes (codes "import-keying") (number (codes "CLERK") ∷ number (codes "BATCH") ∷ number (codes "ROUND") ∷ text (codes "FILE") ∷ id ∷ digest ∷ []) import_keying
    ∷ takes (codes "key") (number (codes "CLERK") ∷ number (codes "BATCH") ∷ number (codes "ROUND") ∷ texts (codes "MARKS") ∷ id ∷ []) key
    ∷ sends (codes "again") (number (codes "BATCH") ∷ []) batch_to_key_again
    ∷ sends (codes "third") (number (codes "BATCH") ∷ number (codes "CLERK") ∷ []) batch_for_third_clerk
    ∷ sends (codes "judge") (number (codes "BATCH") ∷ number (codes "PAPER") ∷ verdict (codes "VERDICT") ∷ []) paper_to_judge
    ∷ takes (codes "seal") (number (codes "WARD") ∷ id ∷ papers ∷ []) seal
    ∷ sends (codes "advance") (number (codes "WARD") ∷ []) stage_to_count
    ∷ takes (codes "count") (number (codes "WARD") ∷ id ∷ []) count
    ∷ sends (codes "lot") (number (codes "WARD") ∷ number (codes "STAGE") ∷ number (codes "CANDIDATE") ∷ []) lot_to_record
    ∷ sends (codes "declare") (number (codes "WARD") ∷ []) ward_to_declare
    ∷ takes (codes "status") (number (codes "WARD") ∷ []) tell_status
    ∷ takes (codes "next") (number (codes "WARD") ∷ []) tell_next
    ∷ takes (codes "sheet") (number (codes "WARD") ∷ []) (λ ward. print ward ward_text.Sheet)
    ∷ takes (codes "result") (number (codes "WARD") ∷ []) (λ ward. print ward ward_text.Declaration)
    ∷ takes (codes "serve") (port (codes "PORT") ∷ connections (codes "CONNECTIONS") ∷ origin (codes "origin") ∷ codes_file ∷ flag (codes "public") ∷ title ∷ []) serve_shown
    ∷ takes (codes "migrate") [] migrate
    ∷ takes (codes "wards") [] (ask question.Wards)
    ∷ takes (codes "batches") (number (codes "WARD") ∷ []) (λ ward. ask (question.Batches ward))
    ∷ takes (codes "doubtful") (number (codes "WARD") ∷ []) (λ ward. ask (question.Doubtful ward))
    ∷ takes (codes "differences") (number (codes "BATCH") ∷ []) (λ batch. ask (question.Differences batch))
    ∷ takes (codes "papers") (number (codes "BATCH") ∷ []) (λ batch. ask (question.Papers batch))
    ∷ takes (codes "fields") (number (codes "BATCH") ∷ number_or_none (codes "CLERK") ∷ []) (λ batch clerk. ask (question.Fields batch clerk))
    ∷ takes (codes "receipts") (number_or_none (codes "ACTOR") ∷ []) (λ actor. ask (question.Receipts actor))
    ∷ takes (codes "journal") [] journal
    ∷ takes (codes "second") (text (codes "FILE") ∷ []) second
    ∷ takes (codes "replay") (text (codes "FILE") ∷ flag (codes "keep-going") ∷ flag (codes "cut") ∷ []) replay
    ∷ takes (codes "copy") (text (codes "NEW") ∷ []) copy
    ∷ takes (codes "mend") (text (codes "NEW") ∷ options (codes "without") ∷ options (codes "with") ∷ []) (mend false)
    ∷ takes (codes "switch") (text (codes "NEW") ∷ options (codes "without") ∷ options (codes "with") ∷ []) (mend true)
    ∷ takes (codes "codes") (text (codes "FILE") ∷ text (codes "CLERKS") ∷ flag (codes "office") ∷ []) make_codes
    ∷ takes (codes "forms") (text (codes "FORM") ∷ text (codes "SOURCE") ∷ origin (codes "address") ∷ []) form_meant
    ∷ takes (codes "ballots") (number (codes "WARD") ∷ []) (λ ward. print ward ward_text.Ballots)
    ∷ takes (codes "page") (number (codes "WARD") ∷ title ∷ []) print_page
    ∷ takes (codes "table") (number (codes "WARD") ∷ []) (λ ward. print ward ward_text.Table)
    ∷ takes (codes "index") (title ∷ []) print_index
    ∷ takes (codes "publish") (text (codes "FOLDER") ∷ title ∷ flag (codes "ballots") ∷ []) publish
    ∷ []
