-- What `clap` accepts as the words of an order, and the order that its matches mean, according to the table of orders.
use Rattle.std.specs.Prelude.{◌≡◌, ◌≢◌, ◌==◌, ◌&&◌, ⊤, ℕ, Bool, true, false, List, [], ◌∷◌, Option, Some, None, pos, IfSome}
use Rattle.std.specs.Prelude.{codes, map, find, option_and_then, option_map, string_bytes, unwrap_or}
use Rattle.std.specs.List.{list_any}
use Rattle.std.specs.Str.{bytes_eq}
use Rattle.clap.specs.Words.{App, Kinds, Row, Rule, Text, all_of, fault_of, first_of, new_app, new_rule, one_of, with_rule, with_subcommand}
use Rattle.clap.specs.Simple.{on_top}
use Rattle.clap.specs.declared.builder.value_parser.ValueParser.{ValueParser}
use Rattle.clap.specs.declared.builder.value_parser.ValueParser.TheVariants as parser
use Rattle.clap.specs.declared.builder.action.ArgAction.TheVariants.{Append, SetTrue}
use Rattle.clap.specs.declared.error.kind.ErrorKind.{ErrorKind}
use Rattle.clap.specs.declared.error.kind.ErrorKind.TheVariants.{DisplayHelp, DisplayVersion, OutOfMemory}
use Rattle.desk.specs.declared.words.WordsFault.{WordsFault}
use Rattle.desk.specs.declared.words.WordsFault.TheVariants as words_fault
use Rattle.desk.specs.declared.order_entry.Kind.{Kind}
use Rattle.desk.specs.declared.order_entry.Kind.TheVariants as kind
use Rattle.desk.specs.Numbers.{number_in}
use Rattle.desk.specs.Orders.{Meant, OfWords, OrderWords, WordValue, WordEntry, asked_by, by_office, mend, no_digest, no_form, no_origin, no_verdict, orders, public_of, send, title_alone}
use Rattle.desk.specs.Verdicts.{Judgement, judgement_in}
use Rattle.register.specs.declared.command.Command.{Command}
use Rattle.origins.specs.Origins.{origin_in}
use Rattle.keyfile.specs.Digests.{digest_in}

-- the range of numbers that a word may denote
abbrev pub any_number : ValueParser
any_number = parser.Signed (pos 0) (pos 4294967295)

abbrev pub any_port : ValueParser
any_port = parser.Signed (pos 1) (pos 65535)

abbrev pub any_connections : ValueParser
any_connections = parser.Signed (pos 1) (pos 1000000)

-- a word that is a number in a range
abbrev pub number_rule : ValueParser → Text → Rule
number_rule numbers name = record (new_rule name) { parser = Some numbers; required = true }

-- an optional word that is a number in a range
abbrev pub free_number_rule : ValueParser → Text → Rule
free_number_rule numbers name = record (new_rule name) { parser = Some numbers }

-- a word that is any text
abbrev pub text_rule : Text → Rule
text_rule name = record (new_rule name) { required = true }

-- a required value after `--` and the word's name
abbrev pub id_rule : Text → Rule
id_rule name = record (new_rule name) { long = Some name; value_names = 1; required = true }

-- an optional value after `--` and the word's name
abbrev pub option_rule : Text → Rule
option_rule name = record (new_rule name) { long = Some name; value_names = 1 }

-- an optional value after `--` and the word's name, which is a number in a range
abbrev pub number_option_rule : ValueParser → Text → Rule
number_option_rule numbers name = record (new_rule name) { long = Some name; value_names = 1; parser = Some numbers }

-- any number of values after the other words, all under the same name
abbrev pub texts_rule : Text → Rule
texts_rule name = record (new_rule name) { action = Some Append }

-- zero or more values, each after `--` and the word's name
abbrev pub options_rule : Text → Rule
options_rule name = record (new_rule name) { long = Some name; value_names = 1; action = Some Append }

-- `--` and the word's name, without a value
abbrev pub flag_rule : Text → Rule
flag_rule name = record (new_rule name) { long = Some name; action = Some SetTrue }

-- the `clap` rule for a word
abbrev pub rule_of_kind : Kind → Text → Rule
rule_of_kind kind.Number = number_rule any_number
rule_of_kind kind.NumberOrNone = free_number_rule any_number
rule_of_kind kind.Port = number_rule any_port
rule_of_kind kind.Connections = free_number_rule any_connections
rule_of_kind kind.Text = text_rule
rule_of_kind kind.Verdict = text_rule
rule_of_kind kind.Id = id_rule
rule_of_kind kind.Origin = option_rule
rule_of_kind kind.CodesFile = option_rule
rule_of_kind kind.Title = option_rule
rule_of_kind kind.Digest = option_rule
rule_of_kind kind.Papers = number_option_rule any_number
rule_of_kind kind.Texts = texts_rule
rule_of_kind kind.Options = options_rule
rule_of_kind kind.Flag = flag_rule

-- a command, with the given words added
abbrev pub with_words : App → List WordEntry → App
with_words app [] = app
with_words app (w ∷ ws) = with_words (with_rule app (rule_of_kind w.kind w.name)) ws

-- the command for the words of an order
abbrev pub order_words : OrderWords → App
order_words e = with_words (new_app e.name) e.words

-- a command, with the given orders added
abbrev pub with_orders : App → List OrderWords → App
with_orders app [] = app
with_orders app (e ∷ es) = with_orders (with_subcommand app (order_words e).top) es

-- DB, followed by a required order
abbrev pub start_words : App
start_words = on_top (λ s. record s { subcommand_required = true; arg_required_else_help = true; disable_help_subcommand = true; has_version = true })
    (new_app (codes "count-office"))

-- all orders of the program
unfoldable pub office_words : App
office_words = with_orders start_words (map (λ e. e.typed) orders)

-- ---- the order that the matches mean

-- the number that was matched for a name, if any
abbrev pub number_found : Text → List Row → Option ℕ
number_found name rows = option_and_then number_in (one_of name rows)

-- the number that was matched for a name, or 0
abbrev pub number_at : Text → List Row → ℕ
number_at name rows = unwrap_or (number_found name rows) 0

-- the text that was matched for a name, or the empty text
abbrev pub text_at : Text → List Row → Text
text_at name rows = unwrap_or (first_of name rows) []

-- the texts that were matched for a name, or none
abbrev pub texts_at : Text → List Row → List Text
texts_at name rows = unwrap_or (all_of name rows) []

-- whether a flag is present: `clap` matches it as `true` if it is, and as `false` otherwise
abbrev pub flag_at : Text → List Row → Bool
flag_at name rows = bytes_eq (text_at name rows) (codes "true")

-- the origin that was matched for a name, if any; its inner value is None if the text denotes no origin
abbrev pub origin_at : Text → List Row → Option (Option Text)
origin_at name rows = option_map origin_in (first_of name rows)

-- the digest that was matched for a name, if any; its inner value is None if the text denotes no digest
abbrev pub digest_at : Text → List Row → Option (Option (List ℕ))
digest_at name rows = option_map digest_in (first_of name rows)

-- the title of what is shown in public, given the flag and the title; or None if there is a title without the flag
abbrev pub public_at : List Row → Option (Option Text)
public_at rows = public_of (flag_at (codes "public") rows) (text_at (codes "title") rows)

-- what a verdict means, or that it is invalid
abbrev pub judged : Option Judgement → (Judgement → Meant) → Meant
judged None means = no_verdict
judged (Some judgement) means = means judgement

-- what an optional origin means, or that the origin given is invalid
abbrev pub served_to : Option (Option Text) → (Option Text → Meant) → Meant
served_to None means = means None
served_to (Some None) means = no_origin
served_to (Some (Some origin)) means = means (Some origin)

-- what an optional digest means, or that the digest given is invalid
abbrev pub digested_by : Option (Option (List ℕ)) → (Option (List ℕ) → Meant) → Meant
digested_by None means = means None
digested_by (Some None) means = no_digest
digested_by (Some (Some digest)) means = means (Some digest)

-- what the word's matched value means
abbrev pub with_value : (k : Kind) → List Row → Text → (WordValue k → Meant) → Meant
with_value kind.Number rows name means = means (number_at name rows)
with_value kind.NumberOrNone rows name means = means (number_found name rows)
with_value kind.Port rows name means = means (number_at name rows)
with_value kind.Connections rows name means = means (number_found name rows)
with_value kind.Text rows name means = means (text_at name rows)
with_value kind.Verdict rows name means = judged (judgement_in (text_at name rows)) means
with_value kind.Id rows name means = means (text_at name rows)
with_value kind.Origin rows name means = served_to (origin_at name rows) means
with_value kind.CodesFile rows name means = means (first_of name rows)
with_value kind.Title rows name means = means (text_at name rows)
with_value kind.Digest rows name means = digested_by (digest_at name rows) means
with_value kind.Papers rows name means = means (number_found name rows)
with_value kind.Texts rows name means = means (texts_at name rows)
with_value kind.Options rows name means = means (texts_at name rows)
with_value kind.Flag rows name means = means (flag_at name rows)

-- what the matched values of the given words mean
abbrev pub with_values : List Row → (words : List WordEntry) → OfWords words Meant → Meant
with_values rows [] means = means
with_values rows (w ∷ ws) means = with_value w.kind rows w.name (λ value. with_values rows ws (means value))

-- what the matches mean for the order with the given name
abbrev pub meaning_of : Text → List Row → Option Meant
meaning_of name rows = option_map (λ e. with_values rows e.typed.words e.means) (find (λ e. bytes_eq name e.typed.name) orders)

-- what the matches mean
abbrev pub meaning : Option (Text × List Row) → Option Meant
meaning None = None
meaning (Some found) = meaning_of found.0 found.1

-- the office sends a command under the matched id
abbrev pub sent : List Row → Command → Meant
sent rows command = send (by_office (text_at (codes "id") rows) (asked_by command))

-- a new office is made from the journal, at the matched path and with the matched names and orders; and whether it takes over
abbrev pub mended_at : List Row → Bool → Meant
mended_at rows takes_over = mend takes_over (text_at (codes "NEW") rows) (texts_at (codes "without") rows) (texts_at (codes "with") rows)

-- whether an order has the given name
abbrev pub is_order_name : Text → Bool
is_order_name name = list_any (λ e. bytes_eq name e.typed.name) orders

-- whether an order that sends a command has the given name
abbrev pub is_command_name : Text → Bool
is_command_name name = list_any (λ e. e.is_command && bytes_eq name e.typed.name) orders

-- whether the name is that of an order that asks a question about the office
abbrev pub is_question_name : Text → Bool
is_question_name name =
    list_any (bytes_eq name) (codes "wards" ∷ codes "batches" ∷ codes "doubtful" ∷ codes "differences" ∷ codes "papers" ∷ codes "fields" ∷ codes "receipts" ∷ [])

-- whether the matches name an order
abbrev pub names_order : Option (Text × List Row) → Bool
names_order None = false
names_order (Some found) = is_order_name found.0

-- ---- words that aren't an order

-- the first error that `clap` finds in the words; nothing if it accepts them
abbrev pub wrong_with : List Text → Kinds
wrong_with words = fault_of office_words words

-- the exit status for words that ask for help or the version, or that aren't understood
abbrev pub status_of_kind : ErrorKind → ℕ
status_of_kind DisplayHelp = 0
status_of_kind DisplayVersion = 0
status_of_kind _ = 2

-- what is printed for words, given what is wrong with them: a nonempty text, with the corresponding status. If nothing is wrong, it says that a verdict, an origin
-- or a digest is invalid, that a title is given although nothing is shown in public, or that the words after `forms` name no form. Or it says that an allocation failed.
abbrev pub IsToldOf : Kinds → WordsFault → Type 0
IsToldOf kinds words_fault.Memory = ⊤
IsToldOf kinds words_fault.Verdict = kinds ≡ []
IsToldOf kinds words_fault.Origin = kinds ≡ []
IsToldOf kinds words_fault.Digest = kinds ≡ []
IsToldOf kinds words_fault.TitleAlone = kinds ≡ []
IsToldOf kinds words_fault.Form = kinds ≡ []
IsToldOf kinds (words_fault.Words text status) = (list_any (λ kind. status_of_kind kind == status) kinds ≡ true) × (string_bytes text ≢ [])

-- What is reported is what the words mean: that a verdict, an origin or a digest is invalid, that a title is given although nothing is shown in public, or that the
-- words after `forms` name no form.
abbrev pub IsNoneMeant : Option Meant → WordsFault → Type 0
IsNoneMeant meant words_fault.Memory = ⊤
IsNoneMeant meant words_fault.Verdict = meant ≡ Some no_verdict
IsNoneMeant meant words_fault.Origin = meant ≡ Some no_origin
IsNoneMeant meant words_fault.Digest = meant ≡ Some no_digest
IsNoneMeant meant words_fault.TitleAlone = meant ≡ Some title_alone
IsNoneMeant meant words_fault.Form = meant ≡ Some no_form
IsNoneMeant meant (words_fault.Words text status) = ⊤

-- what is printed if the word after `--origin` is invalid
abbrev pub bad_origin : Text
bad_origin = codes "error: an origin is http:// or https://, a host in small letters, and its port where it isn't the usual one, as https://count.example.org\n"

-- what is printed if the word after `--sha256` is invalid
abbrev pub bad_digest : Text
bad_digest = codes "error: a digest is 64 hexadecimal digits, as sha256sum prints them\n"

-- what is printed if there is a title without `--public`
abbrev pub bad_title : Text
bad_title = codes "error: --title is the title of what is shown in public, so it needs --public\n"

-- what is printed if the words after `forms` name no form
abbrev pub bad_form : Text
bad_form = codes "error: a form is covers, adjudication, lots or declaration, and a ward's number; or slips, a file of codes, and --address\n"

-- the text is the one that a value displays, if that is known and not empty
abbrev pub IsOwnText : Option Text → Text → Type 0
IsOwnText own text = IfSome own (λ bytes. bytes ≢ [] → text ≡ bytes)

-- what is printed for a refusal of the given kind: a nonempty text, with the status for the kind; or that an allocation failed
abbrev pub TellsRefusal : ErrorKind → WordsFault → Type 0
TellsRefusal kind words_fault.Memory = ⊤
TellsRefusal kind words_fault.Verdict = ⊥
TellsRefusal kind words_fault.Origin = ⊥
TellsRefusal kind words_fault.Digest = ⊥
TellsRefusal kind words_fault.TitleAlone = ⊥
TellsRefusal kind words_fault.Form = ⊥
TellsRefusal kind (words_fault.Words text status) = (kind ≢ OutOfMemory) × (status ≡ status_of_kind kind) × (string_bytes text ≢ [])

-- the printed text is the given one, if that is known and not empty
abbrev pub TellsOwnText : Option Text → WordsFault → Type 0
TellsOwnText own words_fault.Memory = ⊤
TellsOwnText own words_fault.Verdict = ⊥
TellsOwnText own words_fault.Origin = ⊥
TellsOwnText own words_fault.Digest = ⊥
TellsOwnText own words_fault.TitleAlone = ⊥
TellsOwnText own words_fault.Form = ⊥
TellsOwnText own (words_fault.Words text status) = IsOwnText own (string_bytes text)
