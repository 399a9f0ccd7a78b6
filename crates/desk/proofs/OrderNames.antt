-- A name that is neither a command's, nor a question's, nor one of the other orders' isn't the name of an order.
use Rattle.std.proofs.Common.{◌≡◌, ◌∙◌, ◌++◌, Bool, List, [], ◌∷◌, true, false, refl, sym, ap}
use Rattle.std.specs.Prelude.{◌||◌, ◌&&◌, ⊤, bytes_eq, codes}
use Rattle.std.specs.List.{list_all, list_any}
use Rattle.std.proofs.lemmas.Bool.{and_parts, false_from_ne_true, false≢true, or_from, or_parts}
use Rattle.std.proofs.lemmas.List.Folds.{list_any-append}
use Rattle.std.proofs.lemmas.Slice.Eq.{bytes_eq-Decides}
use Rattle.clap.specs.Words.{Text}
use Rattle.desk.specs.Orders.{OrderEntry, orders}
use Rattle.desk.specs.Words.{is_command_name, is_order_name, is_question_name}

-- the names of orders that ask a question
abbrev question_names : List Text
question_names = codes "wards" ∷ codes "batches" ∷ codes "doubtful" ∷ codes "differences" ∷ codes "papers" ∷ codes "fields" ∷ codes "receipts" ∷ []

-- the names of orders that neither send a command nor ask a question
abbrev pub other_names : List Text
other_names =
    codes "init" ∷ codes "migrate" ∷ codes "import-candidates" ∷ codes "import-batches" ∷ codes "import-keying" ∷ codes "key" ∷ codes "seal" ∷ codes "count"
    ∷ codes "next" ∷ codes "status" ∷ codes "sheet" ∷ codes "result" ∷ codes "ballots" ∷ codes "page" ∷ codes "table" ∷ codes "index" ∷ codes "serve" ∷ codes "forms"
    ∷ codes "journal" ∷ codes "replay" ∷ codes "second" ∷ codes "copy" ∷ codes "mend" ∷ codes "switch" ∷ codes "codes" ∷ codes "publish" ∷ []

-- the name is none of these
abbrev pub IsNoneOf : List Text → Text → Type 0
IsNoneOf [] name = ⊤
IsNoneOf (t ∷ ts) name = (name ≡ t → ⊥) × IsNoneOf ts name

none_of : (ts : List Text) (name : Text) → IsNoneOf ts name → list_any (bytes_eq name) ts ≡ false
none_of [] name none = refl
none_of (t ∷ ts) name none =
    or_from (bytes_eq name t) (list_any (bytes_eq name) ts) (false_from_ne_true (bytes_eq name t) (λ same. none.0 ((bytes_eq-Decides name t).0 same))) (none_of ts name none.1)

-- an order that sends a command, or that has one of the given names, doesn't have a name that is no command's and none of those
entry_unnamed : (name own : Text) (command : Bool) (others : List Text) → (command || list_any (bytes_eq own) others) ≡ true
    → (command && bytes_eq name own) ≡ false → list_any (bytes_eq name) others ≡ false → bytes_eq name own ≡ false
entry_unnamed name own true others known no_command no_other = no_command
entry_unnamed name own false others known no_command no_other =
    false_from_ne_true (bytes_eq name own)
    (λ same. false≢true (sym no_other ∙ (ap (λ (n : Text). list_any (bytes_eq n) others) ((bytes_eq-Decides name own).0 same) ∙ known)))

unnamed : (name : Text) (others : List Text) (es : List OrderEntry) → list_all (λ (e : OrderEntry). e.is_command || list_any (bytes_eq e.typed.name) others) es ≡ true
    → list_any (λ (e : OrderEntry). e.is_command && bytes_eq name e.typed.name) es ≡ false → list_any (bytes_eq name) others ≡ false
    → list_any (λ (e : OrderEntry). bytes_eq name e.typed.name) es ≡ false
unnamed name others [] known no_command no_other = refl
unnamed name others (e ∷ es) known no_command no_other =
    let k = and_parts (e.is_command || list_any (bytes_eq e.typed.name) others) (list_all (λ (f : OrderEntry). f.is_command || list_any (bytes_eq f.typed.name) others) es) known in
    let n = or_parts (e.is_command && bytes_eq name e.typed.name) (list_any (λ (f : OrderEntry). f.is_command && bytes_eq name f.typed.name) es) no_command in
    or_from (bytes_eq name e.typed.name) (list_any (λ (f : OrderEntry). bytes_eq name f.typed.name) es)
    (entry_unnamed name e.typed.name e.is_command others k.0 n.0 no_other) (unnamed name others es k.1 n.1 no_other)

all_known : list_all (λ (e : OrderEntry). e.is_command || list_any (bytes_eq e.typed.name) (question_names ++ other_names)) orders ≡ true
unfolding orders
all_known = refl

pub no_order : (name : Text) → IsNoneOf other_names name → is_question_name name ≡ false → is_command_name name ≡ false → is_order_name name ≡ false
no_order name none no_question no_command =
    unnamed name (question_names ++ other_names) orders all_known no_command
    (list_any-append (bytes_eq name) question_names other_names ∙ or_from (list_any (bytes_eq name) question_names) (list_any (bytes_eq name) other_names) no_question (none_of other_names name none))
