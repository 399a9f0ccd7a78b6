-- The status for words that `clap` rejects.
use Rattle.std.proofs.Common.{◌≡◌, ◌∙◌, ◌⊎◌, ℕ, List, [], ◌∷◌, Option, Some, true, refl, subst, sym, ap, inl, inr}
use Rattle.std.specs.Prelude.{◌==◌}
use Rattle.std.specs.List.{list_any}
use Rattle.std.proofs.Math.Bool.{or-true}
use Rattle.std.proofs.lemmas.Bool.{eq-eqb}
use Rattle.clap.specs.Words.{HasKind, IsAmong, Kinds, Text, app_of, fault_of, is_simple_and_free}
use Rattle.clap.specs.declared.builder.command.Command.{Command}
use Rattle.clap.specs.declared.error.Error.{Error}
use Rattle.clap.specs.declared.error.kind.ErrorKind.{ErrorKind}
use Rattle.clap.specs.declared.error.kind.ErrorKind.TheVariants as kind
use Rattle.clap.proofs.OnLiterals.{clap_on_literals}
use Rattle.desk.specs.Orders.{Meant, orders}
use Rattle.desk.specs.Versions.{version_text}
use Rattle.desk.specs.Words.{IsNoneMeant, IsToldOf, TellsOwnText, TellsRefusal, office_words, status_of_kind, wrong_with}
use Rattle.desk.specs.declared.words.WordsFault.{WordsFault}
use Rattle.desk.specs.declared.words.WordsFault.TheVariants as words_fault

-- a kind in a list of kinds has the status of one of them
among_gives_status : (k : ErrorKind) (kinds : Kinds) (status : ℕ) → status ≡ status_of_kind k → IsAmong k kinds
    → list_any (λ x. status_of_kind x == status) kinds ≡ true
among_gives_status k [] status is none = absurd none
among_gives_status k (x ∷ xs) status is (inl same) = rw (eq-eqb (status_of_kind x) status (ap status_of_kind (sym same) ∙ sym is)) refl
among_gives_status k (x ∷ xs) status is (inr later) = rw (among_gives_status k xs status is later) (or-true _)

-- a kind in a list of one kind is that kind
only_kind : (k : ErrorKind) (kinds : Kinds) → kinds ≡ kind.DisplayVersion ∷ [] → IsAmong k kinds → k ≡ kind.DisplayVersion
only_kind k kinds only among = elim (subst (IsAmong k) only among) [ inl same ↦ same | inr none ↦ absurd none ]

-- the same holds for any kind except the one for a failed allocation
refusal_gives_status : (k : ErrorKind) (kinds : Kinds) (status : ℕ) → status ≡ status_of_kind k → (k ≡ kind.OutOfMemory → ⊥) → (k ≡ kind.OutOfMemory) ⊎ IsAmong k kinds
    → list_any (λ x. status_of_kind x == status) kinds ≡ true
refusal_gives_status k kinds status is other (inl memory) = absurd (other memory)
refusal_gives_status k kinds status is other (inr among) = among_gives_status k kinds status is among

-- what is printed for a refusal is what is printed for the errors in the words
refusal_is_told : (k : ErrorKind) (kinds : Kinds) (fault : WordsFault) → TellsRefusal k fault → (k ≡ kind.OutOfMemory) ⊎ IsAmong k kinds → IsToldOf kinds fault
refusal_is_told k kinds words_fault.Memory tells among = tt
refusal_is_told k kinds words_fault.Verdict tells among = absurd tells
refusal_is_told k kinds words_fault.Origin tells among = absurd tells
refusal_is_told k kinds words_fault.Digest tells among = absurd tells
refusal_is_told k kinds words_fault.TitleAlone tells among = absurd tells
refusal_is_told k kinds words_fault.Form tells among = absurd tells
refusal_is_told k kinds (words_fault.Words text status) tells among = (refusal_gives_status k kinds status tells.1 tells.0 among, tells.2)

-- the same holds, given the kind that was read from the error
pub refusal_told : (k given : ErrorKind) (kinds : Kinds) (fault : WordsFault) → given ≡ k → TellsRefusal given fault → (k ≡ kind.OutOfMemory) ⊎ IsAmong k kinds → IsToldOf kinds fault
refusal_told k given kinds fault same tells among = refusal_is_told k kinds fault (subst (λ x. TellsRefusal x fault) same tells) among

-- and no word is reported as invalid
pub refusal_means_no_none : (k : ErrorKind) (meant : Option Meant) (fault : WordsFault) → TellsRefusal k fault → IsNoneMeant meant fault
refusal_means_no_none k meant words_fault.Memory tells = tt
refusal_means_no_none k meant words_fault.Verdict tells = absurd tells
refusal_means_no_none k meant words_fault.Origin tells = absurd tells
refusal_means_no_none k meant words_fault.Digest tells = absurd tells
refusal_means_no_none k meant words_fault.TitleAlone tells = absurd tells
refusal_means_no_none k meant words_fault.Form tells = absurd tells
refusal_means_no_none k meant (words_fault.Words text status) tells = tt

-- if the words ask for the version, the version is printed
pub version_asked : (k given : ErrorKind) (kinds : Kinds) (fault : WordsFault) → given ≡ k → kinds ≡ kind.DisplayVersion ∷ [] → (k ≡ kind.OutOfMemory) ⊎ IsAmong k kinds
    → (given ≡ kind.OutOfMemory → fault ≡ words_fault.Memory) → (given ≡ kind.DisplayVersion → TellsOwnText (Some version_text) fault) → TellsOwnText (Some version_text) fault
version_asked k given kinds fault same only (inl memory) none told = rw (none (same ∙ memory)) tt
version_asked k given kinds fault same only (inr among) none told = told (same ∙ only_kind k kinds only among)

-- words that are accepted don't ask for the version
pub none_asked : (kinds : Kinds) → kinds ≡ [] → kinds ≡ kind.DisplayVersion ∷ [] → ⊥
none_asked kinds none asked = cc

office_is_free : is_simple_and_free office_words ≡ true
unfolding office_words orders clap_on_literals
office_is_free = refl

-- nothing is wrong with words that the office's command accepts,
pub taken_is_right : (c : Command) (words : List Text) → app_of c ≡ office_words → (is_simple_and_free (app_of c) ≡ true → fault_of (app_of c) words ≡ [])
    → wrong_with words ≡ []
taken_is_right c words app free = ap (λ a. fault_of a words) (sym app) ∙ free (ap is_simple_and_free app ∙ office_is_free)

same_kinds : (one two : Kinds) (e : Error) → one ≡ two → HasKind one e → HasKind two e
same_kinds one two e same has = rw same at has

-- and the error that it reports for words that it rejects is what is wrong with them
pub refused_is_wrong : (c : Command) (words : List Text) (e : Error) → app_of c ≡ office_words
    → (is_simple_and_free (app_of c) ≡ true → HasKind (fault_of (app_of c) words) e) → HasKind (wrong_with words) e
refused_is_wrong c words e app free =
    same_kinds (fault_of (app_of c) words) (wrong_with words) e (ap (λ a. fault_of a words) app) (free (ap is_simple_and_free app ∙ office_is_free))
