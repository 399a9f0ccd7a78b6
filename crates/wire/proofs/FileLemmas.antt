-- The files of an order, read one by one.
use Rattle.std.proofs.Common.{◌≡◌, ◌∙◌, List, Option, Some, None, [], ◌∷◌, ◌++◌, ap, append_assoc, refl, sym, ℕ}
use Rattle.std.specs.Prelude.{option_and_then, option_map}
use Rattle.std.proofs.lemmas.List.{append-nil}
use Rattle.serde_json.specs.Data.{Data, Members, member, no_members}
use Rattle.serde_json.specs.Find.{as_str}
use Rattle.wire.specs.ConsoleOrders.{ConsoleFileEntry, files_of}

-- some of an object's members have been read, as the given files, and the others haven't been read yet
abbrev pub AreReadOf : Members → List ConsoleFileEntry → Members → Type 0
AreReadOf all files rest = files_of all ≡ option_map (λ more. files ++ more) (files_of rest)

with_none : (o : Option (List ConsoleFileEntry)) → o ≡ option_map (λ (more : List ConsoleFileEntry). more) o
with_none None = refl
with_none (Some files) = refl

pub AreReadOf-none : (all : Members) → AreReadOf all [] all
AreReadOf-none all = with_none (files_of all)

with_more : (files : List ConsoleFileEntry) (file : ConsoleFileEntry) (o : Option (List ConsoleFileEntry))
    → option_map (λ (more : List ConsoleFileEntry). files ++ more) (option_map (λ (more : List ConsoleFileEntry). file ∷ more) o)
    ≡ option_map (λ (more : List ConsoleFileEntry). (files ++ file ∷ []) ++ more) o
with_more files file None = refl
with_more files file (Some more) = ap Some (sym (append_assoc files (file ∷ []) more))

-- another file
pub AreReadOf-more : (all : Members) (files : List ConsoleFileEntry) (name text : List ℕ) (value : Data) (rest : Members) → AreReadOf all files (member name value rest) → as_str value ≡ Some text
    → AreReadOf all (files ++ record { name = name; text = text } ∷ []) rest
AreReadOf-more all files name text value rest reads is = reads ∙ rw is (with_more files (record { name = name; text = text }) (files_of rest))

-- a value that isn't a string
pub AreReadOf-stop : (all : Members) (files : List ConsoleFileEntry) (name : List ℕ) (value : Data) (rest : Members) → AreReadOf all files (member name value rest)
    → as_str value ≡ None → files_of all ≡ None
AreReadOf-stop all files name value rest reads is = reads ∙ rw is refl

-- all members
pub AreReadOf-all : (all : Members) (files : List ConsoleFileEntry) → AreReadOf all files no_members → files_of all ≡ Some files
AreReadOf-all all files reads = reads ∙ ap Some (append-nil files)
