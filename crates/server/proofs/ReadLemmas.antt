-- The cached responses to reads.
use Rattle.std.proofs.Common.{◌≡◌, ◌<◌, ◌∙◌, ◌∷◌, ◌++◌, ℕ, List, [], ap, append_assoc, arith, get_or, length, map, remove, subst, sym}
use Rattle.std.specs.List.{Contains}
use Rattle.std.proofs.lemmas.List.{get_or-map, length-map}
use Rattle.server.specs.Reads.{ReadEntry, read_entry}
use Rattle.wire.specs.declared.target.Resource.{Resource}
use Rattle.server.specs.declared.read_cache.CachedRead.{CachedRead}

-- the oldest response was removed
pub gone_more : (first : List ReadEntry) (answers left : List CachedRead) (gone : List ReadEntry) → first ≡ gone ++ map read_entry answers → left ≡ remove answers 0
    → (more : List ReadEntry) × (first ≡ more ++ map read_entry left)
gone_more first [] left gone is rest = (gone, is ∙ ap (λ (kept : List CachedRead). gone ++ map read_entry kept) (sym rest))
gone_more first (one ∷ answers) left gone is rest = (
  gone ++ read_entry one ∷ [],
  is ∙ sym (append_assoc gone (read_entry one ∷ []) (map read_entry answers)) ∙ ap (λ (kept : List CachedRead). (gone ++ read_entry one ∷ []) ++ map read_entry kept) (sym rest),
)

-- one of the cached responses
pub kept_has : (answers seen : List CachedRead) (place : ℕ) (one : CachedRead) (what : Resource) (answer : List ℕ) → seen ≡ answers → place < length seen
    → one ≡ get_or seen place one → one.what ≡ what
    → answer ≡ one.answer.items → (entry : ReadEntry) × Contains (map read_entry answers) entry × (entry.what ≡ what) × (entry.answer ≡ answer)
kept_has answers seen place one what answer same within is asked told =
    subst (λ (xs : List CachedRead). (entry : ReadEntry) × Contains (map read_entry xs) entry × (entry.what ≡ what) × (entry.answer ≡ answer)) same
    (read_entry one, (place, omega (arith, within, length-map seen read_entry), get_or-map read_entry seen place one (read_entry one) within ∙ ap read_entry (sym is)), asked, sym told)
