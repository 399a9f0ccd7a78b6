-- Each connection keeps the stream that it was accepted with, whichever connections are accepted, serviced or closed.
use Rattle.std.proofs.Common.{◌≡◌, ◌++◌, ◌∷◌, ℕ, zero, suc, List, [], None, Option, Some, drop, get_or, length, set, slice_get, subst, sym, take, ◌<◌}
use Rattle.std.specs.Prelude.{IsSomeAnd}
use Rattle.std.specs.List.{remove}
use Rattle.std.proofs.lemmas.List.Elements.{All-append, All-drop, All-push, All-set, All-take, All-weaker}
use Rattle.connections.specs.declared.client.Client.{Client}
use Rattle.connections.specs.Streams.{Stream}
use Rattle.connections.specs.Clients.{AllOf, IsOf}

-- what holds for an element of a list still holds when more elements are appended
kept_before : {X : Type 0} (P : X → Type 0) (xs ys : List X) (n : ℕ) → IsSomeAnd (slice_get xs n) P → IsSomeAnd (slice_get (xs ++ ys) n) P
kept_before P [] ys n is = absurd is
kept_before P (x ∷ xs) ys zero is = is
kept_before P (x ∷ xs) ys (suc n) is = kept_before P xs ys n is

stands_at_end : {X : Type 0} (P : X → Type 0) (xs : List X) (x : X) → P x → IsSomeAnd (slice_get (xs ++ x ∷ []) (length xs)) P
stands_at_end P [] x p = p
stands_at_end P (y ∷ xs) x p = stands_at_end P xs x p

module _ {L : Type 0} (stream : Stream L) where
  abbrev Own : List L → Client L → Type 0
  Own came client = IsSomeAnd (slice_get came client.number) (λ start. IsOf stream start client)

  -- another connection was accepted, under the next number
  pub all_of_entered : (came : List L) (clients : List (Client L)) (start : L) (client : Client L) → AllOf stream came clients → client.number ≡ length came → IsOf stream start client
      → AllOf stream (came ++ start ∷ []) (clients ++ client ∷ [])
  all_of_entered came clients start client all is own =
      All-push (Own (came ++ start ∷ [])) clients client
      (All-weaker (Own came) (Own (came ++ start ∷ [])) (λ other his. kept_before (λ s. IsOf stream s other) came (start ∷ []) other.number his) clients all)
      (subst (λ (n : ℕ). IsSomeAnd (slice_get (came ++ start ∷ []) n) (λ s. IsOf stream s client)) (sym is) (stands_at_end (λ s. IsOf stream s client) came start own))

  -- one connection was serviced, whatever its stream
  pub all_of_gone_on : (came : List L) (clients : List (Client L)) (place : ℕ) (old new : Client L) → AllOf stream came clients → place < length clients → get_or clients place old ≡ old
      → new.number ≡ old.number → ((start : L) → IsOf stream start old → IsOf stream start new) → AllOf stream came (set clients place new)
  all_of_gone_on came clients place old new all lt is number on =
      All-set (Own came) clients place new (subst (λ (n : ℕ). IsSomeAnd (slice_get came n) (λ s. IsOf stream s new)) (sym number)
      (goes_on (slice_get came old.number) (subst (Own came) is (all place old lt)))) all
    where
      goes_on : (found : Option L) → IsSomeAnd found (λ s. IsOf stream s old) → IsSomeAnd found (λ s. IsOf stream s new)
      goes_on None his = absurd his
      goes_on (Some start) his = on start his

  -- one connection was closed
  pub all_of_left : (came : List L) (clients : List (Client L)) (place : ℕ) → AllOf stream came clients → AllOf stream came (remove clients place)
  all_of_left came clients place all =
      All-append (Own came) (take place clients) (drop (suc place) clients) (All-take (Own came) place clients all) (All-drop (Own came) (suc place) clients all)
